pub mod Lawful
pub mod Sizes
pub mod Bodies
pub mod Decoded
pub mod Spelled
pub mod Steady
pub mod Writable
