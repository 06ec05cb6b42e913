pub mod Fragments
pub mod Assembling
pub mod Streams
pub mod Splitting
