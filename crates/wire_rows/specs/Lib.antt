pub mod Reading
pub mod Naming
pub mod Feeding
pub mod Answering
