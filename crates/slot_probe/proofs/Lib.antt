pub mod Spellings
pub mod Founds
pub mod Words
pub mod Writing
