pub mod Feeds
pub mod Nexts
pub mod Writing
