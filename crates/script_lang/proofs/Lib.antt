pub mod Numbers
pub mod Paths
pub mod Values
pub mod Spaces
pub mod Lines
pub mod Turns
pub mod Texts
pub mod Scripts
