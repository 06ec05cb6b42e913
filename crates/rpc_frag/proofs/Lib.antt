pub mod Cuts
pub mod Gathering
pub mod Parts
pub mod Given
