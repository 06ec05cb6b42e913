pub mod Records
pub mod Lists
pub mod Maps
pub mod Staged
pub mod State
pub mod Steps
pub mod Standing
