pub mod Staged
pub mod Objects
pub mod Done
pub mod Passing
pub mod Agenda
