pub mod Recorded
pub mod Tree
pub mod Next
pub mod Examples
pub mod Shown
pub mod Steps
pub mod Winner
pub mod Rows
