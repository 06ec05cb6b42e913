pub mod Next
pub mod Errors
