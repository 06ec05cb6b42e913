pub mod Piles
pub mod Found
pub mod Rows
pub mod Codes
