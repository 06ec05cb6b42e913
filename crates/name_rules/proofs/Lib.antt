pub mod Made
mod Examples
pub mod Cases
pub mod Showing
pub mod Parents
pub mod Lists
pub mod Ranks
pub mod Places
pub mod Children
pub mod Flags
pub mod Descending
pub mod Found
pub mod Winning
pub mod Sorting
pub mod Deepening
pub mod Rooted
