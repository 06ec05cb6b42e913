pub mod Totals
pub mod Keeping
pub mod Tries
pub mod Seats
pub mod Limits
