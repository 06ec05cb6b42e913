pub mod Locals
pub mod Held
mod Answered
mod Tested
mod Firsts
pub mod Steps
mod Listing
