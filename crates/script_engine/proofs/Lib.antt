mod Texts
mod Filled
mod Summed
mod Members
mod Ordered
mod Climbing
mod Reached
mod Sorting
pub mod Vectors
pub mod Volumes
pub mod Passing
pub mod Gives
pub mod Leading
pub mod Pulled
pub mod Replicas
pub mod Installed
pub mod Drained
pub mod Scenes
pub mod Pairs
pub mod Going
mod Journals
pub mod Advancing
pub mod Staging
pub mod Operating
pub mod Widths
pub mod Consumption
pub mod Adopting
pub mod Serving
pub mod Finishing
pub mod Stepping
pub mod Events
pub mod Exhausting
pub mod Spoken
pub mod Puller
pub mod Paging
pub mod Asking
pub mod Whole
pub mod Speaking
pub mod Beginning
mod Halting
mod Rounding
pub mod Orders
pub mod Once
pub mod OneText
pub mod Lasting
pub mod Listed
pub mod Equal
pub mod Prints
pub mod Runs
