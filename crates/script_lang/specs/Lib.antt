pub mod Grammar
pub mod Script
pub mod Reading
pub mod Refusals
pub mod Laws
