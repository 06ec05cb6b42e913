pub mod Spelling
pub mod Fields
pub mod Local
pub mod Refusals
pub mod Laws
