pub mod Big
pub mod Words
pub mod Answers
pub mod Codes
pub mod Laws
pub mod Leading
