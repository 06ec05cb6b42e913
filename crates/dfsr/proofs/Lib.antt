pub mod Asked
pub mod Behind
pub mod Causes
pub mod Generated
pub mod Leading
pub mod Writing
