pub mod Places
pub mod Deciding
pub mod Spelled
pub mod Locals
