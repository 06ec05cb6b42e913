pub mod Shared
pub mod Stubs
pub mod Requests
pub mod Replies
pub mod Laws
