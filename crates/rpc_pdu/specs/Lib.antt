pub mod Refusals
pub mod Headers
pub mod Bodies
pub mod Decoding
pub mod Encoding
pub mod Spelling
pub mod Laws
