pub mod Sized
pub mod Values
pub mod Codes
pub mod Listed
