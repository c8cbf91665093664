pub mod Repeat
pub mod Refused
