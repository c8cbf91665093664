pub mod Floors
pub mod Covering
