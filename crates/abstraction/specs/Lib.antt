pub mod Lists
pub mod Bounds
pub mod Frames
pub mod Owes
pub mod Room
pub mod Untimed
