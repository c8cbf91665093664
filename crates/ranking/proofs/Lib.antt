pub mod Each
pub mod Next
pub mod Joined
pub mod Steps
pub mod Close
pub mod Insert
pub mod Lists
pub mod Turns
