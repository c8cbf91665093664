pub mod Views
pub mod Positions
pub mod Steps
pub mod Calls
pub mod Asking
pub mod Laws
pub mod History
