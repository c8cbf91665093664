pub mod Writing
pub mod InPlace
pub mod Lawfully
pub mod Simulate
pub mod Editing
