pub mod Runs
pub mod Rules
pub mod Lawful
pub mod Insert
pub mod Models
pub mod Edits
