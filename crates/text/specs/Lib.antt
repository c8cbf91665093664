pub mod Records
pub mod RowFalls
pub mod Calls
pub mod Documents
pub mod Written
