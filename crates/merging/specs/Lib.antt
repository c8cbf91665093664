pub mod Ways
pub mod Pop
pub mod Grid
pub mod Law
