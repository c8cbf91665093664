pub mod Claims
pub mod Judged
pub mod Closed
pub mod Law
pub mod Marks
pub mod Judgings
