pub mod Going
pub mod Numbers
pub mod Longest
pub mod Layouts
pub mod Values
