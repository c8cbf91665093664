pub mod Bound
pub mod Shrinks
pub mod Items
pub mod Later
pub mod Back
pub mod Reading
