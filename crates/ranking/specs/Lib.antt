pub mod Ranks
pub mod Items
pub mod Lawful
pub mod Close
pub mod Rotation
pub mod Insert
pub mod Joined
