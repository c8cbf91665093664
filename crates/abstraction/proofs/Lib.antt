pub mod Walk
pub mod Found
pub mod Tests
pub mod Room
