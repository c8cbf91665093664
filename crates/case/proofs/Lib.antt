pub mod Stacks
pub mod Moving
pub mod Transitions
pub mod Past
