pub mod Drawn
pub mod Tables
pub mod Figures
