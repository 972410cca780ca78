pub mod Names
pub mod Rows
pub mod Spread
pub mod Slots
pub mod Figures
