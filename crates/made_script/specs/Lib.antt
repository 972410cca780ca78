pub mod Draws
pub mod Lines
pub mod Pieces
pub mod Script
pub mod Figures
pub mod Worked
