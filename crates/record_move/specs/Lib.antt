pub mod Copies
pub mod Tables
pub mod Follows
pub mod Figures
