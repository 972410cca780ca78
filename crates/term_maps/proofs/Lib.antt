pub mod Members
pub mod Putting
mod Left
pub mod Compares
mod Turns
mod Sorting
pub mod Named
