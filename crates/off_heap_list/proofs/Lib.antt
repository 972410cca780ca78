pub mod Chaining
pub mod Walked
