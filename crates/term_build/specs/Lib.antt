pub mod Taken
pub mod Clear
pub mod Grows
pub mod Parts
