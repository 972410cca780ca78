pub mod Smalls
pub mod Rows
