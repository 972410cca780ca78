pub mod Rows
pub mod Walk
pub mod Raised
pub mod Passed
