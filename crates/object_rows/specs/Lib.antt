pub mod Row
pub mod Raised
pub mod Dropped
