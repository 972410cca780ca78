pub mod Ordered
pub mod Listed
pub mod Whole
pub mod Meaning
pub mod Entries
