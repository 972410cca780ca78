pub mod Properly
pub mod Numbering
pub mod ByLine
