pub mod Dividing
pub mod Listed
