pub mod Listed
pub mod Spots
