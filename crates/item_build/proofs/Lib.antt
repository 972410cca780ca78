pub mod Meaning
pub mod Laid
pub mod Turned
