pub mod Side
pub mod Laid
pub mod Found
pub mod Slid
