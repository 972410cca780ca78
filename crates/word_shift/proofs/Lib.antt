pub mod Ranges
pub mod Objects
pub mod Walk
pub mod Apart
pub mod Roled
pub mod Sliding
pub mod Still
