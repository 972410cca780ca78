pub mod Image
pub mod Counting
pub mod Images
