pub mod Seeking
pub mod Placing
pub mod Listing
pub mod Mapping
pub mod Picking
pub mod Sorted
mod Cutting
