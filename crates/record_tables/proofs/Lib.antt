pub mod Joining
pub mod Staying
pub mod Counting
pub mod Coming
pub mod Linking
