pub mod Reading
pub mod Pointers
pub mod Binaries
pub mod Seen
