pub mod Taking
pub mod Rooms
pub mod Growing
pub mod Putting
pub mod Objects
