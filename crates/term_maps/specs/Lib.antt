pub mod Stops
pub mod Spots
pub mod Given
