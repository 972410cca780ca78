pub mod Found
pub mod Picked
pub mod Placed
pub mod Cut
