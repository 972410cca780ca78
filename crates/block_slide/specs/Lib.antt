pub mod Down
pub mod Parts
pub mod Held
