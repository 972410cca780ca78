pub mod Parts
pub mod Data
pub mod Look
