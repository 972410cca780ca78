pub mod Weights
pub mod Alone
pub mod States
