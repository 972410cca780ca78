pub mod Left
pub mod Weights
pub mod Measured
pub mod Runs
