pub mod Weighing
pub mod Occurring
pub mod Demand
