pub mod Summary
pub mod Made
pub mod Contract
pub mod Statuses
pub mod Arguments
pub mod Figures
