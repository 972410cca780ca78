pub mod Memory
pub mod Ownership
