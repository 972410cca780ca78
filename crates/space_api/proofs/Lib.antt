pub mod Naming
pub mod Proper
