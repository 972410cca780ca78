pub mod Naming
pub mod Commands
