pub mod Left
pub mod Own
pub mod Printed
pub mod Short
pub mod Runs
pub mod Going
