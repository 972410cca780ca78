pub mod Named
pub mod Held
pub mod Own
pub mod Compared
pub mod Runs
pub mod Same
