pub mod Good
pub mod Rolls
pub mod Maps
