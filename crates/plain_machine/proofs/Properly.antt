-- Proper trees: what is made of proper trees is proper, and all that live stay so along a run.
pub mod Growing
pub mod Putting
pub mod Parts
pub mod Making
pub mod Holding
pub mod Areas
pub mod Living
