pub mod Standing
mod Moved
pub mod Collected
mod Coming
pub mod Queued
