mod Processes
pub mod Steps
mod Bringing
mod Moving
mod Telling
mod Spaces
