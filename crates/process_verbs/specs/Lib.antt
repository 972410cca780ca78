pub mod Verbs
pub mod Doing
pub mod Asked
pub mod Telling
pub mod Queued
pub mod Listing
pub mod Figures
