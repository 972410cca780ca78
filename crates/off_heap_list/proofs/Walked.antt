-- A chain that is gone through object by object: turned round, swept, and what a whole sweep has told.
pub mod Turning
pub mod Sweeping
pub mod Tallied
pub mod Parted
