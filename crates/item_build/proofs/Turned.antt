-- Items are turned into words from the right to the left: what stands on the row of words, what one item makes of it, and what all leave.
pub mod Marks
pub mod Makes
pub mod Steps
pub mod Ending
