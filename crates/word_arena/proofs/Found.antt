-- The table by which free blocks are found: numbers of stretches under the greatest of each 64, each entry right or not about its stretch
-- alone, and searches that skip what holds nothing large enough.
pub mod Levels
pub mod Table
pub mod Searching
