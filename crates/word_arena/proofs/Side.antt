-- Blocks side by side. A memory is a row of blocks where each begins at the end of the one before: so the list of places is computed from
-- the headers, and every proof speaks of lists of places. Runs of free blocks and sums over blocks are said of such lists.
pub mod Places
pub mod Tiling
pub mod Facts
pub mod Runs
pub mod Summing
pub mod Shares
pub mod Before
