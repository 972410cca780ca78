-- How far blocks move down when the free words before them go: the table of sums, each entry of which is right about its stretch alone, and
-- the walk that brings the blocks in use side by side.
pub mod Summed
pub mod Gathering
pub mod Fronted
