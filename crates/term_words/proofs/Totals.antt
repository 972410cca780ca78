-- How much it is: lists without repetition, the flat size of trees against the words of their objects, and places that are counted.
pub mod Members
pub mod Flat
pub mod Counts
pub mod Packing
