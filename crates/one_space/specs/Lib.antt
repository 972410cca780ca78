pub mod Heap
pub mod Space
pub mod Image
pub mod Entered
pub mod Gathered
pub mod Figures
