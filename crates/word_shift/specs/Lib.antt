pub mod Shifted
pub mod Moves
pub mod Slides
