pub mod Role
pub mod Object
pub mod Stands
pub mod Kept
pub mod Reach
pub mod Tiled
pub mod Counted
pub mod Relocated
