-- What roots reach: it stands, it stays where objects are carried, and it lies at new places by one map.
pub mod Reached
pub mod Carrying
pub mod Relocating
