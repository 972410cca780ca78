pub mod Items
pub mod Linked
pub mod Taking
pub mod Stepping
pub mod Alike
pub mod Whole
