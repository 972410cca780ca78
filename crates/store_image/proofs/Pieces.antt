-- The pieces of an image in the order of their places, where pointers lead as a test, and a worked image that stands for a state.
pub mod Ordered
pub mod Leading
pub mod Worked
pub mod Standing
