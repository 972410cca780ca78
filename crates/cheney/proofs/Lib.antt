pub mod Before
pub mod Stepping
pub mod Rooted
pub mod After
