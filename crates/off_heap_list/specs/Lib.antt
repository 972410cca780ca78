pub mod Links
pub mod Swept
pub mod Exact
pub mod Several
pub mod Turned
pub mod Whole
pub mod Dealt
pub mod Elsewhere
