pub mod Forms
pub mod Output
pub mod Reading
pub mod Parses
pub mod Figures
