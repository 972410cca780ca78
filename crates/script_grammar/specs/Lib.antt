pub mod Written
pub mod Grammar
pub mod Names
pub mod ReadAs
pub mod Figures
