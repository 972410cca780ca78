pub mod Stepwise
pub mod OfTerms
pub mod OfLines
