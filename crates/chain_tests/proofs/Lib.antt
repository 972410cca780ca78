pub mod Sharers
pub mod Sample
pub mod SampleRow
pub mod SampleShift
