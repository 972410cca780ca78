pub mod ByKind
pub mod Framing
pub mod Placing
pub mod Reaching
pub mod Totals
