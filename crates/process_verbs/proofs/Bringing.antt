-- Verbs that bring a term into a register.
pub mod Gaining
pub mod Pairing
pub mod Setting
