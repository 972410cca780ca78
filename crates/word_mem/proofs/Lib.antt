pub mod Copies
pub mod Leases
pub mod Lent
pub mod Places
pub mod Rows
