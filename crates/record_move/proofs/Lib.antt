pub mod Moving
pub mod Walking
pub mod Narrow
pub mod Renewing
pub mod Leaving
pub mod Room
