mod Tables
pub mod Laws
