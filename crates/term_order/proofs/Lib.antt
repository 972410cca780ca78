pub mod Strings
pub mod Owning
pub mod Walks
pub mod Passing
pub mod Sames
