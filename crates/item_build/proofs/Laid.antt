-- Long binaries come first: their records are laid, and then holders over them, which join the chain.
pub mod Laying
pub mod Chaining
pub mod Holding
pub mod Recording
pub mod Joining
