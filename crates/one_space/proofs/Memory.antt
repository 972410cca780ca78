-- The half under the processes: terms come into its free words, and records come with them, in the chain and in the table.
pub mod Resting
pub mod Tabled
pub mod Landing
