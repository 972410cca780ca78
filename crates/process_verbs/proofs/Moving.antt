-- Verbs that make, end and move: what they make of the state, once the memory has done its part.
pub mod Living
pub mod Sizing
pub mod Sending
