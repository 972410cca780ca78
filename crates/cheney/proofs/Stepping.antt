-- One step: an object moves, or a word of a copy is scanned. First what any step keeps, then the step over marks and words of the memory,
-- then what the calls write, and last the calls' clauses. The state between two steps is kept by each.
pub mod Facts
pub mod Moves
pub mod Writing
pub mod Copying
pub mod Steps
pub mod Scanning
