-- What is known before anything moves: tags, sizes and forwarding words, the spans that stay, and all that is true of what the roots
-- reach in the memory as it is at the start. No later proof opens what a word stands for again.
pub mod Basics
pub mod Spans
pub mod Lengths
pub mod Ground
