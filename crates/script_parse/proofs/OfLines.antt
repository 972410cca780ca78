-- Whole lines: what is read says what was read, what a line says is read, and it says one command at most.
pub mod LineSound
pub mod LineComplete
pub mod Verdict
pub mod OneLine
