-- Single steps of reading: a word looked up in a table, the first operand of a row, rows of numbers, blanks, numbers, atoms, and what a step leaves as it was.
pub mod Tables
pub mod Tools
pub mod PartSteps
pub mod RowSteps
pub mod TermSteps
pub mod KeepsSteps
pub mod GapSteps
pub mod NumberSteps
pub mod NumberRows
pub mod AtomSteps
