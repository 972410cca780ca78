-- Rows that stand for processes: read, written, taken out and added, and how many references they have made.
pub mod Changing
pub mod Turning
