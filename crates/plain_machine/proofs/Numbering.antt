-- The numbers of processes: what changes them, and what a run makes of them.
pub mod Numbers
pub mod Numbered
