-- A collection from its roots: it begins, its roots move one by one, as words, in a row, at places of the memory or both, and what its
-- caller writes beside it leaves it as it was.
pub mod Begins
pub mod Rows
pub mod Places
pub mod Stacked
