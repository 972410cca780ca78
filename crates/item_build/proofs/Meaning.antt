-- What items mean: bytes, items that are whole, the tree that a written term's items come to, its shared binaries, and what stays said of
-- trees as more shared binaries come.
pub mod Bytes
pub mod Whole
pub mod Growing
pub mod Terms
pub mod Written
pub mod Known
