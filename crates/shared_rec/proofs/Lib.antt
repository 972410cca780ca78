pub mod Records
pub mod InWord
pub mod Rows
