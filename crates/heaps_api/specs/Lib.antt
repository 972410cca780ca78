pub mod Meaning
pub mod Making
pub mod Wanted
pub mod Reading
pub mod Changing
pub mod Written
