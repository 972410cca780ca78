pub mod Occurs
