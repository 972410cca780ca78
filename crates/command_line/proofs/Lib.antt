mod Numbers
mod Program
pub mod Arenas
