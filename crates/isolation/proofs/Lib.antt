pub mod Named
mod Areas
mod Finding
mod ByName
mod Own
mod Others
mod AreaSteps
mod Alike
mod Told
mod Births
mod Solitary
pub mod Alone
