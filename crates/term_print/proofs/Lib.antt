pub mod Texts
pub mod Numbers
pub mod Opening
pub mod Taking
pub mod Running
pub mod Going
pub mod Shortly
