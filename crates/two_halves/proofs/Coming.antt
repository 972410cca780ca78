-- A record comes into a half, and the object that names it, which joins the chain.
pub mod Adding
pub mod Linking
