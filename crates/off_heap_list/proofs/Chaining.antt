-- A chain beside standing trees: what keeps it as the memory changes, and that it makes counts exact where it lists what is reached.
pub mod Chained
pub mod Exact
pub mod Several
pub mod Relocated
