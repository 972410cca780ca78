pub mod Parting
pub mod Placed
pub mod Standing
pub mod Linking
pub mod Rowing
