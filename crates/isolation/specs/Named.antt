-- Trees by name: what they are, what is seen of them and done to them, how one enters a state, and the laws of it, in the order of reading.
pub mod NamedTree
pub mod Seen
pub mod Doing
pub mod Entering
pub mod Laws
