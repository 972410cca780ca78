pub mod Writing
pub mod Replies
pub mod Acts
pub mod Rules
pub mod Steps
pub mod Last
pub mod Serving
