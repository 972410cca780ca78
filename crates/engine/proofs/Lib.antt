pub mod Writing
pub mod Rising
pub mod Replies
pub mod Acting
pub mod Naming
pub mod Taking
pub mod Lasting
pub mod Turns
