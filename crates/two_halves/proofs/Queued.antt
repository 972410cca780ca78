-- A message enters a queue at its end, and one leaves it at its front: the rows have the places that they had, but for that one.
pub mod Queuing
mod Following
pub mod Entering
pub mod Copying
pub mod Sending
