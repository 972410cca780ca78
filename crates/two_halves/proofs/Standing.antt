-- What stands in a half, and what keeps it: the roots of all processes with their trees, objects and places that come into free words, and
-- the test of roles that covers no more than is listed.
pub mod Stacks
pub mod Held
pub mod Apart
pub mod Keeping
pub mod Filled
pub mod Covered
pub mod Joining
