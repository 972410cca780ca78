-- A collection from one half to the other: it can begin, each object is copied once, its chain is swept, the records move, and what stood
-- in the old half stands in the new one; or all that lives does not fit.
pub mod Planned
mod Packed
pub mod Ended
mod Swept
mod Settled
mod Bounded
pub mod Done
pub mod Tight
