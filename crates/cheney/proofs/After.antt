-- Where all is scanned: the trees at their new places, what was copied and how much room it took, and the new memory's test of roles, by
-- which a next collection can begin.
pub mod Homes
pub mod Ends
pub mod Counts
pub mod Fitting
pub mod Next
