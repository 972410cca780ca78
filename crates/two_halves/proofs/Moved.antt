-- The roots move: one stack place, a stack, what one row names, and so row by row all that the processes name.
pub mod Going
pub mod Placing
pub mod Stacking
pub mod Rowing
pub mod AllRows
