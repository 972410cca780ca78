-- One heap for all processes as a memory of them: what keeps its rows and what is read of them, room and collections, what is built in a
-- register, what comes into one with a record, how rows change, what is told of it, and how it is opened.
pub mod Keeping
pub mod Rooming
pub mod Acting
pub mod Growing
pub mod Making
pub mod Gaining
pub mod Putting
pub mod Building
pub mod Counted
pub mod Imaged
pub mod Opening
