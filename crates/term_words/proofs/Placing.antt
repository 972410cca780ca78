-- Where trees lie: each word of an object or record has its role, so two of them are one or apart, a word stands for one tree, and rooms
-- are rows of whole objects; and how that is found in a memory that is written out.
pub mod Roles
pub mod Apart
pub mod Single
pub mod Tiles
pub mod Tried
