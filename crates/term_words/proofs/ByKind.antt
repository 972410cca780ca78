-- Each kind of tree: when a word stands for it, what such a word tells of it, and where its object's words lie. What holds of every kind is
-- proved here once, by one clause a kind, and no other proof looks at kinds.
pub mod Makes
pub mod Shapes
pub mod Inside
pub mod Sizes
pub mod Pairs
