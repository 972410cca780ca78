-- What keeps records and trees: the memory changes elsewhere, in a free place or where nothing stands; a list of words grows; shared binaries come; a
-- test of roles is weaker, or stronger where all words pass it, or narrowed to one owner.
pub mod Records
pub mod Frames
pub mod Rooms
pub mod Lists
pub mod Growing
pub mod Narrowing
pub mod Sight
