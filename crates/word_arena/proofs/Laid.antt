-- What a call leaves. The blocks from one place to another are laid anew, and no word outside of them is written: then all other blocks
-- stay. Each call shows two rows of at most three blocks, before and after.
pub mod Relaid
pub mod Writes
pub mod Taking
pub mod Lent
pub mod Turning
pub mod Greatest
