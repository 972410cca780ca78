-- Terms: what is read is in the grammar, what is in the grammar is read, and it is read in one way. All forms in brackets go by one table.
pub mod Divided
pub mod FormRows
pub mod Sound
pub mod Complete
pub mod Meaning
pub mod OneReading
