-- Laws of the definitions, for the proofs here and in the crates above.
pub mod Examples
pub mod Lines
pub mod Columns
pub mod Reach
pub mod InTurn
pub mod Seen
pub mod InPlace
pub mod EntriesFrom
pub mod Entering
pub mod EntryNumbers
pub mod Pasting
pub mod Mixtures
