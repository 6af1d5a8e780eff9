-- Statements of theorems, and what only they speak of; no promise reaches them.
pub mod Entering
pub mod InTurn
pub mod EntryNumbers
pub mod Pasting
pub mod Mixtures
