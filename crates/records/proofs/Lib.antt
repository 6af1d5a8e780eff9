-- Laws of the list call, for the proofs here and in the crates above.
pub mod Answers
pub mod Examples
pub mod InTurn
pub mod InPlace
