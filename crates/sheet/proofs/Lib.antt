-- Laws of the definitions, for the proofs here and in the crates above.
pub mod Kept
mod Newlines
pub mod ReadOn
pub mod Seen
