-- Laws of the definitions, for the proofs here and in the crates above.
pub mod Bounds
pub mod Roots
pub mod Exact
pub mod Claim
pub mod Mixtures
pub mod Counting
pub mod Examples
