-- Laws of the definitions, for the proofs here and in the crates above.
pub mod Sizes
pub mod SaidSoFar
pub mod Ends
pub mod Back
