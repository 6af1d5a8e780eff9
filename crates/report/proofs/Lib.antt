-- Laws of the definitions, for the proofs here and in the crates above.
pub mod Live
pub mod Table
pub mod Prints
pub mod Lengths
pub mod Examples
