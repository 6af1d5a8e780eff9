-- Laws of the definitions, for the proofs here and in the crates above.
pub mod AtPlace
pub mod Moved
pub mod NumberText
pub mod Fields
pub mod SaysForm
pub mod Examples
