-- The number of each refusal, and what an answer says.
pub mod Refusal
pub mod Said
