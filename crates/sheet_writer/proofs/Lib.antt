-- Laws of the definitions, for the proofs here.
pub mod AnswerExamples
pub mod Texts
pub mod Sizes
pub mod Checks
pub mod Seven
pub mod RoundTrip
