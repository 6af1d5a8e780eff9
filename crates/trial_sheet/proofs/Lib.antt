-- Laws for the proofs here.
mod Back
mod Doubles
