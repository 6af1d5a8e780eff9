-- Laws of the definitions, for the proofs here and in the crates above.
pub mod Decimal
pub mod Digits
pub mod Sign
pub mod Lines
pub mod LineEnd
pub mod Passed
pub mod Fewest
pub mod Puts
