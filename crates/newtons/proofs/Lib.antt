-- Laws of sizes, of values and of one effect.
pub mod Word
pub mod Values
pub mod Limits
