-- Laws of the definitions, for the proofs here and in the crates above.
pub mod Squares
pub mod Least
pub mod Root
pub mod Classes
pub mod Shares
pub mod Reduced
pub mod Twentieths
pub mod Figures
pub mod Fits
pub mod Scales
mod Down
mod Found
