-- Laws of what holds at a floor.
pub mod AskedExamples
pub mod Carried
pub mod Order
pub mod HeldLines
pub mod Places
pub mod Marked
pub mod ByRate
pub mod Kept
pub mod Most
pub mod Lowest
pub mod Permuted
pub mod Workings
pub mod Walk
