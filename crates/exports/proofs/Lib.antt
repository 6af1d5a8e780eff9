-- Laws of what C and Rust are given.
pub mod Answered
pub mod Opened
