-- Laws of lists, and case analysis.
pub mod Tests
pub mod Lists
pub mod Permuted
