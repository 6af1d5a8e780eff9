-- The 25 combinations, the rows that govern, and the whole answer.
pub mod Factors
pub mod Governing
pub mod Combine
pub mod theorems
pub mod tables
pub mod inner
