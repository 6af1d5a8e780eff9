-- Laws of sums, of the table, of the rows that govern, and of the whole answer.
pub mod RowSums
pub mod Table
pub mod Governs
pub mod Answers
pub mod Examples
