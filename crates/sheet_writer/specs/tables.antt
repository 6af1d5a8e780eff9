-- Rows of the paper, and others that are reckoned, each proved as one table; no promise reaches them.
pub mod Examples
