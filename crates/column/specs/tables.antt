-- Rows that are reckoned, proved as one table; no promise reaches them.
pub mod Pasting
