-- The definitions of the report.
pub mod Report
pub mod theorems
pub mod tables
pub mod inner
