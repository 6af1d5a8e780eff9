-- The text of a sheet, and what holds of reading it.
pub mod Written
pub mod theorems
