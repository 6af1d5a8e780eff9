-- The definitions of writing a sheet.
pub mod Saving
pub mod theorems
pub mod tables
pub mod inner
