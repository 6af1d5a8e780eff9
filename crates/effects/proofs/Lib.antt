-- Laws of seven numbers and of the check of seven.
pub mod Places
pub mod Sevens
pub mod Checks
