-- The definitions of the list call.
pub mod Listed
pub mod theorems
pub mod tables
pub mod inner
