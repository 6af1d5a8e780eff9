-- The definitions of reading a sheet; paper 01 in its order.
pub mod Sheet
pub mod Keeps
pub mod Seen
pub mod inner
