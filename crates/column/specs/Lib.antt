-- The definitions of a column; papers 01 and 02 in their order.
pub mod Line
pub mod Accepted
pub mod Column
pub mod Seen
pub mod Pasted
pub mod theorems
pub mod tables
pub mod inner
