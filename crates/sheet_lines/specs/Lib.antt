-- The definitions of the lines of a sheet; paper 01 in its order.
pub mod Number
pub mod Form
pub mod LineText
pub mod theorems
pub mod tables
pub mod inner
