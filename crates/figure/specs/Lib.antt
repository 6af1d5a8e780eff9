-- The definitions of what holds at a floor; paper 01 in its order.
pub mod Carried
pub mod Figure
pub mod Asked
pub mod Lowest
pub mod Workings
pub mod theorems
pub mod tables
pub mod inner
