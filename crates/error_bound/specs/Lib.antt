-- The definitions of a whole list of entries and of the claim about it; paper 01 in its order.
pub mod Entries
pub mod Claim
pub mod theorems
pub mod tables
pub mod inner
