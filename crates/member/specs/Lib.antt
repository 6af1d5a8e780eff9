-- The definitions of a member and its lines; paper 01 in its order.
pub mod Between
pub mod Member
pub mod Line
