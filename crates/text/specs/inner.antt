-- Definitions of which only the contracts of private functions speak.
pub mod Texts
