-- The definitions of the check of the seven effects.
pub mod Check
pub mod theorems
pub mod inner
