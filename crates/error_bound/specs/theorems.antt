-- Statements of theorems, and what only they speak of; no promise reaches them.
pub mod Demand3
pub mod Mixtures
