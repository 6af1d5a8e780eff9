-- Statements of theorems, and what only they speak of; no promise reaches them.
pub mod RoundTrip
