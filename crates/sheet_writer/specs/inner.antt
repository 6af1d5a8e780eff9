-- What only private functions ask, and laws say; no promise reaches it.
pub mod Parts
pub mod Counted
