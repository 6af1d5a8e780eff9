-- What only private functions ask, and laws say; no promise reaches it.
pub mod Stopped
pub mod SoFar
