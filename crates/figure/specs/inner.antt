-- What only private functions ask, and laws say; no promise reaches it.
pub mod Descent
pub mod Front
pub mod Rates
pub mod Shared
pub mod Totals
pub mod Working
