-- Why reading stopped.
pub mod Ending
