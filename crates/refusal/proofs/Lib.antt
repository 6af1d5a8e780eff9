-- Laws of the definitions, for the crates above.
pub mod Said
pub mod Mapped
