-- What an effect is.
pub mod Effect
