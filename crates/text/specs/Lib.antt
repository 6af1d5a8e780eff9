-- The definitions of text: its bytes, its lines, what is put into a buffer.
pub mod Text
pub mod Lines
pub mod Put
pub mod inner
pub mod theorems
