-- What the exported structs say.
pub mod Changed
pub mod Exported
