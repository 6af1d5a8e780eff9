-- What definitions say of a list.
pub mod Lists
pub mod theorems
