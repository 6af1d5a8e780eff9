-- The definitions of the reduction: the paper's in its order, then the scale that spares most searches.
pub mod Least
pub mod Share
pub mod Reduced
pub mod Scale
pub mod theorems
pub mod tables
pub mod inner
