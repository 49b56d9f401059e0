-- Words of functions that this crate keeps to itself.
pub mod Comes
pub mod Layers
pub mod Lays
pub mod Means
pub mod Numbers
pub mod Pieces
pub mod Reach
pub mod View
