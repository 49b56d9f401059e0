-- Words of functions that this crate keeps to itself.
pub mod Batches
pub mod Drawing
