-- Words of functions that this crate keeps to itself.
pub mod Given
pub mod Headed
pub mod Marked
pub mod Numbered
pub mod Repeated
pub mod Stops
