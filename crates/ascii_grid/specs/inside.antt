-- What contracts of private functions cite.
pub mod Cells
pub mod Heads
pub mod Pages
pub mod Reading
pub mod Stops
pub mod Steps
pub mod Fields
