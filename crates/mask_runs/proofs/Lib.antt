mod Pieces
mod Reading
pub mod Stops
pub mod Decided
mod Steps
mod Equal
mod Endings
pub mod Chosen
mod Writing
