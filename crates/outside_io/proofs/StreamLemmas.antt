-- Lemmas for who takes from sources and gives to sinks.
pub mod Asked
mod Counts
pub mod Gives
pub mod Takes
