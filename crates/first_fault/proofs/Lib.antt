pub mod Decided
pub mod Parts
