mod Batch
mod Drawing
pub mod Once
mod Summing
