pub mod Raising
pub mod Rows
pub mod Turns
