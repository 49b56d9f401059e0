pub mod Waits
pub mod Walks
