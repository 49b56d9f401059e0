-- Words of functions that are no words of the crates above.
pub mod Heads
pub mod Pack
pub mod Sizes
pub mod TakenRun
