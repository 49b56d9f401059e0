pub mod Bounds
mod Caps
mod Eight
mod EightSums
mod Folds
mod Ends
mod LaneSums
pub mod Mapped
mod MinMax
mod Sums
mod Times
pub mod Within
