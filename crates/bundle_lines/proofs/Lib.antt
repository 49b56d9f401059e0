pub mod Chains
pub mod Kept
pub mod Marked
pub mod Raised
mod Ended
pub mod Fitting
mod Lined
mod Stepping
mod Listed
