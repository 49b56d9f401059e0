-- The words of private functions alone: no public clause cites them.
pub mod Tagged
pub mod Sizes
pub mod Forms
pub mod Products
pub mod Remainders
pub mod Shorter
pub mod Stepping
pub mod SoFar
