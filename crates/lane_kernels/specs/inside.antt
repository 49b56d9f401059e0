-- The words of private functions alone: no public clause cites them.
pub mod Lanes
pub mod Moved
