-- The words of private functions alone: no public clause cites them.
pub mod Groups
pub mod Pieces
