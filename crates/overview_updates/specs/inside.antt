-- The words of private functions alone: no public clause cites them.
pub mod Fours
pub mod Laid
pub mod Reads
pub mod SoFar
pub mod StopOf
