-- The words of functions that the program keeps to itself.
pub mod Grids
pub mod Opening
pub mod Outlines
pub mod Reads
pub mod Spelling
pub mod Updates
