-- Words of functions that are no words of the crates above.
pub mod Planes
pub mod Runs
pub mod RasterRefView
pub mod Windows
pub mod LentCells
pub mod Parts
