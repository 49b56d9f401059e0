-- Symbols of numbers, predictors, and the symbols of rasters in delta and plain mode.
pub use Rattle.raster_values.specs.Flat
pub use Rattle.raster_values.specs.Block
pub mod Symbols
pub mod Deltas
pub mod Frames
pub mod EncodeStates
pub mod PlainStates
pub mod Laws
pub mod inside
