pub use Rattle.raster_cells.specs.Shapes
pub use Rattle.raster_values.specs.Raster
pub use Rattle.raster_values.specs.Places
pub use Rattle.raster_values.specs.Bands
pub mod Half
pub mod Tiles
pub mod Sums
pub mod inside
