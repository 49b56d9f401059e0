-- What contracts of this crate cite.
pub use Rattle.raster_cells.specs.Distance
pub use Rattle.raster_cells.specs.MarkRuns
pub use Rattle.raster_cells.specs.Masks
pub use Rattle.raster_cells.specs.PixelType
pub use Rattle.raster_cells.specs.Shapes
pub use Rattle.raster_cells.specs.Values
pub use Rattle.raster_cells.specs.Words
pub use Rattle.raster_values.specs.Block
pub use Rattle.raster_values.specs.Flat
pub use Rattle.raster_values.specs.Order
pub use Rattle.raster_values.specs.Raster
