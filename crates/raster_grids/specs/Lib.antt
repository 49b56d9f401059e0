-- What contracts of this crate cite.
pub use Rattle.outside_io.specs.streams.Faults.{CountsFaults}
pub use Rattle.outside_io.specs.streams.Sink.{Holds, HoldsPrefix}
pub use Rattle.raster_cells.specs.PixelType
pub use Rattle.raster_cells.specs.Shapes
pub use Rattle.raster_cells.specs.Values
pub use Rattle.raster_values.specs.Raster
pub use Rattle.raster_values.specs.Bands
pub use Rattle.raster_values.specs.Flat
pub mod BandsGrid
pub mod Grid
pub mod ReadGrid
pub mod Taken
pub mod inside
