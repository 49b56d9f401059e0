pub use Rattle.lerc_encode.specs.Choice
pub use Rattle.lerc_encode.specs.Encoded
pub use Rattle.raster_cells.specs.Shapes
pub use Rattle.raster_values.specs.Raster
pub mod Deep
pub mod inside
