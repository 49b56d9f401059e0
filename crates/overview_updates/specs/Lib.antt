pub use Rattle.bundle_store.specs.Build
pub use Rattle.bundle_store.specs.Session
pub use Rattle.bundle_store.specs.Tiles
pub use Rattle.lerc_encode.specs.Encoded
pub use Rattle.lerc_grammar.specs.Bands
pub use Rattle.outside_io.specs.streams.Faults
pub use Rattle.outside_io.specs.volume.History
pub use Rattle.overview_tiles.specs.Half
pub use Rattle.overview_tiles.specs.Tiles as Quarters
pub use Rattle.tile_updates.specs.Stops as StreamStops
pub use Rattle.tile_updates.specs.Updates as TileUpdates
pub mod Overview
pub mod Refusals
pub mod Updates
pub mod Stops
pub mod Laws
pub mod inside
