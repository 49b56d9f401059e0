pub mod Exporting
mod Importing
mod Joining
mod Packed
mod RawDecided
mod RawStreams
mod RawTiles
pub mod TilesBySlot
