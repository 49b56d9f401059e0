pub mod Decided
pub mod Fronts
pub mod OneBehindAnother
pub mod Streams
pub mod Tiles
