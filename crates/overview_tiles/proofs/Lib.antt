pub mod Bands
pub mod Comes
pub mod Divided
pub mod Layers
pub mod Fours
pub mod Whole
pub mod Steps
pub mod MarkBytes
mod Means
pub mod Numbered
pub mod Tiled
pub mod Halved
pub mod Filling
pub mod HalfBands
