pub use Rattle.outside_io.specs.volume.Disk
pub use Rattle.outside_io.specs.volume.History
pub use Rattle.outside_io.specs.volume.Recorded
pub mod State
pub mod Shelf
