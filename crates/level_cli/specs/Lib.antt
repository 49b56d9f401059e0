pub use Rattle.outside_io.specs.program.Line
pub use Rattle.outside_io.specs.streams.Faults
pub use Rattle.outside_io.specs.streams.Sink
pub use Rattle.program_ends.specs.Moves
pub use Rattle.program_ends.specs.Stop
pub use Rattle.command_words.specs.Words
pub use Rattle.reason_names.specs.Names as ReasonNames
pub use Rattle.bundle_index.specs.Entry
pub use Rattle.bundle_store.specs.Session
pub use Rattle.opened_bundle.specs.Files
pub use Rattle.opened_bundle.specs.Refusals
pub use Rattle.grid_blobs.specs.Blobs
pub use Rattle.grid_blobs.specs.Stops
pub use Rattle.level_cache.specs.Calls
pub use Rattle.level_cache.specs.Crashes
pub use Rattle.level_cache.specs.Names as BundleNames
pub use Rattle.level_cache.specs.Places
pub mod Commands
pub mod Folders
pub mod Granted
pub mod Refused
pub mod Names
pub mod Run
pub mod InWords
pub mod inside
