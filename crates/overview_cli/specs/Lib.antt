pub use Rattle.outside_io.specs.program.Line
pub use Rattle.outside_io.specs.streams.Faults
pub use Rattle.outside_io.specs.streams.Sink
pub use Rattle.outside_io.specs.volume.History
pub use Rattle.lerc_header.specs.Written
pub use Rattle.bundle_store.specs.Build
pub use Rattle.bundle_store.specs.Images
pub use Rattle.bundle_store.specs.Starts
pub use Rattle.bundle_store.specs.Tiles
pub use Rattle.bundle_lines.specs.Lines
pub use Rattle.bundle_lines.specs.Puts
pub use Rattle.command_words.specs.Words
pub use Rattle.opened_bundle.specs.Files
pub use Rattle.opened_bundle.specs.Left
pub use Rattle.opened_bundle.specs.Refusals
pub use Rattle.overview_updates.specs.Overview
pub use Rattle.overview_updates.specs.Stops as OverviewStops
pub use Rattle.overview_updates.specs.Updates as OverviewUpdates
pub use Rattle.program_ends.specs.Arguments
pub use Rattle.program_ends.specs.Moves
pub use Rattle.program_ends.specs.Stop
pub use Rattle.reason_names.specs.Names as ReasonNames
pub mod Commands
pub mod Names
pub mod Taking
pub mod Putting
pub mod Run
