pub use Rattle.outside_io.specs.program.Line
pub use Rattle.outside_io.specs.streams.Faults
pub use Rattle.outside_io.specs.streams.Sink
pub mod Arguments
pub mod Moves
pub mod Stop
