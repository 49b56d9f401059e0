pub use Rattle.outside_io.specs.program.Word
pub mod Words
