-- Runs, their first fault, the runs that are chosen, and a mask with another last byte; `inside`
-- has the words of private functions.
pub use Rattle.byteorder.specs.Endian
pub mod Runs
pub mod Fault
pub mod Chosen
pub mod Ending
pub mod inside
