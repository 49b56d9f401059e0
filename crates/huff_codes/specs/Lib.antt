-- Codes, their lengths, tables and words; `inside` has the words of private functions.
pub use Rattle.byteorder.specs.Endian
pub mod Sums
pub mod Bits
pub mod Tree
pub mod Codes
pub mod Words
pub mod Counts
pub mod Turns
pub mod Table
pub mod Prefixes
pub mod Readers
pub mod Written
pub mod Pieces
pub mod Laws
pub mod inside
