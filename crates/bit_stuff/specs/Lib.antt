pub mod Stuffed
pub mod Head
pub mod Simple
pub mod inside
pub use Rattle.byteorder.specs.Endian
