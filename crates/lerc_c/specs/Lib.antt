-- What contracts of this crate cite.
pub use Rattle.reason_names.specs.Names as ReasonNames
pub mod Told
pub mod Arrays
pub mod BandArrays
pub mod HeadedBands
pub mod Names
pub mod inside
