pub mod Halves
pub mod Bits
pub mod inside
