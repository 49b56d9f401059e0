-- Words of functions that are no words of the crates above.
pub mod Bits
pub mod CellView
pub mod MaskView
pub mod OfAType
