pub mod Numbers
mod Fields
mod Fronts
pub mod Buffers
pub mod Digits
pub mod StuffedLaws
pub mod HeadLaws
pub mod HeadParts
mod Eights
mod LaneNumbers
