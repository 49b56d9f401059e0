mod CellDistances
pub mod CellRuns
pub mod Distances
mod EqualMasks
pub mod Every
mod FrontBits
pub mod GivenBytes
pub mod GivenRuns
mod GivenSums
mod LentMasks
pub mod MarkWords
pub mod MarkedValues
pub mod MaskBits
mod MaskBytes
pub mod MaskCounts
pub mod Pack
mod PixelSteps
mod Ranges
pub mod Repeats
pub mod RunSteps
pub mod Spelled
pub mod SpelledBack
pub mod ValueBits
pub mod ValueBytes
pub mod WholeRuns
