mod AllCells
pub mod Blank
pub mod BlockLaws
mod BlockViews
mod CellDistances
mod Changes
pub mod Deep
pub mod FlatViews
mod FullWidth
mod GatheredRanges
mod GatheredRuns
mod GivenBlocks
mod InOrder
pub mod RasterMutArrays
mod MarkedPuts
pub mod MarkedRuns
mod MixedRuns
pub mod NumberedBlocks
pub mod OneGrid
mod OrderSteps
pub mod Pack
mod PixelSteps
mod Places
mod Points
pub mod Scattered
mod ScatteredWords
mod Ranges
pub mod Revalued
mod RowSteps
mod RunSteps
pub mod Same
mod RasterRefArrays
pub mod Views
mod Windows
