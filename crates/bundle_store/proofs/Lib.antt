mod Building
mod Counting
pub mod Cutting
mod Filling
mod Fresh
mod Fronts
pub mod GroupEntries
mod GroupStanding
mod GroupWrites
mod Grouping
mod Gathering
mod Keeping
mod Kept
mod Midway
pub mod PutLaws
pub mod Layouts
mod Numbering
pub mod OneRecovery
mod OneUpdate
pub mod Opening
mod Overlays
mod Padded
pub mod Putting
pub mod Recovering
pub mod Refusals
mod Region
mod Rests
pub mod Standing
pub mod Starting
mod TileReads
mod Unders
mod Ways
