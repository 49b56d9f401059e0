pub mod DecidedHeads
pub mod FaultLemmas
pub mod Fronts
pub mod HeadLemmas
mod Lawful
mod LongerHeads
pub mod Prefixes
pub mod WrittenHeads
mod Exits
mod LaidLemmas
mod LaneSums
mod LaneWords
mod Ranges
mod ReadParts
mod Words
