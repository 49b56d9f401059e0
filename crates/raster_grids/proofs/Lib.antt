mod BandLists
mod BandSizes
mod BandsGiven
pub mod BandsGridDecided
pub mod BandsGridLaws
mod BandsTaken
pub mod GridDecided
pub mod GridLaws
mod GridParts
mod OneGrid
mod Pack
pub mod Taken
mod TakenRuns
mod TakenAhead
pub mod TakenBytes
mod HeldBytes
