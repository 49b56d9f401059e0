pub mod Audits
mod Blobs
mod Counts
mod Floats
mod FrontNumber
mod Joins
mod OneSum
mod OneVerdict
mod Shapes
mod Slots
mod SomeVerdict
pub mod Standing
pub mod Still
mod Telling
mod Waiting
mod Zips
