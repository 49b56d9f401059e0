pub mod Lists
mod ReadSteps
pub mod Rising
pub mod Tabled
pub mod Ranked
mod Below
mod Marked
mod Gathered
pub mod NameSets
pub mod AboveLowest
