-- What a command answers, and how that is told.
pub mod Names
pub mod Outline
pub mod Samples
pub mod Table
