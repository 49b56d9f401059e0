mod Adding
mod Asked
mod Held
pub mod Passing
pub mod Refusals
mod Refusing
mod Results
pub mod SoFar
mod StreamsDecided
mod Tiles
