-- Words of private functions.
pub mod Laid
pub mod Parts
pub mod Tails
