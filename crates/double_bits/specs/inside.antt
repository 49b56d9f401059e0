-- Words of private functions.
pub mod Magnitude
