-- What is given to a run, and what is wrong in it first.
pub mod Given
pub mod Refused
