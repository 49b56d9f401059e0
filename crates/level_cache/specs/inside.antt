-- The words of private functions and of invariants.
pub mod Digits
pub mod Places
