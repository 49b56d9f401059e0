-- Lemmas for who reads words.
pub mod Digits
