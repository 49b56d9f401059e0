-- Lemmas for who calls a volume.
pub mod Images
pub mod Laid
pub mod Limits
pub mod Moments
