-- Lemmas for the proofs of this crate alone.
pub mod Held
pub mod Kept
pub mod Noted
pub mod Octets
pub mod Picked
pub mod Pieces
pub mod Replay
pub mod Struck
pub mod Torn
