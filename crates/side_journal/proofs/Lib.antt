mod Closed
pub mod Gates
pub mod OneState
pub mod Spells
pub mod Same
