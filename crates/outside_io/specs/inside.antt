-- The words of private functions and of invariants, and the proofs of laws that impls cite, which
-- the kit wants among the definitions. A reader of the public contracts needs none of them.
pub mod Effects
pub mod Fills
pub mod MemVolume
