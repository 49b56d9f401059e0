-- Bytes laid over a list, place by place.
use Rattle.std.proofs.Common.{◌≡◌, ℕ, ◌+◌, ◌-◌, ◌<◌, ◌≤◌, max, List, length, get_or, arith}
use Rattle.std.proofs.lemmas.List.{places}
use Rattle.outside_io.specs.volume.Disk.{laid}

pub length-laid : (at : ℕ) (bytes old : List ℕ) → at ≤ length old → length (laid at bytes old) ≡ max (length old) (at + length bytes)
length-laid at bytes old within = grind (arith, places)

pub laid_before : (at : ℕ) (bytes old : List ℕ) (k d : ℕ) → at ≤ length old → k < at → get_or (laid at bytes old) k d ≡ get_or old k d
laid_before at bytes old k d within lt = grind (arith, places)

pub laid_in : (at : ℕ) (bytes old : List ℕ) (k d : ℕ) → at ≤ length old → at ≤ k → k < at + length bytes → get_or (laid at bytes old) k d ≡ get_or bytes (k - at) d
laid_in at bytes old k d within ge lt = grind (arith, places)

pub laid_after : (at : ℕ) (bytes old : List ℕ) (k d : ℕ) → at ≤ length old → at + length bytes ≤ k → get_or (laid at bytes old) k d ≡ get_or old k d
laid_after at bytes old k d within ge = grind (arith, places)
