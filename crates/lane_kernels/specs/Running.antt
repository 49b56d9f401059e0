-- Running sums of bytes.
use Rattle.std.specs.Prelude.{ℕ, zero, suc, ◌≡◌, ◌+◌, ◌%◌, ◌<◌, List, length, get_or}

-- the byte before number i: in front of the first one this one
abbrev pub byte_before : ℕ → List ℕ → ℕ → ℕ
byte_before first bytes zero = first
byte_before first bytes (suc i) = get_or bytes i 0

-- each byte is the one before it and what stood in its place, modulo 256
abbrev pub AreRunning : ℕ → List ℕ → List ℕ → Type 0
AreRunning first old new = (i : ℕ) → i < length old
    → get_or new i 0 ≡ (byte_before first new i + get_or old i 0) % 256
