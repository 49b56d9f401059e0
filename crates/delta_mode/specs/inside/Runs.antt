-- Values that come one after the other, each with the symbol of its step from the one before.
use Rattle.std.specs.Prelude.{ℕ, zero, suc, ◌≡◌, ◌+◌, ◌%◌, ◌<◌, ℤ, List, length, get_or}
use Rattle.lane_kernels.specs.Running.{byte_before}

-- the value before number i: in front of the first one this one
abbrev pub value_before : ℤ → (ℕ → ℤ) → ℕ → ℤ
value_before first now zero = first
value_before first now (suc i) = now i

-- each byte is the one before it and its symbol, to which is added, modulo 256
abbrev pub AreSteps : ℕ → ℕ → List ℕ → List ℕ → Type 0
AreSteps added first symbols bytes = (i : ℕ) → i < length symbols
    → get_or bytes i 0 ≡ (byte_before first bytes i + (get_or symbols i 0 + added) % 256) % 256
