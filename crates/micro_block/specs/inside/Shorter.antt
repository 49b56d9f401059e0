-- Where a table can be shorter than a list in the simple form.
use Rattle.std.specs.Prelude.{◌≡◌, ℕ, ◌+◌, ◌^◌, ◌<◌, ◌≤◌}
use Rattle.bit_stuff.specs.Simple.{binary_digits}
use Rattle.bit_stuff.specs.Stuffed.{stuffed_size}

-- with so many entries, `count` numbers of `width` bits take no fewer bytes in a table
abbrev pub IsLong : ℕ → ℕ → ℕ → Type 0
IsLong count width d =
    stuffed_size count width ≤ 1 + stuffed_size d width + stuffed_size count (binary_digits d)

-- so it is with each number of entries up to 254 that has so many binary digits and is above the
-- bound
abbrev pub AreLongAbove : ℕ → ℕ → ℕ → ℕ → Type 0
AreLongAbove count width digits bound =
    (d : ℕ) → d ≤ 254 → binary_digits d ≡ digits → bound < d → IsLong count width d

-- and the bound has as many digits itself, k + 1, and is below 256
abbrev pub BoundsAt : ℕ → ℕ → ℕ → ℕ → Type 0
BoundsAt count width k bound =
    (2 ^ k ≤ bound) × ((bound ≤ 255) × AreLongAbove count width (k + 1) bound)
