-- The bytes of a depth among those of all pixels, depth innermost, by the numbers of their pixels.
use Rattle.std.specs.Prelude.{ℕ, ◌+◌, ◌-◌, ◌*◌, ◌%◌, ◌^◌, ◌<◌, ◌≤◌, nat_lt, nat_le}
use Rattle.std.specs.Prelude.{List, get_or, length}
use Rattle.std.specs.Prelude.{if◌then◌else◌}

-- the byte of pixel number k at a depth
abbrev pub cell : ℕ → ℕ → List ℕ → ℕ → ℕ
cell depth d bytes k = get_or bytes (k * depth + d) 0

-- the byte of the pixel above number k, 0 in the first row
abbrev pub cell_above : ℕ → (ℕ → ℕ) → ℕ → ℕ
cell_above cols byte k = if nat_le cols k then byte (k - cols) else 0

-- the byte of the pixel to the left of number k, and in the first column that of the one above
abbrev pub cell_before : ℕ → (ℕ → ℕ) → ℕ → ℕ
cell_before cols byte k =
    if nat_lt 0 (k % cols) then byte (k - 1) else cell_above cols byte k

-- so many pixels from one number on have a byte at the depth
pub record HaveCells (depth d : ℕ) (bytes : List ℕ) (place count : ℕ) : Type 0 where
  pub below : d < depth
  pub size : (place + count) * depth ≤ length bytes
  pub few : place + count ≤ 2 ^ 24
