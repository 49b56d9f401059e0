-- The first of the least so far, as the sizes come.
use Rattle.std.specs.Prelude.{ℕ, nat_lt, if◌then◌else◌, Option, None, Some}

-- the place and the size of the first of the least so far, and one more
abbrev pub former_of : Option (ℕ × ℕ) → ℕ → Option ℕ → Option (ℕ × ℕ)
former_of None k None = None
former_of None k (Some n) = Some (k, n)
former_of (Some b) k None = Some b
former_of (Some b) k (Some n) = if nat_lt n b.1 then Some (k, n) else Some b
