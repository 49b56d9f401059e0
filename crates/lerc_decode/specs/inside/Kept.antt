-- Whether blobs are kept.
use Rattle.std.specs.Prelude.{ℕ, List, Option, None, Some}

abbrev pub IsKeeping : Option (List (List ℕ)) → Type 0
IsKeeping None = ⊥
IsKeeping (Some blobs) = Unit {0}
