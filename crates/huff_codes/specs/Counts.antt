-- How often symbols stand in a list.
use Rattle.std.specs.Prelude.{ℕ, nat_eq, List, map}
use Rattle.std.specs.List.{count_by, range_with_len}

-- how often each symbol stands among them
unfoldable pub counts_of : List ℕ → List ℕ
counts_of symbols = map (λ s. count_by (nat_eq s) symbols) (range_with_len 0 256)
