-- Code lengths: the two least trees are joined until one is left.
use Rattle.std.specs.Prelude.{ℕ, zero, suc, ◌+◌, ◌-◌, ◌^◌, min, Bool, ◌&&◌, ◌||◌, nat_eq, nat_lt}
use Rattle.std.specs.Prelude.{List, [], ◌∷◌, length, map, slice_index, if◌then◌else◌}
use Rattle.std.specs.List.{range_with_len}
use Rattle.huff_codes.specs.Sums.{sum_below}

-- a symbol, or two trees joined
pub data Tree : Type 0 where
  leaf : ℕ → Tree
  join : Tree → Tree → Tree

-- the sum of its symbols' counts
unfoldable pub weight_of : List ℕ → Tree → ℕ
weight_of counts (leaf s) = slice_index counts s
weight_of counts (join a b) = weight_of counts a + weight_of counts b

-- the least of its symbols
unfoldable pub least_of : Tree → ℕ
least_of (leaf s) = s
least_of (join a b) = min (least_of a) (least_of b)

-- whether a symbol is in the tree
unfoldable pub has_leaf : Tree → ℕ → Bool
has_leaf (leaf t) s = nat_eq t s
has_leaf (join a b) s = has_leaf a s || has_leaf b s

-- how many of the tree's joins a symbol went through
unfoldable pub joins_of : Tree → ℕ → ℕ
joins_of (leaf t) s = 0
joins_of (join a b) s = if has_leaf a s || has_leaf b s then joins_of a s + joins_of b s + 1 else 0

-- the order of trees: by weight, and of equal weights by the least symbol
unfoldable pub is_before : List ℕ → Tree → Tree → Bool
is_before counts a b =
    nat_lt (weight_of counts a) (weight_of counts b)
    || (nat_eq (weight_of counts a) (weight_of counts b) && nat_lt (least_of a) (least_of b))

-- a tree put at its place among trees that stand in order
unfoldable pub with_tree : List ℕ → Tree → List Tree → List Tree
with_tree counts t [] = t ∷ []
with_tree counts t (u ∷ us) =
    if is_before counts t u then t ∷ (u ∷ us) else u ∷ with_tree counts t us

-- in order, the used symbols below n, each a tree of its own
unfoldable pub used_below : List ℕ → ℕ → List Tree
used_below counts zero = []
used_below counts (suc n) = if nat_eq (slice_index counts n) 0 then used_below counts n
    else with_tree counts (leaf n) (used_below counts n)

-- n times, the two least are replaced by their join
unfoldable pub after_joins : List ℕ → ℕ → List Tree → List Tree
after_joins counts (suc n) (a ∷ (b ∷ rest)) =
    after_joins counts n (with_tree counts (join a b) rest)
after_joins counts n trees = trees

-- a symbol's joins in the first of the trees
unfoldable pub joins_in : List Tree → ℕ → ℕ
joins_in [] s = 0
joins_in (t ∷ ts) s = joins_of t s

-- all joins made: as many as there are trees are enough
unfoldable pub last_trees : List ℕ → List Tree
last_trees counts = after_joins counts (length (used_below counts 256)) (used_below counts 256)

-- the code lengths
unfoldable pub lengths_of : List ℕ → List ℕ
lengths_of counts = map (joins_in (last_trees counts)) (range_with_len 0 256)

-- how many symbols are used
unfoldable pub used_count : List ℕ → ℕ
used_count counts = sum_below 256 (λ s. if nat_eq (slice_index counts s) 0 then 0 else 1)

-- what a code of this length takes of all words of 32 bits
unfoldable pub share : ℕ → ℕ
share length = if nat_eq length 0 then 0 else 2 ^ (32 - length)

-- Kraft's sum
unfoldable pub shares : List ℕ → ℕ
shares lengths = sum_below 256 (λ s. share (slice_index lengths s))
