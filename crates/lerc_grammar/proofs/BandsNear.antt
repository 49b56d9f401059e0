-- Bands that are near others, one by one, may be bands where those may.
use Rattle.std.proofs.Common.{◌≡◌, ℕ, ◌+◌, ◌*◌, ◌≤◌, List, [], ◌∷◌, length, All, refl, sym, ◌∙◌, subst, arith}
use Rattle.std.proofs.lemmas.List.Elements.{All-nil, All-cons, All-head, All-tail}
use Rattle.raster_values.specs.Raster.{Pixels}
use Rattle.lerc_grammar.specs.Mask.{previous_of}
use Rattle.lerc_grammar.specs.Near.{Near, NearEach}
use Rattle.raster_values.specs.Bands.{IsLike, AreLike}

pub same_previous : (r s : Pixels) (step : ℕ) → Near r s step → previous_of r ≡ previous_of s
same_previous r s step n = λ i. record { rows = n.rows i; cols = n.cols i; marks = n.marks i }

pub near_long : (rs ss : List Pixels) (step : ℕ) → NearEach rs ss step → length rs ≡ length ss
near_long [] [] step n = refl
near_long [] (s ∷ ss) step n = absurd n
near_long (r ∷ rs) [] step n = absurd n
near_long (r ∷ rs) (s ∷ ss) step n = let l = near_long rs ss step n.1 in omega (arith, l)

pub all_like : (r s : Pixels) (rs ss : List Pixels) (step : ℕ) → Near r s step → NearEach rs ss step → All (IsLike r) rs → All (IsLike s) ss
all_like r s [] [] step n e all = All-nil (IsLike s)
all_like r s [] (x ∷ ss) step n e all = absurd e
all_like r s (y ∷ rs) [] step n e all = absurd e
all_like r s (y ∷ rs) (x ∷ ss) step n e all =
    let l = All-head (IsLike r) y rs all in
    All-cons (IsLike s) x ss (record { rows = sym e.0.rows ∙ l.rows ∙ n.rows; cols = sym e.0.cols ∙ l.cols ∙ n.cols; depth = sym e.0.depth ∙ l.depth ∙ n.depth; kind = sym e.0.kind ∙ l.kind ∙ n.kind })
    (all_like r s rs ss step n e.1 (All-tail (IsLike r) y rs all))

pub near_like : (rs ss : List Pixels) (step : ℕ) → NearEach rs ss step → AreLike rs → AreLike ss
near_like [] [] step n like = tt
near_like [] (s ∷ ss) step n like = absurd n
near_like (r ∷ rs) [] step n like = absurd n
near_like (r ∷ rs) (s ∷ ss) step n like = (
  all_like r s rs ss step n.0 n.1 like.0,
  subst (λ (k : ℕ). (1 + k) * (s.rows * s.cols * s.depth) ≤ 16777216) (near_long rs ss step n.1)
      (subst (λ (k : ℕ). (1 + length rs) * k ≤ 16777216) (λ i. n.0.rows i * n.0.cols i * n.0.depth i) like.1),
)
