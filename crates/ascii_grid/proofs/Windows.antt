-- A window over a source: the bytes that are still to come.
use Rattle.std.proofs.Common.{◌≡◌, ℕ, zero, suc, ◌+◌, ◌<◌, ◌≤◌, List, [], ◌∷◌, ◌++◌, length, take, drop, get_or, refl, sym, ap, ◌∙◌, subst, arith, ◌≢◌}
use Rattle.ascii_grid.specs.inside.Stops.{IsTooLong, too_long}
use Rattle.ascii_grid.specs.declared.fault.AsciiStop.{AsciiStop}
use Rattle.ascii_grid.specs.declared.fault.AsciiStop.TheVariants.{Fault}
use native.Mathlib.Numerals.{unary_clauses}
use Rattle.std.proofs.lemmas.List.{drop_more, drop_all, length-take, get_or-take}

-- what is behind the first byte
pub behind_first : (xs rest : List ℕ) (i byte : ℕ) → drop i xs ≡ byte ∷ rest → drop (i + 1) xs ≡ rest
behind_first [] rest zero byte e = cc
behind_first [] rest (suc i) byte e = cc
behind_first (x ∷ xs) rest zero byte e = cc
behind_first (x ∷ xs) rest (suc i) byte e = simp unary_clauses (ap (λ (k : ℕ). drop k xs) (let n : suc i ≡ i + 1 = omega arith in n) ∙ behind_first xs rest i byte e)

-- nothing is held
pub holds_none : (xs : List ℕ) (i n : ℕ) → i ≡ n → drop i (take n xs) ≡ []
holds_none xs i n e = drop_all i (take n xs) (omega (arith, length-take n xs))

-- the first byte that is held
pub holds_first : (xs : List ℕ) (i n d : ℕ) → i < n → n ≤ length xs → drop i (take n xs) ≡ get_or xs i d ∷ drop (i + 1) (take n xs)
holds_first xs i n d below within =
    drop_more (take n xs) i d (omega (arith, length-take n xs)) ∙ ap (λ (b : ℕ). b ∷ drop (i + 1) (take n xs)) (get_or-take n xs i d below)

-- something is held
pub holds_some : (xs : List ℕ) (i n : ℕ) → i < n → n ≤ length xs → drop i (take n xs) ≡ [] → ⊥
holds_some xs i n below within none = let e = holds_first xs i n 0 below within in cc

no_front : (a b : List ℕ) → [] ≡ a ++ b → a ≡ []
no_front [] b e = refl
no_front (x ∷ xs) b e = absurd (let no : ⊥ = cc in no)

-- bytes of which some are held are some
pub some_ahead : (held rest bytes : List ℕ) → (held ≡ [] → ⊥) → bytes ≡ held ++ rest → bytes ≢ []
some_ahead held rest bytes some joined none = some (no_front held rest (sym none ∙ joined))

pub too_long_told : (e : AsciiStop) (at : Type 0) (bytes : List ℕ) → e ≡ Fault too_long → at → bytes ≢ [] → IsTooLong e at bytes
too_long_told e at bytes is a some = subst (λ (s : AsciiStop). IsTooLong s at bytes) (sym is) (refl, (a, some))
