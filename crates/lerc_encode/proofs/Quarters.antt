-- A block in quarters: its values are those of the four blocks of half the side inside it, in another order.
use Rattle.std.proofs.Common.{◌≡◌, ℕ, zero, suc, ◌+◌, ◌-◌, ◌≤◌, ℤ, min, Bool, List, [], ◌++◌, map, refl, sym, ap, subst, ◌∙◌, arith, inl, inr, ◌⊎◌, append_assoc}
use Rattle.std.specs.List.{filter, flat_map, range_with_len}
use Rattle.std.specs.List.Sorted.{IsPermutation}
use Rattle.std.proofs.lemmas.Bool.{cases_lt}
use Rattle.std.proofs.lemmas.List.{map-append}
use Rattle.std.proofs.lemmas.List.Concat.{flat_map-append}
use Rattle.std.proofs.lemmas.List.Elements.{filter-append}
use Rattle.std.proofs.lemmas.List.Sorted.{IsPermutation-append, IsPermutation-append_comm, IsPermutation-append_left, IsPermutation-append_right, IsPermutation-refl, IsPermutation-sym, IsPermutation-trans}
use Rattle.raster_values.specs.Raster.{Pixels, valid_at, value_at}
use Rattle.raster_values.specs.Block.{block_values}
use Rattle.lerc_encode.proofs.Runs.{two_runs}

-- of the middle two of four lists the latter first
pub exchanged : {X : Type 0} (a b c d : List X) → IsPermutation ((a ++ b) ++ (c ++ d)) ((a ++ c) ++ (b ++ d))
exchanged a b c d =
    subst (λ (l : List _). IsPermutation ((a ++ b) ++ (c ++ d)) l) (sym (inner a c b d))
    (subst (λ (l : List _). IsPermutation l (a ++ ((c ++ b) ++ d))) (sym (inner a b c d))
    (IsPermutation-append_right a ((b ++ c) ++ d) ((c ++ b) ++ d) (IsPermutation-append_left d (b ++ c) (c ++ b) (IsPermutation-append_comm b c))))
  where
    inner : {X : Type 0} (a b c d : List X) → (a ++ b) ++ (c ++ d) ≡ a ++ ((b ++ c) ++ d)
    inner a b c d = simp append_assoc

module _ (valid : ℕ × ℕ → Bool) (value : ℕ × ℕ → ℤ) where
  -- the values of the valid ones of some places
  abbrev among : List (ℕ × ℕ) → List ℤ
  among places = map value (filter valid places)

  -- and of the places of m rows and n columns
  abbrev cells : ℕ → ℕ → ℕ → ℕ → List ℤ
  cells row m col n = among (flat_map (λ i. map (λ j. (i, j)) (range_with_len col n)) (range_with_len row m))

  abbrev line : ℕ → ℕ → ℕ → List ℤ
  line i col n = among (map (λ j. (i, j)) (range_with_len col n))

  among_two : (xs ys : List (ℕ × ℕ)) → among (xs ++ ys) ≡ among xs ++ among ys
  among_two xs ys = ap (map value) (filter-append valid xs ys) ∙ map-append value (filter valid xs) (filter valid ys)

  line_two : (i col n k : ℕ) → line i col (n + k) ≡ line i col n ++ line i (col + n) k
  line_two i col n k =
      ap (λ (js : List ℕ). among (map (λ j. (i, j)) js)) (two_runs col n k)
      ∙ ap among (map-append (λ j. (i, j)) (range_with_len col n) (range_with_len (col + n) k))
      ∙ among_two (map (λ j. (i, j)) (range_with_len col n)) (map (λ j. (i, j)) (range_with_len (col + n) k))

  cells_cons : (row m col n : ℕ) → cells row (suc m) col n ≡ line row col n ++ cells (row + 1) m col n
  cells_cons row m col n = among_two (map (λ j. (row, j)) (range_with_len col n)) (flat_map (λ i. map (λ j. (i, j)) (range_with_len col n)) (range_with_len (row + 1) m))

  -- some rows, and those below them
  rows_two : (row m k col n : ℕ) → cells row (m + k) col n ≡ cells row m col n ++ cells (row + m) k col n
  rows_two row m k col n =
      let f = λ (i : ℕ). map (λ (j : ℕ). (i, j)) (range_with_len col n) in
      ap (λ (is : List ℕ). among (flat_map f is)) (two_runs row m k)
      ∙ ap among (flat_map-append f (range_with_len row m) (range_with_len (row + m) k))
      ∙ among_two (flat_map f (range_with_len row m)) (flat_map f (range_with_len (row + m) k))

  -- some columns, and those beside them
  cols_two : (row m col n k : ℕ) → IsPermutation (cells row m col (n + k)) (cells row m col n ++ cells row m (col + n) k)
  cols_two row zero col n k = IsPermutation-refl []
  cols_two row (suc m) col n k =
      subst (λ (l : List ℤ). IsPermutation l (cells row (suc m) col n ++ cells row (suc m) (col + n) k)) (sym whole)
      (subst (IsPermutation ((line row col n ++ line row (col + n) k) ++ cells (row + 1) m col (n + k))) (sym parts)
      (IsPermutation-trans _ _ _
      (IsPermutation-append_right (line row col n ++ line row (col + n) k) (cells (row + 1) m col (n + k)) (cells (row + 1) m col n ++ cells (row + 1) m (col + n) k) (cols_two (row + 1) m col n k))
      (exchanged (line row col n) (line row (col + n) k) (cells (row + 1) m col n) (cells (row + 1) m (col + n) k))))
    where
      whole : cells row (suc m) col (n + k) ≡ (line row col n ++ line row (col + n) k) ++ cells (row + 1) m col (n + k)
      whole = cells_cons row m col (n + k) ∙ ap (λ (l : List ℤ). l ++ cells (row + 1) m col (n + k)) (line_two row col n k)

      parts : cells row (suc m) col n ++ cells row (suc m) (col + n) k ≡ (line row col n ++ cells (row + 1) m col n) ++ (line row (col + n) k ++ cells (row + 1) m (col + n) k)
      parts = ap (λ (l : List ℤ). l ++ cells row (suc m) (col + n) k) (cells_cons row m col n) ∙ ap (λ (l : List ℤ). (line row col n ++ cells (row + 1) m col n) ++ l) (cells_cons row m (col + n) k)

  -- where a part has no rows or no columns it has no values, wherever it begins
  no_cols : (row m col : ℕ) → cells row m col 0 ≡ []
  no_cols row zero col = refl
  no_cols row (suc m) col = cells_cons row m col 0 ∙ no_cols (row + 1) m col

  same_rows : (a b m col n : ℕ) → (m ≡ 0) ⊎ (a ≡ b) → cells a m col n ≡ cells b m col n
  same_rows a b m col n (inl e) = ap (λ (k : ℕ). cells a k col n) e ∙ ap (λ (k : ℕ). cells b k col n) (sym e)
  same_rows a b m col n (inr e) = ap (λ (k : ℕ). cells k m col n) e

  same_cols : (row m a b n : ℕ) → (n ≡ 0) ⊎ (a ≡ b) → cells row m a n ≡ cells row m b n
  same_cols row m a b n (inl e) = ap (cells row m a) e ∙ no_cols row m a ∙ sym (no_cols row m b) ∙ ap (cells row m b) (sym e)
  same_cols row m a b n (inr e) = ap (λ (k : ℕ). cells row m k n) e

-- what is behind the first half, and where it begins
behind : (s a n : ℕ) → (min s (n - (a + s)) ≡ 0) ⊎ (a + min s (n - a) ≡ a + s)
behind s a n = elim (cases_lt (a + s) n) [
  | inl more ↦ inr (omega (arith, more))
  | inr none ↦ inl (omega (arith, none))
]

two_halves : (s a n : ℕ) → min (s + s) (n - a) ≡ min s (n - a) + min s (n - (a + s))
two_halves s a n = omega arith

cells_in_quarters : (valid : ℕ × ℕ → Bool) (value : ℕ × ℕ → ℤ) (rows cols row col s : ℕ)
    → IsPermutation (cells valid value row (min (s + s) (rows - row)) col (min (s + s) (cols - col)))
    ((cells valid value row (min s (rows - row)) col (min s (cols - col)) ++ cells valid value row (min s (rows - row)) (col + s) (min s (cols - (col + s))))
    ++ (cells valid value (row + s) (min s (rows - (row + s))) col (min s (cols - col)) ++ cells valid value (row + s) (min s (rows - (row + s))) (col + s) (min s (cols - (col + s)))))
cells_in_quarters valid value rows cols row col s =
    let m = min s (rows - row) in
    let k = min s (rows - (row + s)) in
    subst (λ (l : List ℤ). IsPermutation l ((cells valid value row m col (min s (cols - col)) ++ cells valid value row m (col + s) (min s (cols - (col + s)))) ++ (cells valid value (row + s) k col (min s (cols - col)) ++ cells valid value (row + s) k (col + s) (min s (cols - (col + s)))))) (sym whole)
    (IsPermutation-append (cells valid value row m col wide) _ (cells valid value (row + s) k col wide) _ (beside row m) (beside (row + s) k))
  where
    wide : ℕ
    wide = min (s + s) (cols - col)

    whole : cells valid value row (min (s + s) (rows - row)) col wide ≡ cells valid value row (min s (rows - row)) col wide ++ cells valid value (row + s) (min s (rows - (row + s))) col wide
    whole =
        ap (λ (n : ℕ). cells valid value row n col wide) (two_halves s row rows)
        ∙ rows_two valid value row (min s (rows - row)) (min s (rows - (row + s))) col wide
        ∙ ap (λ (l : List ℤ). cells valid value row (min s (rows - row)) col wide ++ l) (same_rows valid value (row + min s (rows - row)) (row + s) (min s (rows - (row + s))) col wide (behind s row rows))

    beside : (at n : ℕ) → IsPermutation (cells valid value at n col wide) (cells valid value at n col (min s (cols - col)) ++ cells valid value at n (col + s) (min s (cols - (col + s))))
    beside at n =
        subst (λ (l : List ℤ). IsPermutation (cells valid value at n col wide) (cells valid value at n col (min s (cols - col)) ++ l)) (same_cols valid value at n (col + min s (cols - col)) (col + s) (min s (cols - (col + s))) (behind s col cols))
        (subst (λ (w : ℕ). IsPermutation (cells valid value at n col w) (cells valid value at n col (min s (cols - col)) ++ cells valid value at n (col + min s (cols - col)) (min s (cols - (col + s))))) (sym (two_halves s col cols))
        (cols_two valid value at n col (min s (cols - col)) (min s (cols - (col + s)))))

-- ---- blocks of a raster

in_quarters : (r : Pixels) (row col s d : ℕ) → IsPermutation (block_values r row col (s + s) d) ((block_values r row col s d ++ block_values r row (col + s) s d) ++ (block_values r (row + s) col s d ++ block_values r (row + s) (col + s) s d))
unfolding block_values
in_quarters r row col s d = cells_in_quarters (λ p. valid_at r p.0 p.1) (λ p. value_at r p.0 p.1 d) r.rows r.cols row col s

-- the values of the blocks of 8, one behind the other, are those of the block of 16
pub quarters_16 : (r : Pixels) (row col d : ℕ) → IsPermutation (((block_values r row col 8 d ++ block_values r row (col + 8) 8 d) ++ block_values r (row + 8) col 8 d) ++ block_values r (row + 8) (col + 8) 8 d) (block_values r row col 16 d)
quarters_16 r row col d =
    let front = block_values r row col 8 d ++ block_values r row (col + 8) 8 d in
    subst (λ (l : List ℤ). IsPermutation l (block_values r row col 16 d)) (sym (append_assoc front (block_values r (row + 8) col 8 d) (block_values r (row + 8) (col + 8) 8 d)))
    (IsPermutation-sym (block_values r row col 16 d) (front ++ (block_values r (row + 8) col 8 d ++ block_values r (row + 8) (col + 8) 8 d)) (in_quarters r row col 8 d))

-- a block that stands outside has no values
pub below_all : (r : Pixels) (row col side d : ℕ) → r.rows ≤ row → block_values r row col side d ≡ []
unfolding block_values
below_all r row col side d out =
    let none : min side (r.rows - row) ≡ 0 = omega (arith, out) in
    ap (λ (m : ℕ). cells (λ p. valid_at r p.0 p.1) (λ p. value_at r p.0 p.1 d) row m col (min side (r.cols - col))) none

pub beside_all : (r : Pixels) (row col side d : ℕ) → r.cols ≤ col → block_values r row col side d ≡ []
unfolding block_values
beside_all r row col side d out =
    let none : min side (r.cols - col) ≡ 0 = omega (arith, out) in
    ap (cells (λ p. valid_at r p.0 p.1) (λ p. value_at r p.0 p.1 d) row (min side (r.rows - row)) col) none
    ∙ no_cols (λ p. valid_at r p.0 p.1) (λ p. value_at r p.0 p.1 d) row (min side (r.rows - row)) col
