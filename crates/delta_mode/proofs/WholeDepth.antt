-- From pieces to a whole depth.
use Rattle.std.proofs.Common.{◌≡◌, ℕ, zero, suc, ℤ, pos, ◌-ℤ◌, ◌+◌, ◌-◌, ◌*◌, ◌/◌, ◌%◌, ◌<◌, ◌≤◌, Bool, true, false, cond, List, [], ◌∷◌, ◌++◌, length, get_or, take, map, refl, sym, ap, ◌∙◌, subst, arith, inl, inr, add-one}
use Rattle.std.specs.Prelude.{is_some, None, Option}
use Rattle.std.specs.List.{filter, range_with_len, count_by}
use Rattle.std.proofs.lemmas.Bool.{cases_Bool, cases_lt}
use Rattle.std.proofs.lemmas.List.{map-append, take_more, take_all, append-nil}
use Rattle.std.proofs.lemmas.List.Elements.{filter-append}
use Rattle.std.proofs.lemmas.List.Sums.{sum_by-cons}
use Rattle.std.proofs.Math.Nat.{mul-le-mul_right}
use Rattle.std.proofs.Math.Path.{transport}
use Rattle.raster_cells.specs.declared.kind.PixelType.{PixelType}
use Rattle.raster_values.specs.Raster.{Pixels, IsRaster, valid_count}
use Rattle.raster_values.specs.Block.{SameMask}
use Rattle.delta_mode.specs.Symbols.{symbol_of}
use Rattle.delta_mode.specs.Deltas.{delta, deltas_from, is_valid}
use Rattle.delta_mode.specs.inside.Pieces.{rank, IsAt, AreCoded}
use Rattle.delta_mode.proofs.Predictors.{predictor_same, range_more, from-is, last-zero}
use Rattle.delta_mode.proofs.Pieces.{rank_on, rank_off, rank_below, rank_same, rank_split}
use Rattle.delta_mode.proofs.Marks.{row_and_col, all_marks}

-- ---- as many symbols as valid pixels

rank_count : (ps : List (Option (List ℤ))) → rank (λ k. is_some (get_or ps k None)) (length ps) ≡ count_by is_some ps
rank_count [] = refl
rank_count (p ∷ ps) =
    let valid : ℕ → Bool = λ (k : ℕ). is_some (get_or (p ∷ ps) k None) in
    let n = length ps in
    let e : suc n ≡ 1 + n = omega arith in
    let one : rank valid 1 ≡ cond (is_some p) 1 0 = refl in
    let next : rank (λ j. valid (1 + j)) n ≡ count_by is_some ps =
    rank_same (λ j. valid (1 + j)) (λ j. is_some (get_or ps j None)) n (λ j lt. ap valid (let s : 1 + j ≡ suc j = omega arith in s)) ∙ rank_count ps in
    ap (rank valid) e ∙ rank_split valid 1 n ∙ (λ i. one i + next i) ∙ sym (sum_by-cons (λ (q : Option (List ℤ)). cond (is_some q) 1 0) p ps)

pub rank_all : (r : Pixels) → IsRaster r → rank (is_valid r) (r.rows * r.cols) ≡ valid_count r
rank_all r h = ap (rank (is_valid r)) (sym h.places) ∙ rank_count r.pixels

-- ---- pieces within the raster

pub piece_within : (place count rows cols : ℕ) → place < rows * cols → count ≤ cols - place % cols → 0 < cols → place + count ≤ rows * cols
piece_within place count rows cols lt le some =
    let at = row_and_col place rows cols lt in
    let up : (place / cols + 1) * cols ≤ rows * cols = mul-le-mul_right cols (omega (arith, at.0)) in
    let open_ : (place / cols + 1) * cols ≡ place / cols * cols + cols = omega arith in
    omega (arith, up, open_, at.1.0, at.1.1, le)

pub piece_across : (place count cols : ℕ) → count ≤ cols - place % cols → 0 < cols → place % cols + count ≤ cols
piece_across place count cols le some = grind arith

-- a piece of a row that begins within the raster: it ends there, and as many marks are the first of a list
pub record IsNext (r : Pixels) (place count : ℕ) (marks : List Bool) : Type 0 where
  pub within : place + count ≤ r.rows * r.cols
  pub long : length (take count marks) ≡ count
  pub to : place + length (take count marks) ≡ place + count

-- ---- the symbols of all pieces

pub coded_none : (kind : PixelType) (cols : ℕ) (valid : ℕ → Bool) (value : ℕ → ℤ) (symbols : List ℕ) → AreCoded kind cols valid value 0 0 symbols
coded_none kind cols valid value symbols = record { each = λ k from lt on. absurd (omega (arith, lt)) }

pub at_first : (valid : ℕ → Bool) (value : ℕ → ℤ) (left : Bool) (last : ℤ) (count : ℕ) → left ≡ false → last ≡ pos 0 → count ≡ 0 → IsAt valid value 0 left last count
at_first valid value left last count el ez ec = record { left_is = λ lt. absurd (omega (arith, lt)); last_is = ez ∙ sym (last-zero valid value); count_is = ec }

pub coded_more : (kind : PixelType) (cols : ℕ) (valid : ℕ → Bool) (value : ℕ → ℤ) (m n : ℕ) (symbols : List ℕ) → AreCoded kind cols valid value 0 m symbols → AreCoded kind cols valid value m n symbols
    → AreCoded kind cols valid value 0 n symbols
coded_more kind cols valid value m n symbols a b = record {
  each = λ k from lt on. elim (cases_lt k m) [
    | inl below ↦ a.each k from below on
    | inr above ↦ b.each k above lt on
  ];
}

-- symbols that are written behind them leave them
pub coded_kept : (kind : PixelType) (cols : ℕ) (valid : ℕ → Bool) (value : ℕ → ℤ) (m : ℕ) (old new : List ℕ) → ((j : ℕ) → j < rank valid m → get_or new j 0 ≡ get_or old j 0)
    → AreCoded kind cols valid value 0 m old → AreCoded kind cols valid value 0 m new
coded_kept kind cols valid value m old new same a = record { each = λ k from lt on. a.each k from lt on ∙ sym (same (rank valid k) (rank_below valid k m lt on)) }

-- and so do values that are written behind them, or to pixels that are not valid
pub coded_same : (kind : PixelType) (cols : ℕ) (valid : ℕ → Bool) (v w : ℕ → ℤ) (m : ℕ) (symbols : List ℕ) → 0 < cols → ((j : ℕ) → j < m → valid j ≡ true → w j ≡ v j)
    → AreCoded kind cols valid v 0 m symbols → AreCoded kind cols valid w 0 m symbols
coded_same kind cols valid v w m symbols some same a = record {
  each = λ k from lt on.
      (λ i. symbol_of kind (same k lt on i -ℤ predictor_same cols valid w v k some (λ j below yes_. same j (omega (arith, below, lt)) yes_) i)) ∙ a.each k from lt on;
}

-- in the words of another raster of one mask
pub coded_as : (r s : Pixels) (value : ℕ → ℤ) {from to end : ℕ} {symbols : List ℕ} → IsRaster r → IsRaster s → SameMask r s → to ≡ end
    → AreCoded s.kind s.cols (is_valid s) value from to symbols → AreCoded r.kind r.cols (is_valid r) value from end symbols
coded_as r s value {from} {to} {end} {symbols} hr hs same e =
    transport (λ i. AreCoded (sym same.shape.kind i) (sym same.shape.cols i) (all_marks r s hr hs same i) value from (e i) symbols)

-- the symbols of the valid pixels, one by one, are those of the depth
pub coded_first : (kind : PixelType) (cols : ℕ) (valid : ℕ → Bool) (value : ℕ → ℤ) (symbols : List ℕ) (m n : ℕ) → m ≤ n → rank valid n ≤ length symbols → AreCoded kind cols valid value 0 n symbols
    → deltas_from kind cols valid value 0 m ≡ take (rank valid m) symbols
coded_first kind cols valid value symbols zero n le room a = from-is kind cols valid value 0 0
coded_first kind cols valid value symbols (suc m) n le room a =
    let before = coded_first kind cols valid value symbols m n (omega (arith, le)) room a in
    let d = delta kind cols valid value in
    let e : 0 + m ≡ m = omega arith in
    let split : deltas_from kind cols valid value 0 (suc m) ≡ deltas_from kind cols valid value 0 m ++ map d (filter valid (m ∷ [])) =
    ap (deltas_from kind cols valid value 0) (sym (add-one m)) ∙ from-is kind cols valid value 0 (m + 1)
    ∙ ap (λ ks. map d (filter valid ks)) (range_more 0 m ∙ ap (λ k. range_with_len 0 m ++ k ∷ []) e)
    ∙ ap (map d) (filter-append valid (range_with_len 0 m) (m ∷ []))
    ∙ map-append d (filter valid (range_with_len 0 m)) (filter valid (m ∷ []))
    ∙ ap (λ ds. ds ++ map d (filter valid (m ∷ []))) (sym (from-is kind cols valid value 0 m)) in
    split ∙ elim (cases_Bool (valid m)) as (λ _. deltas_from kind cols valid value 0 m ++ map d (filter valid (m ∷ [])) ≡ take (rank valid (suc m)) symbols) [
      | inl on ↦
          let below = rank_below valid m n (omega (arith, le)) on in
          let here : d m ≡ get_or symbols (rank valid m) 0 = a.each m (omega arith) (omega (arith, le)) on in
          ap (λ ds. ds ++ map d (filter valid (m ∷ []))) before ∙ ap (λ b. take (rank valid m) symbols ++ map d (cond b (m ∷ []) [])) on
          ∙ ap (λ x. take (rank valid m) symbols ++ x ∷ []) here
          ∙ sym (take_more symbols (rank valid m) 0 (omega (arith, below, room)))
          ∙ ap (λ k. take k symbols) (sym (rank_on valid m on) ∙ ap (rank valid) (add-one m))
      | inr off ↦
          ap (λ ds. ds ++ map d (filter valid (m ∷ []))) before ∙ ap (λ b. take (rank valid m) symbols ++ map d (cond b (m ∷ []) [])) off
          ∙ append-nil (take (rank valid m) symbols)
          ∙ ap (λ k. take k symbols) (sym (rank_off valid m off) ∙ ap (rank valid) (add-one m))
    ]

pub coded_all : (kind : PixelType) (cols : ℕ) (valid : ℕ → Bool) (value : ℕ → ℤ) (symbols : List ℕ) (n : ℕ) → length symbols ≡ rank valid n → AreCoded kind cols valid value 0 n symbols
    → symbols ≡ deltas_from kind cols valid value 0 n
coded_all kind cols valid value symbols n long a =
    sym (coded_first kind cols valid value symbols n n (omega arith) (omega (arith, long)) a ∙ ap (λ k. take k symbols) (sym long) ∙ take_all (length symbols) symbols (omega arith))

-- the symbols of the pixels below the end of a raster
pub coded_whole : (r : Pixels) (value : ℕ → ℤ) (place : ℕ) {rows cols : ℕ} {symbols : List ℕ} → IsRaster r → rows ≡ r.rows → cols ≡ r.cols → place ≤ r.rows * r.cols → rows * cols ≤ place → length symbols ≡ valid_count r
    → AreCoded r.kind r.cols (is_valid r) value 0 place symbols → symbols ≡ deltas_from r.kind r.cols (is_valid r) value 0 (r.rows * r.cols)
coded_whole r value place {rows} {cols} {symbols} sound er ec within over count coded =
    let size : rows * cols ≡ r.rows * r.cols = λ i. er i * ec i in
    let end : place ≡ r.rows * r.cols = omega (arith, size, within, over) in
    coded_all r.kind r.cols (is_valid r) value symbols (r.rows * r.cols) (count ∙ sym (rank_all r sound)) (subst (λ n. AreCoded r.kind r.cols (is_valid r) value 0 n symbols) end coded)
