-- Pieces of a depth of a raster of which every pixel is valid.
use Rattle.std.proofs.Common.{◌≡◌, ℕ, ◌+◌, ◌-◌, ◌*◌, ◌/◌, ◌%◌, ◌<◌, ◌≤◌, List, [], ◌∷◌, ◌++◌, length, get_or, take, refl, sym, ap, ◌∙◌, arith, inl, inr}
use Rattle.std.proofs.lemmas.Bool.{cases_lt}
use Rattle.std.proofs.Math.Seq.{take-append-add}
use Rattle.std.proofs.lemmas.List.{append-nil, append_assoc, length-append, length-take-le, take-append-le, take_all}
use Rattle.std.proofs.Math.Nat.{mod-eq_of_lt, mul-le-mul_left, mul-le-mul_right, mul-mod_left}
use Rattle.raster_cells.specs.PixelType.{InRange}
use Rattle.raster_values.specs.Raster.{Pixels, IsRaster, valid_count}
use Rattle.raster_values.specs.Flat.{value_in}
use Rattle.delta_mode.specs.Symbols.{IsByteType, bias}
use Rattle.delta_mode.specs.Deltas.{delta, deltas, is_valid, predictor}
use Rattle.delta_mode.specs.EncodeStates.{deltas_before}
use Rattle.delta_mode.specs.inside.Bytewise.{byte_of, wrapped}
use Rattle.delta_mode.specs.inside.Pieces.{rank, IsFilled}
use Rattle.delta_mode.specs.inside.Strided.{cell_before}
use Rattle.delta_mode.proofs.Bytewise.{rank_at, rank_full, rank_most, wrapped_symbol}
use Rattle.delta_mode.proofs.Marks.{value_in_range, zero_in_range}
use Rattle.delta_mode.proofs.Predictors.{predictor_has}
use Rattle.delta_mode.proofs.Strided.{before_is, placed}
use Rattle.delta_mode.proofs.EncodeStates.{from_front, length-deltas, length-from, piece_first}
use Rattle.delta_mode.proofs.WholeDepth.{rank_all}

-- a pixel's byte at a depth is there
pub cell_there : (n depth d k size : ℕ) → d < depth → k < n → n * depth ≤ size → k * depth + d < size
cell_there n depth d k size below lt fits = let in_ = placed n depth d k below lt in omega (arith, in_, fits)

pub row_there : (n depth k size : ℕ) → k < n → n * depth ≤ size → (k + 1) * depth ≤ size
row_there n depth k size lt fits = let up : (k + 1) * depth ≤ n * depth = mul-le-mul_right depth (omega (arith, lt)) in omega (arith, up, fits)

-- ---- the first column

pub column_of : (place i cols : ℕ) → 0 < cols → place % cols + i < cols → (place + i) % cols ≡ place % cols + i
column_of place i cols some lt = grind arith

whole_rows : (place cols : ℕ) → 0 < cols → 0 < place % cols → (place + (cols - place % cols)) % cols ≡ 0
whole_rows place cols some in_ =
    let low : place % cols < cols = omega (arith, some) in
    let parts : place ≡ place / cols * cols + place % cols = omega (arith, some) in
    let open_ : (place / cols + 1) * cols ≡ place / cols * cols + cols = omega arith in
    let is : place + (cols - place % cols) ≡ (place / cols + 1) * cols = omega (arith, parts, open_, low) in
    ap (λ n. n % cols) is ∙ mul-mod_left (place / cols + 1) cols

-- the first place of the first column from one on
pub column_start : (place cols : ℕ) → 0 < cols → (place + (cols - place % cols) % cols) % cols ≡ 0
column_start place cols some = elim (cases_lt 0 (place % cols)) [
  | inl in_ ↦ ap (λ n. (place + n) % cols) (mod-eq_of_lt (let low : place % cols < cols = omega (arith, some) in omega (arith, in_, low))) ∙ whole_rows place cols some in_
  | inr none ↦
      let zero_ : place % cols ≡ 0 = omega (arith, none) in
      let full : cols - place % cols ≡ 1 * cols = omega (arith, zero_) in
      let start : (cols - place % cols) % cols ≡ 0 = ap (λ n. n % cols) full ∙ mul-mod_left 1 cols in
      let plain : place + 0 ≡ place = omega arith in
      ap (λ n. (place + n) % cols) start ∙ ap (λ n. n % cols) plain ∙ zero_
]

-- none before it is in the first column
pub column_none : (place cols i : ℕ) → 0 < cols → i < (cols - place % cols) % cols → (place + i) % cols ≡ 0 → ⊥
column_none place cols i some lt is = elim (cases_lt 0 (place % cols)) [
  | inl in_ ↦
      let low : place % cols < cols = omega (arith, some) in
      let start : (cols - place % cols) % cols ≡ cols - place % cols = mod-eq_of_lt (omega (arith, in_, low)) in
      let at = column_of place i cols some (omega (arith, lt, start, low)) in
      omega (arith, at, is, in_)
  | inr none ↦
      let zero_ : place % cols ≡ 0 = omega (arith, none) in
      let full : cols - place % cols ≡ 1 * cols = omega (arith, zero_) in
      let start : (cols - place % cols) % cols ≡ 0 = ap (λ n. n % cols) full ∙ mul-mod_left 1 cols in
      omega (arith, start, lt)
]

-- ---- the symbols

-- no raster has more valid values than values
pub all_few : (r : Pixels) → IsRaster r → r.depth * valid_count r ≤ 16777216
all_few r sound =
    let most = rank_most (is_valid r) (r.rows * r.cols) in
    let all = rank_all r sound in
    let up : valid_count r * r.depth ≤ r.rows * r.cols * r.depth = mul-le-mul_right r.depth (omega (arith, most, all)) in
    let size = sound.shape.size in
    let turned : r.depth * valid_count r ≡ valid_count r * r.depth = omega arith in
    omega (arith, up, size, turned)

pub full_symbol : (r : Pixels) (d : ℕ) (byte : ℕ → ℕ) (k : ℕ) → IsRaster r → IsByteType r.kind → valid_count r ≡ r.rows * r.cols → ((j : ℕ) → j < r.rows * r.cols → byte j ≡ byte_of (value_in r d j)) → k < r.rows * r.cols
    → delta r.kind r.cols (is_valid r) (value_in r d) k ≡ wrapped (bias r.kind) (byte k) (cell_before r.cols byte k)
full_symbol r d byte k sound is_byte full cells lt =
    let n = r.rows * r.cols in
    let valid = is_valid r in
    let value = value_in r d in
    let on = rank_full valid n (rank_all r sound ∙ full) in
    let some = sound.shape.cols_above in
    let fits : InRange r.kind (predictor r.cols valid value k) = predictor_has (InRange r.kind) r.cols valid value k some (zero_in_range r.kind) (λ j j_lt. value_in_range r d j sound) in
    wrapped_symbol r.kind (value k) (predictor r.cols valid value k) is_byte (value_in_range r d k sound) fits
    ∙ (λ i. wrapped (bias r.kind) (sym (cells k lt) i) (sym (before_is r.cols valid value byte n k some on cells lt) i))

pub full_piece : (r : Pixels) (d place : ℕ) (byte : ℕ → ℕ) (out : List ℕ) → IsRaster r → IsByteType r.kind → valid_count r ≡ r.rows * r.cols → place + length out ≤ r.rows * r.cols
    → ((j : ℕ) → j < r.rows * r.cols → byte j ≡ byte_of (value_in r d j))
    → ((i : ℕ) → i < length out → get_or out i 0 ≡ wrapped (bias r.kind) (byte (place + i)) (cell_before r.cols byte (place + i))) → deltas_before r d (place + length out) ≡ deltas_before r d place ++ out
full_piece r d place byte out sound is_byte full within cells each =
    let n = r.rows * r.cols in
    let valid = is_valid r in
    let on = rank_full valid n (rank_all r sound ∙ full) in
    let here : rank valid place ≡ place = rank_at valid n on place (omega (arith, within)) in
    let there : rank valid (place + length out) ≡ place + length out = rank_at valid n on (place + length out) within in
    let all : length out ≡ rank valid (place + length out) - rank valid place = omega (arith, here, there) in
    piece_first r.kind r.cols valid (value_in r d) out place (length out) (length out) (omega arith) (omega (arith, here, there))
    (λ k from lt mark.
    let i = k - place in
    let is : place + i ≡ k = omega (arith, from) in
    let at : rank valid k ≡ k = rank_at valid n on k (omega (arith, lt, within)) in
    let same : i ≡ rank valid k - rank valid place = omega (arith, at, here) in
    full_symbol r d byte k sound is_byte full cells (omega (arith, lt, within))
    ∙ ap (λ j. wrapped (bias r.kind) (byte j) (cell_before r.cols byte j)) (sym is) ∙ sym (each i (omega (arith, from, lt))) ∙ ap (λ j. get_or out j 0) same)
    ∙ ap (λ (xs : List ℕ). deltas_before r d place ++ xs) (ap (λ j. take j out) (sym all) ∙ take_all (length out) out (omega arith))

-- ---- pieces with marks

-- no raster has more pixels than values
pub pixels_few : (r : Pixels) → IsRaster r → r.rows * r.cols ≤ 16777216
pixels_few r sound =
    let size = sound.shape.size in
    let deep = sound.shape.depth_above in
    let m : r.rows * r.cols * 1 ≤ r.rows * r.cols * r.depth = mul-le-mul_left (r.rows * r.cols) (omega (arith, deep)) in
    omega (arith, m, size)

-- ---- a whole depth

pub row_some : (r : Pixels) → IsRaster r → 0 < r.rows * r.cols
row_some r sound =
    let m : 1 * r.cols ≤ r.rows * r.cols = mul-le-mul_right r.cols (let some = sound.shape.rows_above in omega (arith, some)) in
    let some = sound.shape.cols_above in
    omega (arith, m, some)

length-zero : (xs : List ℕ) → length xs ≡ 0 → xs ≡ []
length-zero [] e = refl
length-zero (x ∷ xs) e = absurd (omega (arith, e))

before-none : (r : Pixels) (d : ℕ) → deltas_before r d 0 ≡ []
before-none r d = length-zero (deltas_before r d 0) (length-from r.kind r.cols (is_valid r) (value_in r d) 0)

-- where as many symbols stand in front as pixels are valid, these are all
pub all_in_front : (r : Pixels) → IsRaster r → (d k : ℕ) (out : List ℕ) → k ≤ r.rows * r.cols → deltas_before r d k ≡ out → valid_count r ≤ length out → out ≡ deltas r d
all_in_front r sound d k out le front many =
    let n = r.rows * r.cols in
    let end : k + (n - k) ≡ n = omega (arith, le) in
    let one = from_front r.kind r.cols (is_valid r) (value_in r d) k (n - k) in
    let whole : deltas r d ≡ out ++ one.rest = ap (deltas_before r d) (sym end) ∙ one.joined ∙ ap (λ (xs : List ℕ). xs ++ one.rest) front in
    let long = length-deltas r sound d in
    let sum = ap length whole ∙ length-append out one.rest in
    let none : length one.rest ≡ 0 = omega (arith, long, sum, many) in
    sym (whole ∙ ap (λ (xs : List ℕ). out ++ xs) (length-zero one.rest none) ∙ append-nil out)

-- where no pixel is valid
pub none_whole : (r : Pixels) → IsRaster r → (d : ℕ) (out : List ℕ) → length out ≡ valid_count r → length out ≡ 0 → out ≡ deltas r d
none_whole r sound d out size none = length-zero out none ∙ sym (length-zero (deltas r d) (let long = length-deltas r sound d in omega (arith, long, size, none)))

-- all pixels in one piece
pub one_whole : (r : Pixels) → IsRaster r → (d n : ℕ) (out : List ℕ) → n ≤ r.rows * r.cols → deltas_before r d n ≡ deltas_before r d 0 ++ out → length out ≡ valid_count r → out ≡ deltas r d
one_whole r sound d n out le front size = all_in_front r sound d n out le (front ∙ ap (λ (xs : List ℕ). xs ++ out) (before-none r d)) (omega (arith, size))

-- pieces up to the end, or until there is room for none
pub filled_whole : (r : Pixels) → IsRaster r → (d n filled : ℕ) (out : List ℕ) → n ≤ r.rows * r.cols → deltas_before r d n ≡ deltas_before r d 0 ++ take filled out → filled ≤ length out → length out ≡ valid_count r
    → IsFilled (r.rows * r.cols) n 1 filled (length out) → out ≡ deltas r d
filled_whole r sound d n filled out le front fits size (inl end) =
    let long = length-from r.kind r.cols (is_valid r) (value_in r d) n in
    let all = ap (rank (is_valid r)) end ∙ rank_all r sound in
    let none = ap length (before-none r d) in
    let sum = ap length front ∙ length-append (deltas_before r d 0) (take filled out) in
    let taken = length-take-le filled out fits in
    let whole : filled ≡ length out = omega (arith, long, all, sum, none, taken, size) in
    one_whole r sound d n out le (front ∙ ap (λ (xs : List ℕ). deltas_before r d 0 ++ xs) (ap (λ m. take m out) whole ∙ take_all (length out) out (omega arith))) size
filled_whole r sound d n filled out le front fits size (inr full) =
    let whole : filled ≡ length out = omega (arith, full, fits) in
    one_whole r sound d n out le (front ∙ ap (λ (xs : List ℕ). deltas_before r d 0 ++ xs) (ap (λ m. take m out) whole ∙ take_all (length out) out (omega arith))) size

-- ---- piece by piece

-- the symbols of a piece behind those before it
pub symbols_more : (r : Pixels) (d place at n filled more : ℕ) (old piece rest : List ℕ) → filled ≤ length old → more ≤ length piece → deltas_before r d at ≡ deltas_before r d place ++ take filled old
    → deltas_before r d (at + n) ≡ deltas_before r d at ++ take more piece → deltas_before r d (at + n) ≡ deltas_before r d place ++ take (filled + more) (take filled old ++ (piece ++ rest))
symbols_more r d place at n filled more old piece rest fits within before next =
    let long : length (take filled old) ≡ filled = length-take-le filled old fits in
    let joined : take (filled + more) (take filled old ++ (piece ++ rest)) ≡ take filled old ++ take more piece =
    ap (λ m. take (m + more) (take filled old ++ (piece ++ rest))) (sym long) ∙ take-append-add (take filled old) (piece ++ rest) more
    ∙ ap (λ (xs : List ℕ). take filled old ++ xs) (take-append-le more piece rest within) in
    next ∙ ap (λ (xs : List ℕ). xs ++ take more piece) before ∙ append_assoc (deltas_before r d place) (take filled old) (take more piece)
    ∙ ap (λ (xs : List ℕ). deltas_before r d place ++ xs) (sym joined)
