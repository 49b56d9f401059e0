-- The next run of valid pixels of a row: what is known in front of it, and what its symbols are of.
use Rattle.std.proofs.Common.{◌≡◌, ℕ, ℤ, ◌+◌, ◌-◌, ◌*◌, ◌%◌, ◌<◌, ◌≤◌, Bool, true, false, ◌&&◌, List, sym, ap, ◌∙◌, subst, arith, inl, inr}
use Rattle.std.specs.Prelude.{nat_eq}
use Rattle.std.proofs.lemmas.Bool.{cases_lt}
use Rattle.std.proofs.lemmas.Bool.Decides.{nat_tests}
use Rattle.raster_cells.specs.declared.kind.PixelType.{PixelType}
use Rattle.raster_values.specs.Raster.{Pixels, IsRaster, valid_count}
use Rattle.raster_values.specs.Flat.{marks_of}
use Rattle.raster_cells.specs.MarkRuns.{AreRuns}
use Rattle.delta_mode.specs.Deltas.{is_valid, last_value}
use Rattle.delta_mode.specs.inside.Pieces.{rank, IsAt, AreCoded}
use Rattle.delta_mode.proofs.Pieces.{rank_grows}
use Rattle.delta_mode.proofs.InPieces.{column}
use Rattle.delta_mode.proofs.WholeDepth.{piece_across, piece_within, rank_all}
use Rattle.delta_mode.proofs.EvenPieces.{none_at, rank_skips}
use Rattle.delta_mode.proofs.StartBits.{marks_are}

-- ---- within a row and within the raster

-- so many pixels of a row end within the raster
pub row_within : (r : Pixels) (place most : ℕ) {rows cols : ℕ} → IsRaster r → rows ≡ r.rows → cols ≡ r.cols → place < rows * cols → most ≤ cols - place % cols → place + most ≤ r.rows * r.cols
row_within r place most {rows} {cols} sound er ec lt short =
    piece_within place most r.rows r.cols (subst (λ n. place < n) (λ i. er i * ec i) lt) (subst (λ n. most ≤ n - place % n) ec short) sound.shape.cols_above

-- and those up to one of them in the row
pub row_across : (r : Pixels) (place most stop : ℕ) {cols : ℕ} → IsRaster r → cols ≡ r.cols → most ≤ cols - place % cols → stop ≤ place + most → place % r.cols + (stop - place) ≤ r.cols
row_across r place most stop {cols} sound ec short le =
    let across = piece_across place most r.cols (subst (λ n. most ≤ n - place % n) ec short) sound.shape.cols_above in
    omega (arith, across, le)

-- the symbols up to a place are there
pub row_room : (r : Pixels) (stop : ℕ) → IsRaster r → stop ≤ r.rows * r.cols → rank (is_valid r) stop ≤ valid_count r
row_room r stop sound le = omega (arith, rank_grows (is_valid r) stop (r.rows * r.cols) le, rank_all r sound)

-- a run that begins later in a row ends in it
pub run_across : (place start end cols : ℕ) → place ≤ start → start < end → place % cols + (end - place) ≤ cols → start % cols + (end - start) ≤ cols
run_across place start end cols first lt across =
    let e : place + (start - place) ≡ start = omega (arith, first) in
    let at : start % cols ≡ place % cols + (start - place) = ap (λ k. k % cols) (sym e) ∙ column place (start - place) cols (omega (arith, first, lt, across)) (omega (arith, first, lt, across)) in
    omega (arith, at, first, lt, across)

-- ---- the pixels of a run, and those before it

pub run_off : (r : Pixels) {place start end : ℕ} → AreRuns (marks_of r) place start end → (k : ℕ) → place ≤ k → k < start → is_valid r k ≡ false
run_off r runs k low high = sym (marks_are r k) ∙ runs.off k low high

pub run_on : (r : Pixels) {place start end : ℕ} → AreRuns (marks_of r) place start end → (i : ℕ) → i < end - start → is_valid r (start + i) ≡ true
run_on r {place} {start} {end} runs i lt = sym (marks_are r (start + i)) ∙ runs.on (start + i) (omega arith) (omega (arith, lt))

-- as many are valid before the run as before the pixels in front of it
pub run_rank : (r : Pixels) {place start end : ℕ} → AreRuns (marks_of r) place start end → rank (is_valid r) start ≡ rank (is_valid r) place
run_rank r {place} {start} {end} runs =
    let first = runs.first in
    let e : start ≡ place + (start - place) = omega (arith, first) in
    ap (rank (is_valid r)) e ∙ rank_skips (is_valid r) place (start - place) (λ i lt. run_off r runs (place + i) (omega arith) (omega (arith, first, lt)))

-- what is kept in front of the run
pub at_run : (r : Pixels) (value : ℕ → ℤ) {place start end : ℕ} {kept left : Bool} {z last : ℤ} {m count : ℕ} → AreRuns (marks_of r) place start end → IsAt (is_valid r) value place kept z m
    → left ≡ (nat_eq start place && kept) → last ≡ z → count ≡ m → IsAt (is_valid r) value start left last count
at_run r value {place} {start} {end} {kept} {left} {z} {last} {m} {count} runs at el ez ec =
    let first = runs.first in
    elim (cases_lt place start) [
      | inl lt ↦
          let e : place + (start - place) ≡ start = omega (arith, first) in
          let off : nat_eq start place ≡ false = grind (arith, nat_tests, lt) in
          subst (λ k. IsAt (is_valid r) value k left last count) e
          (none_at (is_valid r) value place (start - place) (omega (arith, lt)) (λ i less. run_off r runs (place + i) (omega arith) (omega (arith, first, less))) at (el ∙ ap (λ b. b && kept) off) ez ec)
      | inr ge ↦
          let e : place ≡ start = omega (arith, first, ge) in
          let on : nat_eq start place ≡ true = grind (arith, nat_tests, e) in
          record {
            left_is = λ above. el ∙ ap (λ b. b && kept) on ∙ at.left_is (omega (arith, above, e)) ∙ ap (λ k. is_valid r (k - 1)) e;
            last_is = ez ∙ at.last_is ∙ ap (last_value (is_valid r) value) e;
            count_is = ec ∙ at.count_is ∙ ap (rank (is_valid r)) e;
          }
    ]

-- ---- symbols

-- the symbols of a run are those of all pixels up to its end
pub run_coded : (r : Pixels) (kind : PixelType) (cols : ℕ) (value : ℕ → ℤ) {place start end : ℕ} (symbols : List ℕ) → AreRuns (marks_of r) place start end
    → AreCoded kind cols (is_valid r) value start end symbols → AreCoded kind cols (is_valid r) value place end symbols
run_coded r kind cols value {place} {start} {end} symbols runs coded = record {
  each = λ k from lt on. elim (cases_lt k start) [
    | inl below ↦ let none : is_valid r k ≡ false = run_off r runs k from below in absurd (cc)
    | inr above ↦ coded.each k above lt on
  ];
}

-- an empty run has none
pub none_run : (r : Pixels) (kind : PixelType) (cols : ℕ) (value : ℕ → ℤ) {place start end : ℕ} (symbols : List ℕ) → AreRuns (marks_of r) place start end → start ≡ end
    → AreCoded kind cols (is_valid r) value place end symbols
none_run r kind cols value {place} {start} {end} symbols runs e = run_coded r kind cols value symbols runs (record { each = λ k from lt on. absurd (omega (arith, from, lt, e)) })
