-- Numbers as pixels, one by one.
use Rattle.std.proofs.Common.{All, ◌≡◌, ◌≢◌, ℕ, ℤ, pos, suc, ◌+◌, ◌-◌, ◌*◌, ◌/◌, ◌%◌, ◌<◌, ◌≤◌, true, List, [], ◌∷◌, ◌++◌, length, get_or, set, replicate, Option, None, Some, Ok, Err, unwrap_or, refl, sym, ap, ◌∙◌, subst, arith, append_assoc, ◌⊎◌, inl, inr}
use Rattle.std.proofs.Math.Nat.{mul_comm, mul-le-mul_right}
use Rattle.std.proofs.lemmas.List.{append-nil, get_or_at, set_at, length_push}
use Rattle.raster_cells.specs.declared.kind.PixelType.{PixelType}
use Rattle.raster_cells.specs.PixelType.{InRange}
use Rattle.raster_values.specs.Raster.{Pixels, marked, marked_pixel, written}
use Rattle.ascii_grid.specs.declared.fault.AsciiReason.TheVariants.{BadNumber, OutOfRange, Leftover}
use Rattle.ascii_grid.specs.declared.fault.AsciiFault.{AsciiFault}
use Rattle.ascii_grid.specs.declared.fault.AsciiStop.{AsciiStop}
use Rattle.ascii_grid.specs.declared.fault.AsciiStop.TheVariants.{Fault, Source, OutOfMemory}
use Rattle.ascii_grid.specs.Tokens.{TokenAt}
use Rattle.ascii_grid.specs.Head.{IsInteger}
use Rattle.std.proofs.lemmas.List.Elements.{All-push}
use Rattle.ascii_grid.specs.Canon.{IsApart}
use Rattle.ascii_grid.specs.Text.{AreCells, IsCell, cell_faults}
use Rattle.ascii_grid.specs.inside.Cells.{Begun, CellTaken, CellsTaken, IsFairSoFar}
use Rattle.ascii_grid.specs.inside.Reading.{Held, TakesNext}
use Rattle.ascii_grid.specs.inside.Steps.{Demanded, NextTaken}
use Rattle.ascii_grid.proofs.DigitSteps.{integer_few, one_integer}

-- ---- one number

pub cell_bad : (e : AsciiStop) (nodata : ℤ) (t : TokenAt) (old new : Pixels) (k : ℕ) → ((z : ℤ) → ¬ IsInteger t.bytes z) → e ≡ Fault (record { reason = BadNumber; place = t.place }) → CellTaken (Err e) nodata t old new k
cell_bad e nodata t old new k never is = subst (λ (s : AsciiStop). CellTaken (Err s) nodata t old new k) (sym is) (inr ((λ some. never some.0 some.1), (refl, refl)))

pub cell_far : (e : AsciiStop) (nodata n : ℤ) (t : TokenAt) (old new : Pixels) (k : ℕ) → IsInteger t.bytes n → n ≢ nodata → (¬ InRange old.kind n) → e ≡ Fault (record { reason = OutOfRange; place = t.place }) → CellTaken (Err e) nodata t old new k
cell_far e nodata n t old new k number other far is = subst (λ (s : AsciiStop). CellTaken (Err s) nodata t old new k) (sym is) (inl ((n, number), inr (never, (refl, refl))))
  where
    by : (m : ℤ) (p : Option (List ℤ)) → m ≡ n → ((m ≡ nodata) × (p ≡ None)) ⊎ ((m ≢ nodata) × (InRange old.kind m × (p ≡ Some (m ∷ [])))) → ⊥
    by m p same (inl (a, b)) = other (sym same ∙ a)
    by m p same (inr (a, (b, c))) = far (subst (InRange old.kind) same b)

    never : (p : Option (List ℤ)) × IsCell old.kind nodata t.bytes p → ⊥
    never (p, cell) = by cell.0 p (one_integer t.bytes cell.0 n cell.1.0 number) cell.1.1

-- the pixels that are still to come
rest_more : (n k : ℕ) → k < n → replicate {A = Option (List ℤ)} (n - k) None ≡ None ∷ replicate (n - (k + 1)) None
rest_more n k less = ap (λ (m : ℕ). replicate {A = Option (List ℤ)} m None) (let e : n - k ≡ suc (n - (k + 1)) = omega (arith, less) in e)

begun_at : (blank old : Pixels) (cells : List (Option (List ℤ))) (k : ℕ) → Begun blank old cells → length cells ≡ k → k < blank.rows * blank.cols → old.pixels ≡ cells ++ None ∷ replicate (blank.rows * blank.cols - (k + 1)) None
begun_at blank old cells k begun size less =
    begun.pixels ∙ ap (λ (j : ℕ). cells ++ replicate (blank.rows * blank.cols - j) None) size ∙ ap (λ (r : List (Option (List ℤ))). cells ++ r) (rest_more (blank.rows * blank.cols) k less)

begun_more : (blank old new : Pixels) (cells : List (Option (List ℤ))) (p : Option (List ℤ)) (k : ℕ) → Begun blank old cells → length cells ≡ k → new ≡ record old { pixels = new.pixels }
    → new.pixels ≡ cells ++ p ∷ replicate (blank.rows * blank.cols - (k + 1)) None → Begun blank new (cells ++ p ∷ [])
begun_more blank old new cells p k begun size same is = record {
  same = same ∙ ap (λ (r : Pixels). record r { pixels = new.pixels }) begun.same;
  pixels =
      let longer : length (cells ++ p ∷ []) ≡ k + 1 = length_push cells p ∙ ap (λ (j : ℕ). j + 1) size in
      is ∙ sym (append_assoc cells (p ∷ []) (replicate (blank.rows * blank.cols - (k + 1)) None)) ∙ ap (λ (j : ℕ). (cells ++ p ∷ []) ++ replicate (blank.rows * blank.cols - j) None) (sym longer);
}

size_same : (blank old : Pixels) → old ≡ record blank { pixels = old.pixels } → old.rows * old.cols ≡ blank.rows * blank.cols
size_same blank old same = ap (λ (r : Pixels). r.rows * r.cols) same

pub cell_none : (nodata n : ℤ) (t : TokenAt) (old : Pixels) (k : ℕ) → k < old.rows * old.cols → IsInteger t.bytes n → n ≡ nodata → CellTaken (Ok tt) nodata t old old k
cell_none nodata n t old k less number is = (
  None,
  (
    (n, (number, inl (is, refl))),
    λ blank cells size begun.
        begun_more blank old old cells None k begun size refl (begun_at blank old cells k begun size (omega (arith, less, size_same blank old begun.same))),
  ),
)

-- a value written where no pixel was valid
written_at : (old : Pixels) (row col k : ℕ) (n : ℤ) (cells rest : List (Option (List ℤ))) → old.depth ≡ 1 → row * old.cols + col ≡ k → length cells ≡ k → old.pixels ≡ cells ++ None ∷ rest
    → (written (marked old row col true) row col 0 n).pixels ≡ cells ++ Some (n ∷ []) ∷ rest
written_at old row col k n cells rest depth at size pixels =
    let first : set old.pixels (row * old.cols + col) (marked_pixel old.depth true (get_or old.pixels (row * old.cols + col) None)) ≡ cells ++ Some (pos 0 ∷ []) ∷ rest =
    (λ i. set (pixels i) (at i) (marked_pixel (depth i) true (get_or (pixels i) (at i) None)))
    ∙ ap (λ (p : Option (List ℤ)). set (cells ++ None ∷ rest) k (marked_pixel 1 true p)) (get_or_at cells None rest None k size)
    ∙ set_at cells None rest (Some (pos 0 ∷ [])) k size in
    (λ i. set (first i) (at i) (Some (set (unwrap_or (get_or (first i) (at i) None) []) 0 n)))
    ∙ ap (λ (p : Option (List ℤ)). set (cells ++ Some (pos 0 ∷ []) ∷ rest) k (Some (set (unwrap_or p []) 0 n))) (get_or_at cells (Some (pos 0 ∷ [])) rest None k size)
    ∙ set_at cells (Some (pos 0 ∷ [])) rest (Some (n ∷ [])) k size

pub cell_some : (nodata n : ℤ) (t : TokenAt) (old new : Pixels) (row col k : ℕ) → k < old.rows * old.cols → old.depth ≡ 1 → row * old.cols + col ≡ k → IsInteger t.bytes n → n ≢ nodata → InRange old.kind n
    → new ≡ written (marked old row col true) row col 0 n → CellTaken (Ok tt) nodata t old new k
cell_some nodata n t old new row col k less depth at number other near is = (
  Some (n ∷ []),
  (
    (n, (number, inr (other, (near, refl)))),
    λ blank cells size begun.
        let room : k < blank.rows * blank.cols = omega (arith, less, size_same blank old begun.same) in
        let here = begun_at blank old cells k begun size room in
        let pixels : new.pixels ≡ cells ++ Some (n ∷ []) ∷ replicate (blank.rows * blank.cols - (k + 1)) None =
        ap (λ (r : Pixels). r.pixels) is ∙ written_at old row col k n cells (replicate (blank.rows * blank.cols - (k + 1)) None) depth at size here in
        begun_more blank old new cells (Some (n ∷ [])) k begun size (is ∙ ap (λ (ps : List (Option (List ℤ))). record old { pixels = ps }) (sym (ap (λ (r : Pixels). r.pixels) is))) pixels,
  ),
)

-- ---- all numbers

pub cells_more : (kind : PixelType) (nodata : ℤ) (ts : List TokenAt) (ps : List (Option (List ℤ))) (t : TokenAt) (p : Option (List ℤ)) → AreCells kind nodata ts ps → IsCell kind nodata t.bytes p → AreCells kind nodata (ts ++ t ∷ []) (ps ++ p ∷ [])
cells_more kind nodata [] [] t p are is = (is, tt)
cells_more kind nodata [] (q ∷ ps) t p are is = absurd are
cells_more kind nodata (u ∷ ts) [] t p are is = absurd are
cells_more kind nodata (u ∷ ts) (q ∷ ps) t p are is = (are.0, cells_more kind nodata ts ps t p are.1 is)

pub cells_long : (kind : PixelType) (nodata : ℤ) (ts : List TokenAt) (ps : List (Option (List ℤ))) → AreCells kind nodata ts ps → length ts ≡ length ps
cells_long kind nodata [] [] are = refl
cells_long kind nodata [] (q ∷ ps) are = absurd are
cells_long kind nodata (u ∷ ts) [] are = absurd are
cells_long kind nodata (u ∷ ts) (q ∷ ps) are = ap suc (cells_long kind nodata ts ps are.1)

pub number_bad : (total k : ℕ) (nodata : ℤ) (tokens before later : List TokenAt) (t : TokenAt) (old now new : Pixels) (cells : List (Option (List ℤ))) (e : AsciiStop) → tokens ≡ before ++ t ∷ later → length before ≡ k → k < old.rows * old.cols
    → now.kind ≡ old.kind → AreCells old.kind nodata before cells → CellTaken (Err e) nodata t now new k → CellsTaken (Err e) total nodata tokens old new
number_bad total k nodata tokens before later t old now new cells (Fault f) joined size less kind are fault = record {
  before = before;
  rest = t ∷ later;
  pixels = cells;
  joined = joined;
  stand = are;
  few = omega (arith, size, less);
  next = inl ((let room : length before < old.rows * old.cols = omega (arith, size, less) in room), subst (λ (d : PixelType). cell_faults d nodata t f.place f.reason) kind fault);
}
number_bad total k nodata tokens before later t old now new cells Source joined size less kind are fault = absurd fault
number_bad total k nodata tokens before later t old now new cells OutOfMemory joined size less kind are fault = absurd fault

pub number_end : (left : Option (List ℕ)) (window : Held) (total k : ℕ) (nodata : ℤ) (tokens before later : List TokenAt) (old new : Pixels) (cells : List (Option (List ℤ))) (e : AsciiStop) → tokens ≡ before ++ later → length before ≡ k → k < old.rows * old.cols
    → AreCells old.kind nodata before cells → Demanded (Err e) left window total later → CellsTaken (Err e) total nodata tokens old new
number_end left window total k nodata tokens before later old new cells (Fault f) joined size less are (empty, last) = record {
  before = before;
  rest = [];
  pixels = cells;
  joined = joined ∙ ap (λ (l : List TokenAt). before ++ l) empty;
  stand = are;
  few = omega (arith, size, less);
  next = inr ((λ all. let bad : ⊥ = omega (arith, all, size, less) in bad), last);
}
number_end left window total k nodata tokens before later old new cells Source joined size less are told = tt
number_end left window total k nodata tokens before later old new cells OutOfMemory joined size less are told = told

pub place_back : (k c d : ℕ) → c ≡ d → 0 < c → (k / c) * d + k % c ≡ k
place_back k c d same some = ap (λ (x : ℕ). (k / c) * x + k % c) (sym same) ∙ omega (arith, mul_comm (k / c) c)

-- every number stands, and no token is behind them
pub cells_done : (left : Option (List ℕ)) (window : Held) (total k : ℕ) (nodata : ℤ) (tokens before later : List TokenAt) (old new : Pixels) (cells : List (Option (List ℤ))) → tokens ≡ before ++ later → length before ≡ k → k ≡ old.rows * old.cols
    → AreCells old.kind nodata before cells → Begun old new cells → TakesNext left window total later None → CellsTaken (Ok tt) total nodata tokens old new
cells_done left window total k nodata tokens before [] old new cells joined size all are begun (short, at) =
    let long : length cells ≡ old.rows * old.cols = sym (cells_long old.kind nodata before cells are) ∙ size ∙ all in
    let none : old.rows * old.cols - length cells ≡ 0 = omega (arith, long) in
    let pixels : new.pixels ≡ cells = begun.pixels ∙ ap (λ (j : ℕ). cells ++ replicate j None) none ∙ append-nil cells in
    let whole : tokens ≡ before = joined ∙ append-nil before in
    (short, (ap length whole ∙ size ∙ all, (subst (λ (ts : List TokenAt). AreCells old.kind nodata ts new.pixels) (sym whole) (subst (AreCells old.kind nodata before) (sym pixels) are), begun.same)))
cells_done left window total k nodata tokens before (t ∷ later) old new cells joined size all are begun told = absurd told

pub number_over : (left : Option (List ℕ)) (window : Held) (total k : ℕ) (nodata : ℤ) (tokens before later : List TokenAt) (t : TokenAt) (old new : Pixels) (cells : List (Option (List ℤ))) (e : AsciiStop) → tokens ≡ before ++ later → length before ≡ k → k ≡ old.rows * old.cols
    → AreCells old.kind nodata before cells → TakesNext left window total later (Some t) → e ≡ Fault (record { reason = Leftover; place = t.place }) → CellsTaken (Err e) total nodata tokens old new
number_over left window total k nodata tokens before [] t old new cells e joined size all are told is = absurd told
number_over left window total k nodata tokens before (u ∷ later) t old new cells e joined size all are (same, next) is =
    subst (λ (s : AsciiStop). CellsTaken (Err s) total nodata tokens old new) (sym is) (record {
      before = before;
      rest = u ∷ later;
      pixels = cells;
      joined = joined;
      stand = are;
      few = omega (arith, size, all);
      next = inr ((λ less. let bad : ⊥ = omega (arith, less, size, all) in bad), (ap (λ (s : TokenAt). s.place) same, refl));
    })

-- the text is too long behind the last number
pub number_last : (left : Option (List ℕ)) (window : Held) (total k : ℕ) (nodata : ℤ) (tokens before later : List TokenAt) (old new : Pixels) (cells : List (Option (List ℤ))) (e : AsciiStop) → tokens ≡ before ++ later → length before ≡ k → k ≡ old.rows * old.cols
    → AreCells old.kind nodata before cells → NextTaken (Err e) left window total later → CellsTaken (Err e) total nodata tokens old new
number_last left window total k nodata tokens before later old new cells (Fault f) joined size all are (empty, (long, is)) = record {
  before = before;
  rest = [];
  pixels = cells;
  joined = joined ∙ ap (λ (l : List TokenAt). before ++ l) empty;
  stand = are;
  few = omega (arith, size, all);
  next = inl ((let room : old.rows * old.cols ≤ length before = omega (arith, size, all) in room), inr ((λ short. let bad : ⊥ = omega (arith, short, long) in bad), (ap (λ (g : AsciiFault). g.place) is, ap (λ (g : AsciiFault). g.reason) is)));
}
number_last left window total k nodata tokens before later old new cells Source joined size all are told = tt
number_last left window total k nodata tokens before later old new cells OutOfMemory joined size all are told = told

-- ---- how far the numbers were taken

pub record Progress (old now : Pixels) (nodata : ℤ) (tokens : List TokenAt) (k : ℕ) (before : List TokenAt) (cells : List (Option (List ℤ))) (later : List TokenAt) : Type 0 where
  pub size : length before ≡ k
  pub are : AreCells old.kind nodata before cells
  pub begun : Begun old now cells
  pub joined : tokens ≡ before ++ later

pub cell_step : (old now new : Pixels) (nodata : ℤ) (tokens before later : List TokenAt) (t : TokenAt) (cells : List (Option (List ℤ))) (k : ℕ) → Progress old now nodata tokens k before cells (t ∷ later) → now.kind ≡ old.kind → CellTaken (Ok tt) nodata t now new k
    → (p : Option (List ℤ)) × Progress old new nodata tokens (k + 1) (before ++ t ∷ []) (cells ++ p ∷ []) later
cell_step old now new nodata tokens before later t cells k far kind (p, (cell, next)) = (
  p,
  record {
    size = length_push before t ∙ ap (λ (j : ℕ). j + 1) far.size;
    are = cells_more old.kind nodata before cells t p far.are (subst (λ (d : PixelType). IsCell d nodata t.bytes p) kind cell);
    begun = next old cells (sym (cells_long old.kind nodata before cells far.are) ∙ far.size) far.begun;
    joined = far.joined ∙ sym (append_assoc before (t ∷ []) later);
  },
)

pub token_short : (nodata : ℤ) (t : TokenAt) (old new : Pixels) (k : ℕ) → CellTaken (Ok tt) nodata t old new k → length t.bytes < 33
token_short nodata t old new k (p, (cell, next)) = omega (arith, integer_few t.bytes cell.0 cell.1.0)

pub begun_blank : (r : Pixels) → r.pixels ≡ replicate (r.rows * r.cols) None → Begun r r []
begun_blank r is = record { same = refl; pixels = is ∙ ap (λ (n : ℕ). replicate {A = Option (List ℤ)} n None) (let e : r.rows * r.cols ≡ r.rows * r.cols - 0 = omega arith in e) }

pub some_area : (rows cols : ℕ) → 0 < rows → 0 < cols → 0 < rows * cols
some_area rows cols a b = omega (arith, mul-le-mul_right cols (let one : 1 ≤ rows = omega (arith, a) in one), b)

-- ---- no value is nodata

cell_apart : (kind : PixelType) (nodata : ℤ) (bytes : List ℕ) (p : Option (List ℤ)) → IsCell kind nodata bytes p → IsApart nodata p
cell_apart kind nodata bytes p (n, (is, inl (same, none))) = subst (IsApart nodata) (sym none) tt
cell_apart kind nodata bytes p (n, (is, inr (other, (near, some)))) = subst (IsApart nodata) (sym some) other

pub fair_step : (nodata : ℤ) (t : TokenAt) (blank old new : Pixels) (k : ℕ) → IsFairSoFar blank old nodata k → CellTaken (Ok tt) nodata t old new k → IsFairSoFar blank new nodata (k + 1)
fair_step nodata t blank old new k (cells, (size, (begun, all))) (p, (is, more)) =
    (cells ++ p ∷ [], (length_push cells p ∙ ap (λ (j : ℕ). j + 1) size, (more blank cells size begun, All-push (IsApart nodata) cells p all (cell_apart old.kind nodata t.bytes p is))))

pub fair_all : (nodata : ℤ) (blank now : Pixels) (k : ℕ) → IsFairSoFar blank now nodata k → k ≡ blank.rows * blank.cols → All (IsApart nodata) now.pixels
fair_all nodata blank now k (cells, (size, (begun, all))) whole =
    let none : blank.rows * blank.cols - length cells ≡ 0 = omega (arith, size, whole) in
    subst (All (IsApart nodata)) (sym (begun.pixels ∙ ap (λ (j : ℕ). cells ++ replicate j None) none ∙ append-nil cells)) all
