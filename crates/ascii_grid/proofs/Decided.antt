-- A text is that of a grid, or it has a fault.
use Rattle.std.proofs.Common.{◌≡◌, ℕ, ℤ, pos, negsuc, zero, suc, ◌+◌, ◌*◌, ◌<◌, ◌≤◌, Bool, true, false, List, [], ◌∷◌, ◌++◌, length, map, Option, refl, sym, ap, ◌∙◌, subst, arith, append_assoc, inl, inr, ◌⊎◌, ◌↔◌}
use Rattle.std.specs.Prelude.{IsTrue}
use Rattle.std.proofs.lemmas.List.{append-nil, length_push}
use Rattle.first_fault.specs.Faults.{Faults}
use Rattle.first_fault.specs.Parts.{HasFault}
use Rattle.raster_cells.specs.declared.kind.PixelType.{PixelType}
use Rattle.ascii_grid.specs.declared.words.Key.{Key}
use Rattle.ascii_grid.specs.declared.words.Key.TheVariants.{Cols, Rows, XCorner, XCenter, YCorner, YCenter, Cell, Nodata}
use Rattle.ascii_grid.specs.declared.fault.AsciiReason.{AsciiReason}
use Rattle.ascii_grid.specs.declared.fault.AsciiReason.TheVariants.{BadKey, Repeated, Missing, Leftover, TooLong, Truncated}
use Rattle.ascii_grid.specs.declared.grid.AsciiGrid.{AsciiGrid}
use Rattle.ascii_grid.specs.Tokens.{TokenAt, limit, seen, shown}
use Rattle.ascii_grid.specs.Endings.{ending}
use Rattle.ascii_grid.specs.Head.{ArePairs, BeginsWithLetter, Has, HasAll, HeadFaults, IsInteger, IsKey, IsSize, IsValue, Pair, Says, SaysKey, SaysNumber, SaysText, SomePair, behind_key, flat, next_faults, quantity_of, value_faults}
use Rattle.ascii_grid.specs.Text.{AreCells, AsciiFaults, IsAscii, IsCell, IsNodata, NumberFaults, cell_faults, next_number}
use Rattle.ascii_grid.specs.inside.Reading.{tokens_of}
use Rattle.ascii_grid.proofs.CellSteps.{cells_more}
use Rattle.ascii_grid.proofs.HeadSteps.{NextPair, are_more, joined_more}
use Rattle.ascii_grid.proofs.TokenLists.{shown_all}
use Rattle.ascii_grid.proofs.TextSteps.{are_tokens, short_cells, short_pairs, unseen}
use Rattle.ascii_grid.proofs.Tests.{Tested, decided_cell, decided_value, test_has_all, test_key, test_less, test_letter, test_most, test_says, test_some}

-- ---- the head

-- a pair more, or a token behind the pairs
record More (ps : List Pair) (ts : List TokenAt) : Type 0 where
  pair : Pair
  rest : List TokenAt
  is : ts ≡ pair.word ∷ pair.value ∷ rest
  stands : NextPair ps pair

record Ends (ps : List Pair) (ts : List TokenAt) : Type 0 where
  first : TokenAt
  rest : List TokenAt
  is : ts ≡ first ∷ rest
  all : HasAll ps
  dark : ¬ BeginsWithLetter first.bytes

behind_key_is : (last : Faults AsciiReason) → HasFault last → (ps : List Pair) (key : Key) (t : TokenAt) (us : List TokenAt) → BeginsWithLetter t.bytes → IsKey t.bytes key → ¬ Has ps key → More ps (t ∷ us) ⊎ HasFault (behind_key last ps key us)
behind_key_is last f ps key t [] letter named new = inr f
behind_key_is last f ps key t (v ∷ vs) letter named new = by (decided_value ps key v)
  where
    by : IsValue ps key v.bytes ⊎ HasFault (value_faults ps key v) → More ps (t ∷ v ∷ vs) ⊎ HasFault (value_faults ps key v)
    by (inl is) = inl (record { pair = record { word = t; key = key; value = v }; rest = vs; is = refl; stands = (letter, (named, (new, is))) })
    by (inr w) = inr w

next_is : (last : Faults AsciiReason) → HasFault last → (ps : List Pair) (ts : List TokenAt) → (More ps ts ⊎ Ends ps ts) ⊎ HasFault (next_faults last ps ts)
next_is last f ps [] = inr f
next_is last f ps (t ∷ us) = by (test_letter t.bytes)
  where
    keyed : BeginsWithLetter t.bytes → (key : Key) → IsKey t.bytes key → ¬ Has ps key → More ps (t ∷ us) ⊎ HasFault (behind_key last ps key us) → (More ps (t ∷ us) ⊎ Ends ps (t ∷ us)) ⊎ HasFault (next_faults last ps (t ∷ us))
    keyed letter key named new (inl more) = inl (inl more)
    keyed letter key named new (inr w) = inr (record { place = w.place; reason = w.reason; fault = inl (letter, inr (record { key = key; is = named; fault = inl (new, w.fault) })) })

    known : BeginsWithLetter t.bytes → (key : Key) → IsKey t.bytes key → Tested (Has ps key) → (More ps (t ∷ us) ⊎ Ends ps (t ∷ us)) ⊎ HasFault (next_faults last ps (t ∷ us))
    known letter key named (inl has) = inr (record { place = t.place; reason = Repeated; fault = inl (letter, inr (record { key = key; is = named; fault = inr ((λ new. new has), (refl, refl)) })) })
    known letter key named (inr new) = keyed letter key named new (behind_key_is last f ps key t us letter named new)

    worded : BeginsWithLetter t.bytes → ((key : Key) × IsKey t.bytes key) ⊎ ((key : Key) → ¬ IsKey t.bytes key) → (More ps (t ∷ us) ⊎ Ends ps (t ∷ us)) ⊎ HasFault (next_faults last ps (t ∷ us))
    worded letter (inl k) = known letter k.0 k.1 (test_says ps (quantity_of k.0))
    worded letter (inr unknown) = inr (record { place = t.place; reason = BadKey; fault = inl (letter, inl (unknown, (refl, refl))) })

    plain : ¬ BeginsWithLetter t.bytes → Tested (HasAll ps) → (More ps (t ∷ us) ⊎ Ends ps (t ∷ us)) ⊎ HasFault (next_faults last ps (t ∷ us))
    plain dark (inl all) = inl (inr (record { first = t; rest = us; is = refl; all = all; dark = dark }))
    plain dark (inr lacks) = inr (record { place = t.place; reason = Missing; fault = inr (dark, inr (lacks, (refl, refl))) })

    by : Tested (BeginsWithLetter t.bytes) → (More ps (t ∷ us) ⊎ Ends ps (t ∷ us)) ⊎ HasFault (next_faults last ps (t ∷ us))
    by (inl letter) = worded letter (test_key t.bytes)
    by (inr dark) = plain dark (test_has_all ps)

-- pairs that stand and are all there, and a token behind them
record Whole (tokens : List TokenAt) : Type 0 where
  pairs : List Pair
  first : TokenAt
  rest : List TokenAt
  joined : tokens ≡ flat pairs ++ first ∷ rest
  stand : ArePairs [] pairs
  all : HasAll pairs
  dark : ¬ BeginsWithLetter first.bytes

head_is : (n : ℕ) (last : Faults AsciiReason) → HasFault last → (tokens ts : List TokenAt) (ps : List Pair) → length ts < n → ArePairs [] ps → tokens ≡ flat ps ++ ts → Whole tokens ⊎ HasFault (HeadFaults last tokens)
head_is zero last f tokens ts ps few stand joined = absurd (let bad : ⊥ = omega (arith, few) in bad)
head_is (suc n) last f tokens ts ps few stand joined = by (head_is n last f tokens) (next_is last f ps ts)
  where
    by : ((us : List TokenAt) (qs : List Pair) → length us < n → ArePairs [] qs → tokens ≡ flat qs ++ us → Whole tokens ⊎ HasFault (HeadFaults last tokens)) → (More ps ts ⊎ Ends ps ts) ⊎ HasFault (next_faults last ps ts) → Whole tokens ⊎ HasFault (HeadFaults last tokens)
    by go (inl (inl m)) =
        let size : length ts ≡ suc (suc (length m.rest)) = ap length m.is in
        go m.rest (ps ++ m.pair ∷ []) (omega (arith, size, few)) (are_more [] ps m.pair stand m.stands) (joined_more tokens m.rest ps m.pair (joined ∙ ap (λ (l : List TokenAt). flat ps ++ l) m.is))
    by go (inl (inr e)) = inl (record { pairs = ps; first = e.first; rest = e.rest; joined = joined ∙ ap (λ (l : List TokenAt). flat ps ++ l) e.is; stand = stand; all = e.all; dark = e.dark })
    by go (inr w) = inr (record { place = w.place; reason = w.reason; fault = record { before = ps; rest = ts; joined = joined; stand = stand; next = w.fault } })

-- ---- what the pairs say

record Found (ps : List Pair) (q : ℕ) : Type 1 where
  pair : Pair
  before : List Pair
  is : quantity_of pair.key ≡ q
  value : IsValue before pair.key pair.value.bytes
  there : (P : Pair → Type 0) → P pair → SomePair P ps

found : (before ps : List Pair) (q : ℕ) → ArePairs before ps → Says ps q → Found ps q
found before [] q are says = absurd says
found before (p ∷ ps) q are (inl is) = record { pair = p; before = before; is = is; value = are.0.1.1.1; there = λ P h. inl h }
found before (p ∷ ps) q are (inr says) = let f = found (before ++ p ∷ []) ps q are.1 says in record { pair = f.pair; before = f.before; is = f.is; value = f.value; there = λ P h. inr (f.there P h) }

size_said : (ps : List Pair) (q : ℕ) → q ≤ 1 → ArePairs [] ps → Says ps q → (n : ℕ) × SaysNumber ps q (pos n)
size_said ps q few are says = by f.pair.key refl f.value
  where
    f : Found ps q
    f = found [] ps q are says

    of : (r : ℕ) → IsSize f.before r f.pair.value.bytes → (n : ℕ) × SaysNumber ps q (pos n)
    of r s = (s.size, f.there (λ p. (quantity_of p.key ≡ q) × IsInteger p.value.bytes (pos s.size)) (f.is, s.spelled))

    by : (key : Key) → f.pair.key ≡ key → IsValue f.before key f.pair.value.bytes → (n : ℕ) × SaysNumber ps q (pos n)
    by Cols e v = of 1 v
    by Rows e v = of 0 v
    by XCorner e v = let is : 2 ≡ q = sym (ap quantity_of e) ∙ f.is in absurd (let bad : ⊥ = omega (arith, is, few) in bad)
    by XCenter e v = let is : 2 ≡ q = sym (ap quantity_of e) ∙ f.is in absurd (let bad : ⊥ = omega (arith, is, few) in bad)
    by YCorner e v = let is : 3 ≡ q = sym (ap quantity_of e) ∙ f.is in absurd (let bad : ⊥ = omega (arith, is, few) in bad)
    by YCenter e v = let is : 3 ≡ q = sym (ap quantity_of e) ∙ f.is in absurd (let bad : ⊥ = omega (arith, is, few) in bad)
    by Cell e v = let is : 4 ≡ q = sym (ap quantity_of e) ∙ f.is in absurd (let bad : ⊥ = omega (arith, is, few) in bad)
    by Nodata e v = let is : 5 ≡ q = sym (ap quantity_of e) ∙ f.is in absurd (let bad : ⊥ = omega (arith, is, few) in bad)

text_said : (ps : List Pair) (q : ℕ) → ArePairs [] ps → Says ps q → (bytes : List ℕ) × SaysText ps q bytes
text_said ps q are says = let f = found [] ps q are says in (f.pair.value.bytes, f.there (λ p. (quantity_of p.key ≡ q) × (p.value.bytes ≡ f.pair.value.bytes)) (f.is, refl))

nodata_said : (ps : List Pair) → ArePairs [] ps → Tested (Says ps 5) → (n : ℤ) × IsNodata ps n
nodata_said ps are (inr none_) = (negsuc 9998, inr (none_, refl))
nodata_said ps are (inl says) = by f.pair.key refl f.value
  where
    f : Found ps 5
    f = found [] ps 5 are says

    wrong_one : (k : ℕ) → k ≤ 4 → k ≡ 5 → ⊥
    wrong_one k few e = omega (arith, few, e)

    by : (key : Key) → f.pair.key ≡ key → IsValue f.before key f.pair.value.bytes → (n : ℤ) × IsNodata ps n
    by Cols e v = absurd (wrong_one 0 (omega arith) (sym (ap quantity_of e) ∙ f.is))
    by Rows e v = absurd (wrong_one 1 (omega arith) (sym (ap quantity_of e) ∙ f.is))
    by XCorner e v = absurd (wrong_one 2 (omega arith) (sym (ap quantity_of e) ∙ f.is))
    by XCenter e v = absurd (wrong_one 2 (omega arith) (sym (ap quantity_of e) ∙ f.is))
    by YCorner e v = absurd (wrong_one 3 (omega arith) (sym (ap quantity_of e) ∙ f.is))
    by YCenter e v = absurd (wrong_one 3 (omega arith) (sym (ap quantity_of e) ∙ f.is))
    by Cell e v = absurd (wrong_one 4 (omega arith) (sym (ap quantity_of e) ∙ f.is))
    by Nodata e v = (v.0, inl (f.there (λ p. (quantity_of p.key ≡ 5) × IsInteger p.value.bytes v.0) (f.is, v.1)))

test_x : (key : Key) → Tested (key ≡ XCenter)
test_x Cols = inr (λ e. let bad : ⊥ = cc in bad)
test_x Rows = inr (λ e. let bad : ⊥ = cc in bad)
test_x XCorner = inr (λ e. let bad : ⊥ = cc in bad)
test_x XCenter = inl refl
test_x YCorner = inr (λ e. let bad : ⊥ = cc in bad)
test_x YCenter = inr (λ e. let bad : ⊥ = cc in bad)
test_x Cell = inr (λ e. let bad : ⊥ = cc in bad)
test_x Nodata = inr (λ e. let bad : ⊥ = cc in bad)

test_y : (key : Key) → Tested (key ≡ YCenter)
test_y Cols = inr (λ e. let bad : ⊥ = cc in bad)
test_y Rows = inr (λ e. let bad : ⊥ = cc in bad)
test_y XCorner = inr (λ e. let bad : ⊥ = cc in bad)
test_y XCenter = inr (λ e. let bad : ⊥ = cc in bad)
test_y YCorner = inr (λ e. let bad : ⊥ = cc in bad)
test_y YCenter = inl refl
test_y Cell = inr (λ e. let bad : ⊥ = cc in bad)
test_y Nodata = inr (λ e. let bad : ⊥ = cc in bad)

flag_of : (S : Type 0) → Tested S → (b : Bool) × (IsTrue b ↔ S)
flag_of S (inl s) = (true, ((λ h. s), (λ h. refl)))
flag_of S (inr no_) = (false, ((λ h. absurd (let bad : ⊥ = cc in bad)), (λ h. absurd (no_ h))))

-- ---- the numbers

ending_has : (total : ℕ) → HasFault (ending total)
ending_has total = by (test_most total limit)
  where
    by : Tested (total ≤ limit) → HasFault (ending total)
    by (inl short) = record { place = total; reason = Truncated; fault = inl (short, (refl, refl)) }
    by (inr over) = record { place = limit; reason = TooLong; fault = inr (over, (refl, refl)) }

record All_ (total : ℕ) (kind : PixelType) (nodata : ℤ) (count : ℕ) (ts : List TokenAt) : Type 0 where
  pixels : List (Option (List ℤ))
  are : AreCells kind nodata ts pixels
  many : length ts ≡ count
  short : total ≤ limit

abbrev Numbers : ℕ → PixelType → ℤ → ℕ → List TokenAt → Type 0
Numbers total kind nodata count tokens = All_ total kind nodata count tokens ⊎ HasFault (NumberFaults total kind nodata count tokens)

push_cell : (kind : PixelType) (nodata : ℤ) (ts : List TokenAt) (ps : List (Option (List ℤ))) (t : TokenAt) (p : Option (List ℤ)) → AreCells kind nodata ts ps → IsCell kind nodata t.bytes p → AreCells kind nodata (ts ++ t ∷ []) (ps ++ p ∷ [])
push_cell kind nodata ts ps t p are is = cells_more kind nodata ts ps t p are is

numbers_are : (total : ℕ) (kind : PixelType) (nodata : ℤ) (count : ℕ) (tokens before rest : List TokenAt) (pixels : List (Option (List ℤ))) → tokens ≡ before ++ rest → AreCells kind nodata before pixels → length before ≤ count → Numbers total kind nodata count tokens
numbers_are total kind nodata count tokens before [] pixels joined are few = by (test_most count (length before)) (test_most total limit)
  where
    fault : (p : ℕ) (a : AsciiReason) → next_number total kind nodata count (length before) [] p a → HasFault (NumberFaults total kind nodata count tokens)
    fault p a x = record { place = p; reason = a; fault = record { before = before; rest = []; pixels = pixels; joined = joined; stand = are; few = few; next = x } }

    by : Tested (count ≤ length before) → Tested (total ≤ limit) → Numbers total kind nodata count tokens
    by (inl full) (inl short) = inl (record {
      pixels = pixels;
      are = subst (λ (ts : List TokenAt). AreCells kind nodata ts pixels) (sym (joined ∙ append-nil before)) are;
      many = ap length (joined ∙ append-nil before) ∙ omega (arith, full, few);
      short = short;
    })
    by (inl full) (inr over) = inr (fault limit TooLong (inl (full, inr (over, (refl, refl)))))
    by (inr less) y = let e = ending_has total in inr (fault e.place e.reason (inr (less, e.fault)))
numbers_are total kind nodata count tokens before (t ∷ ts) pixels joined are few = by (numbers_are total kind nodata count tokens (before ++ t ∷ []) ts) (test_less (length before) count) (decided_cell kind nodata t)
  where
    fault : (p : ℕ) (a : AsciiReason) → next_number total kind nodata count (length before) (t ∷ ts) p a → HasFault (NumberFaults total kind nodata count tokens)
    fault p a x = record { place = p; reason = a; fault = record { before = before; rest = t ∷ ts; pixels = pixels; joined = joined; stand = are; few = few; next = x } }

    by : ((ps : List (Option (List ℤ))) → tokens ≡ (before ++ t ∷ []) ++ ts → AreCells kind nodata (before ++ t ∷ []) ps → length (before ++ t ∷ []) ≤ count → Numbers total kind nodata count tokens)
        → Tested (length before < count) → ((p : Option (List ℤ)) × IsCell kind nodata t.bytes p) ⊎ HasFault (cell_faults kind nodata t) → Numbers total kind nodata count tokens
    by go (inl less) (inl c) =
        let size : length (before ++ t ∷ []) ≡ length before + 1 = length_push before t in
        go (pixels ++ c.0 ∷ []) (joined ∙ sym (append_assoc before (t ∷ []) ts)) (push_cell kind nodata before pixels t c.0 are c.1) (omega (arith, size, less))
    by go (inl less) (inr w) = inr (fault w.place w.reason (inl (less, w.fault)))
    by go (inr full) c = inr (fault t.place Leftover (inr (full, (refl, refl))))

-- ---- the text

made : (kind : PixelType) (text : List ℕ) (w : Whole (map seen (shown (length text) (tokens_of 0 text)))) (rows cols : ℕ) (nodata : ℤ) → SaysNumber w.pairs 1 (pos rows) → SaysNumber w.pairs 0 (pos cols) → IsNodata w.pairs nodata
    → All_ (length text) kind nodata (rows * cols) (w.first ∷ w.rest) → (g : AsciiGrid) × IsAscii text kind g
made kind text w rows cols nodata says_rows says_cols says_nodata n =
    let x = text_said w.pairs 2 w.stand w.all.1.1.0 in
    let y = text_said w.pairs 3 w.stand w.all.1.1.1.0 in
    let cell = text_said w.pairs 4 w.stand w.all.1.1.1.1 in
    let xc = flag_of (SaysKey w.pairs XCenter) (test_some (λ p. p.key ≡ XCenter) (λ p. test_x p.key) w.pairs) in
    let yc = flag_of (SaysKey w.pairs YCenter) (test_some (λ p. p.key ≡ YCenter) (λ p. test_y p.key) w.pairs) in
    let short = short_pairs [] w.pairs (w.first ∷ w.rest) w.stand (short_cells kind nodata (w.first ∷ w.rest) n.pixels n.are) in
    let looked = ap (map seen) (sym (shown_all (length text) (tokens_of 0 text) n.short)) ∙ w.joined in
    let whole = unseen (tokens_of 0 text) (flat w.pairs ++ w.first ∷ w.rest) looked short in (
      record {
        geo = record { x = x.0; x_centre = xc.0; y = y.0; y_centre = yc.0; cell = cell.0; nodata = nodata };
        raster = record { kind = kind; rows = rows; cols = cols; depth = 1; pixels = n.pixels };
      },
      record {
        tokens = tokens_of 0 text;
        pairs = w.pairs;
        numbers = w.first ∷ w.rest;
        short = n.short;
        cut = are_tokens 0 text;
        joined = whole;
        stand = w.stand;
        all = w.all;
        geo = record { x = x.1; x_centre = xc.1; y = y.1; y_centre = yc.1; cell = cell.1; nodata = says_nodata };
        rows = says_rows;
        cols = says_cols;
        kind_is = refl;
        depth = refl;
        count = n.many;
        cells = n.are;
      },
    )

pub is_either : (kind : PixelType) (text : List ℕ) → ((g : AsciiGrid) × IsAscii text kind g) ⊎ HasFault (AsciiFaults kind text)
is_either kind text = by (head_is (suc (length tokens)) (ending (length text)) (ending_has (length text)) tokens tokens [] (omega arith) tt refl)
  where
    tokens : List TokenAt
    tokens = map seen (shown (length text) (tokens_of 0 text))

    numbered : (w : Whole (map seen (shown (length text) (tokens_of 0 text)))) (rows cols : ℕ) (nodata : ℤ) → SaysNumber w.pairs 1 (pos rows) → SaysNumber w.pairs 0 (pos cols) → IsNodata w.pairs nodata
        → Numbers (length text) kind nodata (rows * cols) (w.first ∷ w.rest) → ((g : AsciiGrid) × IsAscii text kind g) ⊎ HasFault (AsciiFaults kind text)
    numbered w rows cols nodata r c d (inl n) = inl (made kind text w rows cols nodata r c d n)
    numbered w rows cols nodata r c d (inr f) = inr (record {
      place = f.place;
      reason = f.reason;
      fault = record {
        all = tokens_of 0 text;
        tokens = map seen (shown (length text) (tokens_of 0 text));
        cut = are_tokens 0 text;
        looked = refl;
        fault = inr (record { pairs = w.pairs; first = w.first; rest = w.rest; nodata = nodata; rows = rows; cols = cols; joined = w.joined; behind = w.dark; stand = w.stand; all = w.all; nodata_is = d; rows_are = r; cols_are = c; fault = f.fault });
      };
    })

    by : Whole (map seen (shown (length text) (tokens_of 0 text))) ⊎ HasFault (HeadFaults (ending (length text)) (map seen (shown (length text) (tokens_of 0 text)))) → ((g : AsciiGrid) × IsAscii text kind g) ⊎ HasFault (AsciiFaults kind text)
    by (inl w) =
        let rows = size_said w.pairs 1 (omega arith) w.stand w.all.1.0 in
        let cols = size_said w.pairs 0 (omega arith) w.stand w.all.0 in
        let nodata = nodata_said w.pairs w.stand (test_says w.pairs 5) in
        numbered w rows.0 cols.0 nodata.0 rows.1 cols.1 nodata.1 (numbers_are (length text) kind nodata.0 (rows.0 * cols.0) (w.first ∷ w.rest) [] (w.first ∷ w.rest) [] refl tt (omega arith))
    by (inr f) = inr (record {
      place = f.place;
      reason = f.reason;
      fault = record { all = tokens_of 0 text; tokens = map seen (shown (length text) (tokens_of 0 text)); cut = are_tokens 0 text; looked = refl; fault = inl f.fault };
    })
