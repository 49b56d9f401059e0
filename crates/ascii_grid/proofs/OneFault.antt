-- A text has one first fault, and none where it is that of a grid.
use Rattle.std.proofs.Common.{◌≡◌, ℕ, ℤ, pos, suc, ◌+◌, ◌*◌, ◌<◌, ◌≤◌, List, [], ◌∷◌, ◌++◌, length, map, take, Option, refl, sym, ap, ◌∙◌, subst, arith, append_assoc, inl, inr, ◌⊎◌}
use Rattle.std.proofs.lemmas.List.{append-nil, take_all}
use Rattle.first_fault.specs.Faults.{Faults, none, unless, wrong}
use Rattle.first_fault.specs.Parts.{IsSingle}
use Rattle.first_fault.proofs.Parts.{single-choice, single-none, single-unless, single-wrong}
use Rattle.raster_cells.specs.declared.kind.PixelType.{PixelType}
use Rattle.ascii_grid.specs.declared.words.Key.{Key}
use Rattle.ascii_grid.specs.declared.words.Key.TheVariants.{Cols, Rows, XCorner, XCenter, YCorner, YCenter, Cell, Nodata}
use Rattle.ascii_grid.specs.declared.fault.AsciiReason.{AsciiReason}
use Rattle.ascii_grid.specs.declared.fault.AsciiReason.TheVariants.{BadKey, Repeated, Missing, BadText, BadNumber, BadSize, TooLarge, OutOfRange, Leftover, TooLong, Truncated}
use Rattle.ascii_grid.specs.declared.grid.AsciiGrid.{AsciiGrid}
use Rattle.ascii_grid.specs.Tokens.{TokenAt, limit, seen, shown}
use Rattle.ascii_grid.specs.Endings.{ending, too_late}
use Rattle.ascii_grid.specs.Head.{ArePairs, BeginsWithLetter, Has, HasAll, HeadFaults, IsInteger, IsKey, IsSize, IsText, IsValue, Pair, SaysNumber, behind_key, flat, key_faults, next_faults, quantity_of, size_faults, text_faults, value_faults}
use Rattle.ascii_grid.specs.Text.{AreCells, AsciiFaults, CellFaults, IsAscii, IsCell, IsNodata, NumberFaults, cell_faults, next_number}
use Rattle.ascii_grid.proofs.CellSteps.{some_area}
use Rattle.ascii_grid.proofs.DigitSteps.{one_integer}
use Rattle.ascii_grid.proofs.TokenLists.{shown_all}
use Rattle.ascii_grid.proofs.TextSteps.{AreShort, short_cells, short_pairs}
use Rattle.ascii_grid.proofs.OneText.{cells_behind, heads_are, one_key, one_nodata, one_number, one_tokens, pairs_are, pos_same}

-- ---- a value

size_fine : (ps : List Pair) (q : ℕ) (v : TokenAt) → IsSize ps q v.bytes → (p : ℕ) (a : AsciiReason) → size_faults ps q v p a → ⊥
size_fine ps q v is p a (inr (never, w)) = never (pos is.size, is.spelled)
size_fine ps q v is p a (inl (t, inr (never, w))) = never (is.size, (is.spelled, is.some))
size_fine ps q v is p a (inl (t, inl (u, inr (never, w)))) = never is
size_fine ps q v is p a (inl (t, inl (u, inl (s, bad)))) = bad

text_fine : (v : TokenAt) → IsText v.bytes → (p : ℕ) (a : AsciiReason) → text_faults v p a → ⊥
text_fine v is p a (inr (never, w)) = never is
text_fine v is p a (inl (t, bad)) = bad

value_fine : (ps : List Pair) (key : Key) (v : TokenAt) → IsValue ps key v.bytes → (p : ℕ) (a : AsciiReason) → value_faults ps key v p a → ⊥
value_fine ps Cols v is p a x = size_fine ps 1 v is p a x
value_fine ps Rows v is p a x = size_fine ps 0 v is p a x
value_fine ps XCorner v is p a x = text_fine v is p a x
value_fine ps XCenter v is p a x = text_fine v is p a x
value_fine ps YCorner v is p a x = text_fine v is p a x
value_fine ps YCenter v is p a x = text_fine v is p a x
value_fine ps Cell v is p a x = text_fine v is p a x
value_fine ps Nodata v is p a (inr (never, w)) = never is
value_fine ps Nodata v is p a (inl (t, bad)) = bad

size_single : (ps : List Pair) (q : ℕ) (v : TokenAt) → IsSingle (size_faults ps q v)
size_single ps q v = single-unless ((n : ℤ) × IsInteger v.bytes n) BadNumber v.place (unless ((n : ℕ) × (IsInteger v.bytes (pos n) × (0 < n))) (wrong BadSize v.place) (unless (IsSize ps q v.bytes) (wrong TooLarge v.place) none))
    (single-unless ((n : ℕ) × (IsInteger v.bytes (pos n) × (0 < n))) BadSize v.place (unless (IsSize ps q v.bytes) (wrong TooLarge v.place) none) (single-unless (IsSize ps q v.bytes) TooLarge v.place none single-none))

text_single : (v : TokenAt) → IsSingle (text_faults v)
text_single v = single-unless (IsText v.bytes) BadText v.place none single-none

value_single : (ps : List Pair) (key : Key) (v : TokenAt) → IsSingle (value_faults ps key v)
value_single ps Cols v = size_single ps 1 v
value_single ps Rows v = size_single ps 0 v
value_single ps XCorner v = text_single v
value_single ps XCenter v = text_single v
value_single ps YCorner v = text_single v
value_single ps YCenter v = text_single v
value_single ps Cell v = text_single v
value_single ps Nodata v = single-unless ((n : ℤ) × IsInteger v.bytes n) BadNumber v.place none single-none

-- ---- a pair that stands has no fault, and what is behind pairs has one

fine_key : (last : Faults AsciiReason) (pre : List Pair) (c : Pair) (us : List TokenAt) (p : ℕ) (a : AsciiReason) → IsKey c.word.bytes c.key → (¬ Has pre c.key) → IsValue pre c.key c.value.bytes → key_faults last pre c.word (c.value ∷ us) p a → ⊥
fine_key last pre c us p a named new value (inl (unknown, w)) = unknown c.key named
fine_key last pre c us p a named new value (inr k) = by (subst (λ (j : Key). unless (¬ Has pre j) (wrong Repeated c.word.place) (value_faults pre j c.value) p a) (one_key c.word.bytes k.key c.key k.is named) k.fault)
  where
    by : unless (¬ Has pre c.key) (wrong Repeated c.word.place) (value_faults pre c.key c.value) p a → ⊥
    by (inr (never, w)) = never new
    by (inl (t, x)) = value_fine pre c.key c.value value p a x

fine_pair : (last : Faults AsciiReason) (pre cs : List Pair) (c : Pair) (us : List TokenAt) (p : ℕ) (a : AsciiReason) → ArePairs pre (c ∷ cs) → next_faults last pre (c.word ∷ c.value ∷ us) p a → ⊥
fine_pair last pre cs c us p a are (inl (letter, x)) = fine_key last pre c us p a are.0.1.0 are.0.1.1.0 are.0.1.1.1 x
fine_pair last pre cs c us p a are (inr (never, x)) = never are.0.0

key_single : (last : Faults AsciiReason) (ps : List Pair) (t : TokenAt) (ts : List TokenAt) → IsSingle last → IsSingle (key_faults last ps t ts)
key_single last ps t ts one p q a b (inl (unknown, v)) (inl (also, w)) = single-wrong BadKey t.place p q a b v w
key_single last ps t ts one p q a b (inl (unknown, v)) (inr k) = absurd (unknown k.key k.is)
key_single last ps t ts one p q a b (inr k) (inl (unknown, w)) = absurd (unknown k.key k.is)
key_single last ps t ts one p q a b (inr k) (inr l) =
    single-unless (¬ Has ps k.key) Repeated t.place (behind_key last ps k.key ts) (behind ts) p q a b k.fault
    (subst (λ (j : Key). unless (¬ Has ps j) (wrong Repeated t.place) (behind_key last ps j ts) q b) (one_key t.bytes l.key k.key l.is k.is) l.fault)
  where
    behind : (us : List TokenAt) → IsSingle (behind_key last ps k.key us)
    behind [] = one
    behind (v ∷ vs) = value_single ps k.key v

next_single : (last : Faults AsciiReason) (ps : List Pair) (ts : List TokenAt) → IsSingle last → IsSingle (next_faults last ps ts)
next_single last ps [] one = one
next_single last ps (t ∷ ts) one =
    single-choice (BeginsWithLetter t.bytes) (key_faults last ps t ts) (unless (HasAll ps) (wrong Missing t.place) none) (key_single last ps t ts one) (single-unless (HasAll ps) Missing t.place none single-none)

-- ---- heads

next_at : (last : Faults AsciiReason) (pre bs : List Pair) (b : Pair) (xs : List TokenAt) (p : ℕ) (a : AsciiReason) → next_faults last (pre ++ b ∷ bs) xs p a → next_faults last ((pre ++ b ∷ []) ++ bs) xs p a
next_at last pre bs b xs p a x = subst (λ (ps : List Pair). next_faults last ps xs p a) (sym (append_assoc pre (b ∷ []) bs)) x

pair_is : (b c : Pair) (ts us : List TokenAt) → IsKey b.word.bytes b.key → IsKey c.word.bytes c.key → ◌≡◌ {A = List TokenAt} (b.word ∷ b.value ∷ ts) (c.word ∷ c.value ∷ us) → (b ≡ c) × (ts ≡ us)
pair_is b c ts us x y e =
    let first = heads_are b.word c.word (b.value ∷ ts) (c.value ∷ us) e in
    let second = heads_are b.value c.value ts us first.1 in
    let key : b.key ≡ c.key = one_key b.word.bytes b.key c.key x (subst (λ (t : TokenAt). IsKey t.bytes c.key) (sym first.0) y) in
    ((λ i. record { word = first.0 i; key = key i; value = second.0 i }), second.1)

pub heads_single : (last : Faults AsciiReason) → IsSingle last → (pre bs cs : List Pair) (xs ys : List TokenAt) (p q : ℕ) (a b : AsciiReason) → ArePairs pre bs → ArePairs pre cs → flat bs ++ xs ≡ flat cs ++ ys
    → next_faults last (pre ++ bs) xs p a → next_faults last (pre ++ cs) ys q b → (p ≡ q) × (a ≡ b)
heads_single last one pre [] [] xs ys p q a b s t e x y =
    next_single last (pre ++ []) xs one p q a b x (subst (λ (zs : List TokenAt). next_faults last (pre ++ []) zs q b) (sym e) y)
heads_single last one pre [] (c ∷ cs) xs ys p q a b s t e x y =
    absurd (fine_pair last pre cs c (flat cs ++ ys) p a t (subst (λ (zs : List TokenAt). next_faults last pre zs p a) e (subst (λ (ps : List Pair). next_faults last ps xs p a) (append-nil pre) x)))
heads_single last one pre (c ∷ cs) [] xs ys p q a b s t e x y =
    absurd (fine_pair last pre cs c (flat cs ++ xs) q b s (subst (λ (zs : List TokenAt). next_faults last pre zs q b) (sym e) (subst (λ (ps : List Pair). next_faults last ps ys q b) (append-nil pre) y)))
heads_single last one pre (c ∷ cs) (d ∷ ds) xs ys p q a b s t e x y =
    let same = pair_is c d (flat cs ++ xs) (flat ds ++ ys) s.0.1.0 t.0.1.0 e in
    heads_single last one (pre ++ c ∷ []) cs ds xs ys p q a b s.1 (subst (λ (r : Pair). ArePairs (pre ++ r ∷ []) ds) (sym same.0) t.1) same.1
    (next_at last pre cs c xs p a x) (subst (λ (r : Pair). next_faults last ((pre ++ r ∷ []) ++ ds) ys q b) (sym same.0) (next_at last pre ds d ys q b y))

-- pairs that stand and are all there, and a token behind them that begins with no letter
pub head_fine : (last : Faults AsciiReason) (pre ps bs : List Pair) (t : TokenAt) (ts xs : List TokenAt) (p : ℕ) (a : AsciiReason) → ArePairs pre ps → ArePairs pre bs → HasAll (pre ++ ps) → (¬ BeginsWithLetter t.bytes)
    → flat ps ++ t ∷ ts ≡ flat bs ++ xs → next_faults last (pre ++ bs) xs p a → ⊥
head_fine last pre [] [] t ts xs p a s u all dark e x = by (subst (λ (zs : List TokenAt). next_faults last (pre ++ []) zs p a) (sym e) x)
  where
    by : next_faults last (pre ++ []) (t ∷ ts) p a → ⊥
    by (inl (letter, y)) = dark letter
    by (inr (never, inr (lacks, w))) = lacks all
    by (inr (never, inl (h, bad))) = bad
head_fine last pre [] (b ∷ bs) t ts xs p a s u all dark e x = dark (subst (λ (r : TokenAt). BeginsWithLetter r.bytes) (sym (heads_are t b.word ts (b.value ∷ (flat bs ++ xs)) e).0) u.0.0)
head_fine last pre (c ∷ cs) [] t ts xs p a s u all dark e x =
    fine_pair last pre cs c (flat cs ++ t ∷ ts) p a s (subst (λ (zs : List TokenAt). next_faults last pre zs p a) (sym e) (subst (λ (ps : List Pair). next_faults last ps xs p a) (append-nil pre) x))
head_fine last pre (c ∷ cs) (d ∷ ds) t ts xs p a s u all dark e x =
    let same = pair_is c d (flat cs ++ t ∷ ts) (flat ds ++ xs) s.0.1.0 u.0.1.0 e in
    head_fine last (pre ++ c ∷ []) cs ds t ts xs p a s.1 (subst (λ (r : Pair). ArePairs (pre ++ r ∷ []) ds) (sym same.0) u.1) (subst HasAll (sym (append_assoc pre (c ∷ []) cs)) all) dark same.1
    (subst (λ (r : Pair). next_faults last ((pre ++ r ∷ []) ++ ds) xs p a) (sym same.0) (next_at last pre ds d xs p a x))

-- ---- numbers

cell_fine : (kind : PixelType) (nodata : ℤ) (t : TokenAt) (v : Option (List ℤ)) → IsCell kind nodata t.bytes v → (p : ℕ) (a : AsciiReason) → cell_faults kind nodata t p a → ⊥
cell_fine kind nodata t v is p a (inr (never, w)) = never (is.0, is.1.0)
cell_fine kind nodata t v is p a (inl (h, inr (never, w))) = never (v, is)
cell_fine kind nodata t v is p a (inl (h, inl (g, bad))) = bad

cell_single : (kind : PixelType) (nodata : ℤ) (t : TokenAt) → IsSingle (cell_faults kind nodata t)
cell_single kind nodata t = single-unless ((n : ℤ) × IsInteger t.bytes n) BadNumber t.place (unless ((v : Option (List ℤ)) × IsCell kind nodata t.bytes v) (wrong OutOfRange t.place) none) (single-unless ((v : Option (List ℤ)) × IsCell kind nodata t.bytes v) OutOfRange t.place none single-none)

pub ending_single : (total : ℕ) → IsSingle (ending total)
ending_single total = single-unless (total ≤ limit) TooLong limit (wrong Truncated total) (single-wrong Truncated total)

number_single : (total : ℕ) (kind : PixelType) (nodata : ℤ) (count done : ℕ) (ts : List TokenAt) → IsSingle (next_number total kind nodata count done ts)
number_single total kind nodata count done [] = single-choice (count ≤ done) (too_late total) (ending total) (single-unless (total ≤ limit) TooLong limit none single-none) (ending_single total)
number_single total kind nodata count done (t ∷ ts) = single-choice (done < count) (cell_faults kind nodata t) (wrong Leftover t.place) (cell_single kind nodata t) (single-wrong Leftover t.place)

number_fine : (total : ℕ) (kind : PixelType) (nodata : ℤ) (count done : ℕ) (t : TokenAt) (ts : List TokenAt) (v : Option (List ℤ)) (p : ℕ) (a : AsciiReason) → done < count → IsCell kind nodata t.bytes v → next_number total kind nodata count done (t ∷ ts) p a → ⊥
number_fine total kind nodata count done t ts v p a less is (inl (h, x)) = cell_fine kind nodata t v is p a x
number_fine total kind nodata count done t ts v p a less is (inr (never, x)) = never less

done_more : (total : ℕ) (kind : PixelType) (nodata : ℤ) (count k n : ℕ) (ts : List TokenAt) (p : ℕ) (a : AsciiReason) → next_number total kind nodata count (k + suc n) ts p a → next_number total kind nodata count (suc k + n) ts p a
done_more total kind nodata count k n ts p a x = let same : k + suc n ≡ suc k + n = omega arith in subst (λ (d : ℕ). next_number total kind nodata count d ts p a) same x

done_none : (total : ℕ) (kind : PixelType) (nodata : ℤ) (count k : ℕ) (ts : List TokenAt) (p : ℕ) (a : AsciiReason) → next_number total kind nodata count (k + 0) ts p a → next_number total kind nodata count k ts p a
done_none total kind nodata count k ts p a x = let same : k + 0 ≡ k = omega arith in subst (λ (d : ℕ). next_number total kind nodata count d ts p a) same x

numbers_single : (total : ℕ) (kind : PixelType) (nodata : ℤ) (count k : ℕ) (bs cs xs ys : List TokenAt) (us vs : List (Option (List ℤ))) (p q : ℕ) (a b : AsciiReason) → AreCells kind nodata bs us → AreCells kind nodata cs vs → bs ++ xs ≡ cs ++ ys → k + length bs ≤ count → k + length cs ≤ count
    → next_number total kind nodata count (k + length bs) xs p a → next_number total kind nodata count (k + length cs) ys q b → (p ≡ q) × (a ≡ b)
numbers_single total kind nodata count k [] [] xs ys us vs p q a b s t e l m x y =
    number_single total kind nodata count (k + 0) xs p q a b x (subst (λ (zs : List TokenAt). next_number total kind nodata count (k + 0) zs q b) (sym e) y)
numbers_single total kind nodata count k [] (c ∷ cs) xs ys us [] p q a b s t e l m x y = absurd t
numbers_single total kind nodata count k [] (c ∷ cs) xs ys us (v ∷ vs) p q a b s t e l m x y =
    absurd (number_fine total kind nodata count k c (cs ++ ys) v p a (omega (arith, m)) t.0 (subst (λ (zs : List TokenAt). next_number total kind nodata count k zs p a) e (done_none total kind nodata count k xs p a x)))
numbers_single total kind nodata count k (c ∷ cs) [] xs ys [] vs p q a b s t e l m x y = absurd s
numbers_single total kind nodata count k (c ∷ cs) [] xs ys (u ∷ us) vs p q a b s t e l m x y =
    absurd (number_fine total kind nodata count k c (cs ++ xs) u q b (omega (arith, l)) s.0 (subst (λ (zs : List TokenAt). next_number total kind nodata count k zs q b) (sym e) (done_none total kind nodata count k ys q b y)))
numbers_single total kind nodata count k (c ∷ cs) (d ∷ ds) xs ys [] vs p q a b s t e l m x y = absurd s
numbers_single total kind nodata count k (c ∷ cs) (d ∷ ds) xs ys (u ∷ us) [] p q a b s t e l m x y = absurd t
numbers_single total kind nodata count k (c ∷ cs) (d ∷ ds) xs ys (u ∷ us) (v ∷ vs) p q a b s t e l m x y =
    numbers_single total kind nodata count (suc k) cs ds xs ys us vs p q a b s.1 t.1 (heads_are c d (cs ++ xs) (ds ++ ys) e).1 (omega (arith, l)) (omega (arith, m))
    (done_more total kind nodata count k (length cs) xs p a x) (done_more total kind nodata count k (length ds) ys q b y)

numbers_fine : (total : ℕ) (kind : PixelType) (nodata : ℤ) (count k : ℕ) (ts bs xs : List TokenAt) (us vs : List (Option (List ℤ))) (p : ℕ) (a : AsciiReason) → AreCells kind nodata ts us → AreCells kind nodata bs vs → ts ≡ bs ++ xs → k + length ts ≡ count → total ≤ limit
    → next_number total kind nodata count (k + length bs) xs p a → ⊥
numbers_fine total kind nodata count k [] [] xs us vs p a s t e size short x = by (subst (λ (zs : List TokenAt). next_number total kind nodata count (k + 0) zs p a) (sym e) x)
  where
    by : next_number total kind nodata count (k + 0) [] p a → ⊥
    by (inr (never, w)) = never (omega (arith, size))
    by (inl (h, inr (never, w))) = never short
    by (inl (h, inl (g, bad))) = bad
numbers_fine total kind nodata count k [] (b ∷ bs) xs us vs p a s t e size short x = let bad : ⊥ = cc in bad
numbers_fine total kind nodata count k (c ∷ cs) [] xs [] vs p a s t e size short x = s
numbers_fine total kind nodata count k (c ∷ cs) [] xs (u ∷ us) vs p a s t e size short x =
    number_fine total kind nodata count k c cs u p a (omega (arith, size)) s.0 (subst (λ (zs : List TokenAt). next_number total kind nodata count k zs p a) (sym e) (done_none total kind nodata count k xs p a x))
numbers_fine total kind nodata count k (c ∷ cs) (b ∷ bs) xs [] vs p a s t e size short x = s
numbers_fine total kind nodata count k (c ∷ cs) (b ∷ bs) xs (u ∷ us) [] p a s t e size short x = t
numbers_fine total kind nodata count k (c ∷ cs) (b ∷ bs) xs (u ∷ us) (v ∷ vs) p a s t e size short x =
    numbers_fine total kind nodata count (suc k) cs bs xs us vs p a s.1 t.1 (heads_are c b cs (bs ++ xs) e).1 (omega (arith, size)) short (done_more total kind nodata count k (length bs) xs p a x)

start : (total : ℕ) (kind : PixelType) (nodata : ℤ) (count n : ℕ) (ts : List TokenAt) (p : ℕ) (a : AsciiReason) → next_number total kind nodata count n ts p a → next_number total kind nodata count (0 + n) ts p a
start total kind nodata count n ts p a x = let same : n ≡ 0 + n = omega arith in subst (λ (d : ℕ). next_number total kind nodata count d ts p a) same x

-- ---- texts

seen_short : (ts : List TokenAt) → AreShort ts → map seen ts ≡ ts
seen_short [] short = refl
seen_short (t ∷ ts) (few, short) = let one : take 33 t.bytes ≡ t.bytes = take_all 33 t.bytes (omega (arith, few)) in λ i. record { place = t.place; bytes = one i } ∷ seen_short ts short i

looked_same : (kind : PixelType) (text : List ℕ) (p q : ℕ) (a b : AsciiReason) → (x : AsciiFaults kind text p a) → (y : AsciiFaults kind text q b) → x.tokens ≡ y.tokens
looked_same kind text p q a b x y = x.looked ∙ ap (λ (ts : List TokenAt). map seen (shown (length text) ts)) (one_tokens 0 text x.all y.all x.cut y.cut) ∙ sym y.looked

cells_against : (total : ℕ) (kind : PixelType) (ts us : List TokenAt) (p q : ℕ) (a b : AsciiReason) → ts ≡ us → CellFaults total kind ts p a → CellFaults total kind us q b → (p ≡ q) × (a ≡ b)
cells_against total kind ts us p q a b same x y =
    let split = pairs_are [] x.pairs y.pairs (x.first ∷ x.rest) (y.first ∷ y.rest) x.stand y.stand x.behind y.behind (sym x.joined ∙ same ∙ y.joined) in
    let back = sym split.0 in
    let nodata = one_nodata x.pairs x.nodata y.nodata x.stand x.nodata_is (subst (λ (ps : List Pair). IsNodata ps y.nodata) back y.nodata_is) in
    let rows = pos_same x.rows y.rows (one_number x.pairs 1 (pos x.rows) (pos y.rows) x.stand x.rows_are (subst (λ (ps : List Pair). SaysNumber ps 1 (pos y.rows)) back y.rows_are)) in
    let cols = pos_same x.cols y.cols (one_number x.pairs 0 (pos x.cols) (pos y.cols) x.stand x.cols_are (subst (λ (ps : List Pair). SaysNumber ps 0 (pos y.cols)) back y.cols_are)) in
    let moved : NumberFaults total kind x.nodata (x.rows * x.cols) (x.first ∷ x.rest) q b = subst (λ (ts : List TokenAt). NumberFaults total kind x.nodata (x.rows * x.cols) ts q b) (sym split.1)
    (subst (λ (n : ℤ). NumberFaults total kind n (x.rows * x.cols) (y.first ∷ y.rest) q b) (sym nodata) (subst (λ (n : ℕ). NumberFaults total kind y.nodata n (y.first ∷ y.rest) q b) (λ i. sym rows i * sym cols i) y.fault)) in
    let f = x.fault in
    numbers_single total kind x.nodata (x.rows * x.cols) 0 f.before moved.before f.rest moved.rest f.pixels moved.pixels p q a b f.stand moved.stand (sym f.joined ∙ moved.joined) (omega (arith, f.few)) (omega (arith, moved.few))
    (start total kind x.nodata (x.rows * x.cols) (length f.before) f.rest p a f.next) (start total kind x.nodata (x.rows * x.cols) (length moved.before) moved.rest q b moved.next)

head_against : (total : ℕ) (kind : PixelType) (ts us : List TokenAt) (p q : ℕ) (a b : AsciiReason) → ts ≡ us → CellFaults total kind ts p a → HeadFaults (ending total) us q b → ⊥
head_against total kind ts us p q a b same x y =
    head_fine (ending total) [] x.pairs y.before x.first x.rest y.rest q b x.stand y.stand x.all x.behind (sym x.joined ∙ same ∙ y.joined) y.next

pub one_fault : (kind : PixelType) (text : List ℕ) → IsSingle (AsciiFaults kind text)
one_fault kind text p q a b x y = by x.fault y.fault
  where
    by : HeadFaults (ending (length text)) x.tokens p a ⊎ CellFaults (length text) kind x.tokens p a → HeadFaults (ending (length text)) y.tokens q b ⊎ CellFaults (length text) kind y.tokens q b → (p ≡ q) × (a ≡ b)
    by (inl h) (inl k) = heads_single (ending (length text)) (ending_single (length text)) [] h.before k.before h.rest k.rest p q a b h.stand k.stand (sym h.joined ∙ looked_same kind text p q a b x y ∙ k.joined) h.next k.next
    by (inl h) (inr c) = absurd (head_against (length text) kind y.tokens x.tokens q p b a (sym (looked_same kind text p q a b x y)) c h)
    by (inr c) (inl h) = absurd (head_against (length text) kind x.tokens y.tokens p q a b (looked_same kind text p q a b x y) c h)
    by (inr c) (inr d) = cells_against (length text) kind x.tokens y.tokens p q a b (looked_same kind text p q a b x y) c d

some_size : (q : ℕ) → q ≤ 1 → (before ps : List Pair) (n : ℕ) → ArePairs before ps → SaysNumber ps q (pos n) → 0 < n
some_size q few before [] n are says = absurd says
some_size q few before (p ∷ ps) n are (inr says) = some_size q few (before ++ p ∷ []) ps n are.1 says
some_size q few before (p ∷ ps) n are (inl (is, number)) = by p.key is are.0.1.1.1
  where
    size : (r : ℕ) → IsSize before r p.value.bytes → 0 < n
    size r s = let same = pos_same s.size n (one_integer p.value.bytes (pos s.size) (pos n) s.spelled number) in omega (arith, same, s.some)

    by : (key : Key) → quantity_of key ≡ q → IsValue before key p.value.bytes → 0 < n
    by Cols e v = size 1 v
    by Rows e v = size 0 v
    by XCorner e v = omega (arith, e, few)
    by XCenter e v = omega (arith, e, few)
    by YCorner e v = omega (arith, e, few)
    by YCenter e v = omega (arith, e, few)
    by Cell e v = omega (arith, e, few)
    by Nodata e v = omega (arith, e, few)

first_number : (kind : PixelType) (nodata : ℤ) (ts : List TokenAt) (ps : List (Option (List ℤ))) → AreCells kind nodata ts ps → 0 < length ts → (t : TokenAt) × ((us : List TokenAt) × ((ts ≡ t ∷ us) × (¬ BeginsWithLetter t.bytes)))
first_number kind nodata [] ps are some = absurd (let bad : ⊥ = omega (arith, some) in bad)
first_number kind nodata (t ∷ us) ps are some = (t, (us, (refl, cells_behind kind nodata (t ∷ us) ps are)))

pub no_fault : (kind : PixelType) (text : List ℕ) (g : AsciiGrid) (p : ℕ) (a : AsciiReason) → IsAscii text kind g → AsciiFaults kind text p a → ⊥
no_fault kind text g p a is x = by x.fault
  where
    some : 0 < g.raster.rows * g.raster.cols
    some = some_area g.raster.rows g.raster.cols (some_size 1 (omega arith) [] is.pairs g.raster.rows is.stand is.rows) (some_size 0 (omega arith) [] is.pairs g.raster.cols is.stand is.cols)

    short : AreShort (flat is.pairs ++ is.numbers)
    short = short_pairs [] is.pairs is.numbers is.stand (short_cells kind g.geo.nodata is.numbers g.raster.pixels is.cells)

    tokens : x.tokens ≡ flat is.pairs ++ is.numbers
    tokens =
        x.looked ∙ ap (λ (ts : List TokenAt). map seen (shown (length text) ts)) (one_tokens 0 text x.all is.tokens x.cut is.cut ∙ is.joined)
        ∙ ap (map seen) (shown_all (length text) (flat is.pairs ++ is.numbers) is.short) ∙ seen_short (flat is.pairs ++ is.numbers) short

    by : HeadFaults (ending (length text)) x.tokens p a ⊎ CellFaults (length text) kind x.tokens p a → ⊥
    by (inl h) =
        let first = first_number kind g.geo.nodata is.numbers g.raster.pixels is.cells (omega (arith, is.count, some)) in
        head_fine (ending (length text)) [] is.pairs h.before first.0 first.1.0 h.rest p a is.stand h.stand is.all first.1.1.1 (ap (λ (ts : List TokenAt). flat is.pairs ++ ts) (sym first.1.1.0) ∙ sym tokens ∙ h.joined) h.next
    by (inr c) =
        let split = pairs_are [] c.pairs is.pairs (c.first ∷ c.rest) is.numbers c.stand is.stand c.behind (cells_behind kind g.geo.nodata is.numbers g.raster.pixels is.cells) (sym c.joined ∙ tokens) in
        let nodata = one_nodata is.pairs c.nodata g.geo.nodata is.stand (subst (λ (ps : List Pair). IsNodata ps c.nodata) split.0 c.nodata_is) is.geo.nodata in
        let rows = pos_same c.rows g.raster.rows (one_number is.pairs 1 (pos c.rows) (pos g.raster.rows) is.stand (subst (λ (ps : List Pair). SaysNumber ps 1 (pos c.rows)) split.0 c.rows_are) is.rows) in
        let cols = pos_same c.cols g.raster.cols (one_number is.pairs 0 (pos c.cols) (pos g.raster.cols) is.stand (subst (λ (ps : List Pair). SaysNumber ps 0 (pos c.cols)) split.0 c.cols_are) is.cols) in
        let area : c.rows * c.cols ≡ g.raster.rows * g.raster.cols = λ i. rows i * cols i in
        let f = c.fault in
        let cells = subst (λ (n : ℤ). AreCells kind n is.numbers g.raster.pixels) (sym nodata) is.cells in
        numbers_fine (length text) kind c.nodata (c.rows * c.cols) 0 is.numbers f.before f.rest g.raster.pixels f.pixels p a cells f.stand (sym split.1 ∙ f.joined) (omega (arith, is.count, area)) is.short
        (start (length text) kind c.nodata (c.rows * c.cols) (length f.before) f.rest p a f.next)
