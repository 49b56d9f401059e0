-- A whole text.
use Rattle.std.proofs.Common.{◌≡◌, ℕ, ℤ, pos, suc, ◌+◌, ◌*◌, ◌<◌, Bool, true, false, List, [], ◌∷◌, ◌++◌, length, take, map, All, Option, None, Some, IfSome, Ok, Err, refl, sym, ap, ◌∙◌, subst, arith, inl, inr}
use Rattle.std.specs.Prelude.{if◌then◌else◌}
use Rattle.std.proofs.lemmas.List.{take_all, length-take}
use Rattle.std.proofs.lemmas.List.Elements.{All-cons, All-head, All-nil}
use Rattle.raster_cells.specs.declared.kind.PixelType.{PixelType}
use Rattle.raster_values.specs.Raster.{Pixels, blank}
use Rattle.ascii_grid.specs.declared.fault.AsciiStop.{AsciiStop}
use Rattle.ascii_grid.specs.declared.fault.AsciiStop.TheVariants.{Fault, Source, OutOfMemory}
use Rattle.ascii_grid.specs.declared.grid.Georef.{Georef}
use Rattle.ascii_grid.specs.declared.head.Head.{Head}
use Rattle.ascii_grid.specs.Tokens.{AreTokens, EndsToken, IsBlank, IsDark, TokenAt, is_blank, seen, shown}
use Rattle.ascii_grid.specs.Head.{ArePairs, Pair, SaysNumber, SaysText, flat}
use Rattle.ascii_grid.specs.Text.{AreCells, AsciiRead, NumberFaults, IsGeo, IsNodata}
use Rattle.ascii_grid.specs.inside.Cells.{CellsTaken}
use Rattle.ascii_grid.specs.inside.Heads.{BehindHead, HeadRead, KeepsNumber, KeepsSize, KeepsText}
use Rattle.ascii_grid.specs.inside.Reading.{Held, Left, begins_dark, led, tokens_of}
use Rattle.ascii_grid.proofs.DigitSteps.{integer_few}
use Rattle.ascii_grid.proofs.HeadSteps.{key_few, value_few}
use Rattle.ascii_grid.proofs.TokenLists.{shown_all, spot, step_blank, step_dark}

-- ---- the tokens of a text are its tokens

behind_blank : (p b : ℕ) (rest : List ℕ) (ts : List TokenAt) → IsBlank b → AreTokens (suc p) rest ts → AreTokens p (b ∷ rest) ts
behind_blank p b rest [] is are = All-cons IsBlank b rest is are
behind_blank p b rest (t ∷ ts) is (gap, back, (joined, (blanks, (place, more)))) =
    (b ∷ gap, back, (ap (λ (u : List ℕ). b ∷ u) joined, (All-cons IsBlank b gap is blanks, ((let e : t.place ≡ p + length (b ∷ gap) = omega (arith, place) in e), more))))

-- a dark byte in front of a token that begins at once
no_gap : (rest gap back : List ℕ) (t : TokenAt) → begins_dark rest ≡ true → rest ≡ gap ++ back → All IsBlank gap → gap ≡ []
no_gap rest [] back t dark joined blanks = refl
no_gap rest (g ∷ gap) back t dark joined blanks =
    let blank : IsBlank g = All-head IsBlank g gap blanks in
    let no_ : begins_dark (g ∷ (gap ++ back)) ≡ true = ap begins_dark (sym joined) ∙ dark in
    let other : begins_dark (g ∷ (gap ++ back)) ≡ false = ap (λ (v : Bool). if v then false else true) blank in
    let bad : false ≡ true = sym other ∙ no_ in
    absurd (let worse : ⊥ = cc in worse)

no_blanks : (rest : List ℕ) → begins_dark rest ≡ true → All IsBlank rest → ⊥
no_blanks [] dark blanks = let bad : ⊥ = cc in bad
no_blanks (c ∷ rest) dark blanks =
    let blank : IsBlank c = All-head IsBlank c rest blanks in
    let other : begins_dark (c ∷ rest) ≡ false = ap (λ (v : Bool). if v then false else true) blank in
    let clash : false ≡ true = sym other ∙ dark in
    let bad : ⊥ = cc in bad

blank_is : (c : ℕ) (r : List ℕ) → begins_dark (c ∷ r) ≡ false → IsBlank c
blank_is c r e = by (is_blank c) refl
  where
    by : (v : Bool) → is_blank c ≡ v → IsBlank c
    by true is = is
    by false is =
        let other : begins_dark (c ∷ r) ≡ true = ap (λ (v : Bool). if v then false else true) is in
        let clash : true ≡ false = sym other ∙ e in
        absurd (let bad : ⊥ = cc in bad)

in_front : (p b : ℕ) (rest : List ℕ) (ts : List TokenAt) → IsDark b → (dark : Bool) → begins_dark rest ≡ dark → AreTokens (suc p) rest ts → AreTokens p (b ∷ rest) (led p b dark ts)
in_front p b rest ts is false starts are =
    ([], rest, (refl, (All-nil IsBlank, ((let e : p ≡ p + 0 = omega arith in e), ((let some : 0 < length (b ∷ []) = omega arith in some), (All-cons IsDark b [] is (All-nil IsDark), (ends rest starts, subst (λ (q : ℕ). AreTokens q rest ts) (let e : suc p ≡ p + 1 = omega arith in e) are)))))))
  where
    ends : (r : List ℕ) → begins_dark r ≡ false → EndsToken r
    ends [] e = tt
    ends (c ∷ r) e = blank_is c r e
in_front p b rest [] is true starts are = absurd (no_blanks rest starts are)
in_front p b rest (t ∷ ts) is true starts (gap, back, (joined, (blanks, (place, (some, (darks, (ends, more))))))) =
    let none = no_gap rest gap (t.bytes ++ back) t starts joined blanks in
    let joined' : rest ≡ t.bytes ++ back = joined ∙ ap (λ (u : List ℕ). u ++ (t.bytes ++ back)) none in (
      [],
      back,
      (
        ap (λ (u : List ℕ). b ∷ u) joined',
        (
          All-nil IsBlank,
          (
            (let e : p ≡ p + 0 = omega arith in e),
            (
              (let s : 0 < length (b ∷ t.bytes) = omega arith in s),
              (
                All-cons IsDark b t.bytes is darks,
                (
                  ends,
                  subst (λ (q : ℕ). AreTokens q back ts) (let e : t.place + length t.bytes ≡ p + length (b ∷ t.bytes) = omega (arith, place, ap length none) in e) more,
                ),
              ),
            ),
          ),
        ),
      ),
    )

pub are_tokens : (p : ℕ) (text : List ℕ) → AreTokens p text (tokens_of p text)
are_tokens p [] = All-nil IsBlank
are_tokens p (b ∷ rest) = by (are_tokens (suc p) rest) (is_blank b) refl
  where
    by : AreTokens (suc p) rest (tokens_of (suc p) rest) → (v : Bool) → is_blank b ≡ v → AreTokens p (b ∷ rest) (tokens_of p (b ∷ rest))
    by later true is = subst (AreTokens p (b ∷ rest)) (sym (step_blank p b rest is)) (behind_blank p b rest (tokens_of (suc p) rest) is later)
    by later false is = subst (AreTokens p (b ∷ rest)) (sym (step_dark p b rest is)) (in_front p b rest (tokens_of (suc p) rest) is (begins_dark rest) refl later)

-- ---- short tokens are looked at whole

abbrev pub AreShort : List TokenAt → Type 0
AreShort [] = Unit {0}
AreShort (t ∷ ts) = (length t.bytes < 33) × AreShort ts

unseen_one : (t u : TokenAt) → seen t ≡ u → length u.bytes < 33 → t ≡ u
unseen_one t u is few =
    let size : length (take 33 t.bytes) < 33 = subst (λ (s : TokenAt). length s.bytes < 33) (sym is) few in
    let all : take 33 t.bytes ≡ t.bytes = take_all 33 t.bytes (omega (arith, size, length-take 33 t.bytes)) in
    (λ i. spot t.place (sym all i)) ∙ is

front_is : (t u : TokenAt) (ts us : List TokenAt) → ◌≡◌ {A = List TokenAt} (t ∷ ts) (u ∷ us) → (t ≡ u) × (ts ≡ us)
front_is t u ts us e = (cc, cc)

pub unseen : (all xs : List TokenAt) → map seen all ≡ xs → AreShort xs → all ≡ xs
unseen [] [] is short = refl
unseen [] (x ∷ xs) is short = absurd (let bad : ⊥ = cc in bad)
unseen (t ∷ all) [] is short = absurd (let bad : ⊥ = cc in bad)
unseen (t ∷ all) (x ∷ xs) is (few, short) =
    let both = front_is (seen t) x (map seen all) xs is in
    λ i. unseen_one t x both.0 few i ∷ unseen all xs both.1 short i

pub short_pairs : (before ps : List Pair) (rest : List TokenAt) → ArePairs before ps → AreShort rest → AreShort (flat ps ++ rest)
short_pairs before [] rest are short = short
short_pairs before (p ∷ ps) rest (one, more) short =
    (key_few p.word.bytes p.key one.1.0, (value_few before p.key p.value.bytes one.1.1.1, short_pairs (before ++ p ∷ []) ps rest more short))

pub short_cells : (kind : PixelType) (nodata : ℤ) (ts : List TokenAt) (ps : List (Option (List ℤ))) → AreCells kind nodata ts ps → AreShort ts
short_cells kind nodata [] [] are = tt
short_cells kind nodata [] (q ∷ ps) are = absurd are
short_cells kind nodata (u ∷ ts) [] are = absurd are
short_cells kind nodata (u ∷ ts) (q ∷ ps) are = ((let few : length u.bytes < 33 = omega (arith, integer_few u.bytes are.0.0 are.0.1.0) in few), short_cells kind nodata ts ps are.1)

-- ---- what is made of a head

pub text_said : (o : Option TokenAt) (ps : List Pair) (q : ℕ) (b : List ℕ) (t : TokenAt) → o ≡ Some t → KeepsText o ps q → b ≡ t.bytes → SaysText ps q b
text_said None ps q b t is keeps same = absurd (let bad : ⊥ = cc in bad)
text_said (Some u) ps q b t is keeps same = subst (SaysText ps q) (ap (λ (s : TokenAt). s.bytes) (let e : u ≡ t = cc in e) ∙ sym same) keeps.0

pub size_said : (o : Option ℕ) (ps : List Pair) (q n : ℕ) → o ≡ Some n → KeepsSize o ps q → SaysNumber ps q (pos n)
size_said None ps q n is keeps = absurd (let bad : ⊥ = cc in bad)
size_said (Some m) ps q n is keeps = subst (λ (k : ℕ). SaysNumber ps q (pos k)) (let e : m ≡ n = cc in e) keeps.0

pub nodata_said : (o : Option ℤ) (ps : List Pair) (z n : ℤ) → o ≡ Some n → KeepsNumber o ps 5 → z ≡ n → IsNodata ps z
nodata_said None ps z n is keeps same = absurd (let bad : ⊥ = cc in bad)
nodata_said (Some m) ps z n is keeps same = inl (subst (SaysNumber ps 5) ((let e : m ≡ n = cc in e) ∙ sym same) keeps)

-- ---- the whole text

pub text_left : (left : Option (List ℕ)) (w : Held) (text : List ℕ) → left ≡ Some text → w ≡ record { bytes = []; place = 0 } → Left left w (length text) (map seen (shown (length text) (tokens_of 0 text)))
text_left left w text is new = subst (λ (v : Held). Left left v (length text) (map seen (shown (length text) (tokens_of 0 text)))) (sym new) (record {
  bytes = text;
  ahead = record { rest = text; told = is; joined = refl };
  total_is = (let e : 0 + length text ≡ length text = omega arith in e);
  tokens_are = refl;
})

abbrev pub looked : List ℕ → List TokenAt
looked text = map seen (shown (length text) (tokens_of 0 text))

pub head_stopped : (left : Option (List ℕ)) (w : Held) (text : List ℕ) (kind : PixelType) (e : AsciiStop) → HeadRead (Err e) left w (length text) (looked text) → AsciiRead (Err e) kind text
head_stopped left w text kind (Fault f) faults = record { all = tokens_of 0 text; tokens = looked text; cut = are_tokens 0 text; looked = refl; fault = inl faults }
head_stopped left w text kind Source faults = tt
head_stopped left w text kind OutOfMemory faults = tt

pub cells_stopped : (left : Option (List ℕ)) (w : Held) (text : List ℕ) (kind : PixelType) (h : Head) (first : TokenAt) (nodata : ℤ) (old new : Pixels) (e : AsciiStop) → (behind : BehindHead h first left w (length text) (looked text)) → IsNodata behind.pairs nodata
    → old.kind ≡ kind → h.rows ≡ Some old.rows → h.cols ≡ Some old.cols → CellsTaken (Err e) (length text) nodata (first ∷ behind.rest) old new → AsciiRead (Err e) kind text
cells_stopped left w text kind h first nodata old new (Fault f) behind number same rows cols faults = record {
  all = tokens_of 0 text;
  tokens = looked text;
  cut = are_tokens 0 text;
  looked = refl;
  fault = inr (record {
    pairs = behind.pairs;
    first = first;
    rest = behind.rest;
    nodata = nodata;
    rows = old.rows;
    cols = old.cols;
    joined = behind.joined;
    behind = behind.behind;
    stand = behind.stand;
    all = behind.all;
    nodata_is = number;
    rows_are = size_said h.rows behind.pairs 1 old.rows rows behind.keeps.rows;
    cols_are = size_said h.cols behind.pairs 0 old.cols cols behind.keeps.cols;
    fault = subst (λ (d : PixelType). NumberFaults (length text) d nodata (old.rows * old.cols) (first ∷ behind.rest) f.place f.reason) same faults;
  });
}
cells_stopped left w text kind h first nodata old new Source behind number same rows cols faults = tt
cells_stopped left w text kind h first nodata old new OutOfMemory behind number same rows cols faults = tt

pub text_done : (left : Option (List ℕ)) (w : Held) (text : List ℕ) (kind : PixelType) (h : Head) (first : TokenAt) (geo : Georef) (old new : Pixels) → (behind : BehindHead h first left w (length text) (looked text)) → IsGeo behind.pairs geo
    → old ≡ blank kind old.rows old.cols 1 → h.rows ≡ Some old.rows → h.cols ≡ Some old.cols → CellsTaken (Ok tt) (length text) geo.nodata (first ∷ behind.rest) old new → AsciiRead (Ok (record { geo = geo; raster = new })) kind text
text_done left w text kind h first geo old new behind lies made rows cols (short, (count, (are, same))) =
    let kind_is : old.kind ≡ kind = ap (λ (r : Pixels). r.kind) made in
    let new_rows : old.rows ≡ new.rows = sym (ap (λ (r : Pixels). r.rows) same) in
    let new_cols : old.cols ≡ new.cols = sym (ap (λ (r : Pixels). r.cols) same) in
    let all_seen : map seen (tokens_of 0 text) ≡ flat behind.pairs ++ first ∷ behind.rest = ap (λ (ts : List TokenAt). map seen ts) (sym (shown_all (length text) (tokens_of 0 text) short)) ∙ behind.joined in
    record {
      tokens = tokens_of 0 text;
      pairs = behind.pairs;
      numbers = first ∷ behind.rest;
      short = short;
      cut = are_tokens 0 text;
      joined = unseen (tokens_of 0 text) (flat behind.pairs ++ first ∷ behind.rest) all_seen (short_pairs [] behind.pairs (first ∷ behind.rest) behind.stand (short_cells old.kind geo.nodata (first ∷ behind.rest) new.pixels are));
      stand = behind.stand;
      all = behind.all;
      geo = lies;
      rows = size_said h.rows behind.pairs 1 new.rows (rows ∙ ap (λ (n : ℕ). Some n) new_rows) behind.keeps.rows;
      cols = size_said h.cols behind.pairs 0 new.cols (cols ∙ ap (λ (n : ℕ). Some n) new_cols) behind.keeps.cols;
      kind_is = ap (λ (r : Pixels). r.kind) same ∙ kind_is;
      depth = ap (λ (r : Pixels). r.depth) same ∙ ap (λ (r : Pixels). r.depth) made;
      count = count ∙ (λ i. new_rows i * new_cols i);
      cells = subst (λ (d : PixelType). AreCells d geo.nodata (first ∷ behind.rest) new.pixels) kind_is are;
    }

pub where_told : (o : Option (List ℕ)) (P : List ℕ → Type 0) → ((text : List ℕ) → o ≡ Some text → P text) → IfSome o P
where_told None P go = tt
where_told (Some text) P go = go text refl
