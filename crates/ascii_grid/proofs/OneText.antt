-- A text has one list of tokens and one grid.
use Rattle.std.proofs.Common.{◌≡◌, ℕ, ℤ, pos, suc, ◌+◌, Bool, true, false, ◌==◌, List, [], ◌∷◌, ◌++◌, length, map, get_or, All, Option, Some, refl, sym, ap, ◌∙◌, subst, arith, inl, inr, ◌↔◌}
use Rattle.std.specs.Prelude.{IsTrue, if◌then◌else◌}
use Rattle.std.specs.Char.{to_ascii_lowercase}
use Rattle.std.proofs.lemmas.List.Elements.{All-head, All-tail}
use Rattle.std.proofs.lemmas.List.{append-nil}
use Rattle.outside_io.specs.program.Word.{IsDigit}
use Rattle.raster_cells.specs.declared.kind.PixelType.{PixelType}
use Rattle.ascii_grid.specs.declared.words.Key.{Key}
use Rattle.ascii_grid.specs.declared.words.Key.TheVariants.{Cols, Rows, XCorner, XCenter, YCorner, YCenter, Cell, Nodata}
use Rattle.ascii_grid.specs.declared.grid.AsciiGrid.{AsciiGrid}
use Rattle.ascii_grid.specs.Tokens.{AreTokens, IsBlank, TokenAt}
use Rattle.ascii_grid.specs.Head.{AreDigits, ArePairs, BeginsWithLetter, IsInteger, IsKey, Pair, Says, SaysKey, SaysNumber, SaysText, SomePair, flat, name_of, quantity_of}
use Rattle.ascii_grid.specs.Text.{AreCells, IsAscii, IsCell, IsNodata}
use Rattle.ascii_grid.specs.inside.Reading.{tokens_of}
use Rattle.ascii_grid.proofs.DigitSteps.{one_integer}
use Rattle.ascii_grid.proofs.HeadSteps.{number_says, push_last, push_left, some_map}
use Rattle.ascii_grid.proofs.TokenLists.{step_blank, word_front}

-- ---- tokens

skip_gap : (p : ℕ) (gap rest : List ℕ) → All IsBlank gap → tokens_of p (gap ++ rest) ≡ tokens_of (p + length gap) rest
skip_gap p [] rest blank = let none : p ≡ p + 0 = omega arith in ap (λ (q : ℕ). tokens_of q rest) none
skip_gap p (b ∷ gap) rest blank =
    let place : suc p + length gap ≡ p + length (b ∷ gap) = omega arith in
    step_blank p b (gap ++ rest) (All-head IsBlank b gap blank) ∙ skip_gap (suc p) gap rest (All-tail IsBlank b gap blank) ∙ ap (λ (q : ℕ). tokens_of q rest) place

pub tokens_are : (p : ℕ) (text : List ℕ) (ts : List TokenAt) → AreTokens p text ts → tokens_of p text ≡ ts
tokens_are p text [] blank = ap (tokens_of p) (sym (append-nil text)) ∙ skip_gap p text [] blank
tokens_are p text (t ∷ ts) (gap, rest, (joined, (blank, (place, (some, (dark, (ends, later))))))) =
    ap (tokens_of p) joined ∙ skip_gap p gap (t.bytes ++ rest) blank ∙ ap (λ (q : ℕ). tokens_of q (t.bytes ++ rest)) (sym place)
    ∙ word_front t.place t.bytes rest some dark ends ∙ ap (λ (us : List TokenAt). t ∷ us) (tokens_are (t.place + length t.bytes) rest ts later)

pub one_tokens : (p : ℕ) (text : List ℕ) (ts us : List TokenAt) → AreTokens p text ts → AreTokens p text us → ts ≡ us
one_tokens p text ts us a b = sym (tokens_are p text ts a) ∙ tokens_are p text us b

-- ---- keywords

key_back : List ℕ → Key
key_back bs =
    if get_or bs 1 0 == 99 then Cols
    else if get_or bs 1 0 == 114 then Rows
    else if get_or bs 1 0 == 101 then Cell
    else if get_or bs 1 0 == 111 then Nodata
    else if get_or bs 0 0 == 120 then (if get_or bs 4 0 == 101 then XCenter else XCorner)
    else (if get_or bs 4 0 == 101 then YCenter else YCorner)

key_again : (key : Key) → key_back (map to_ascii_lowercase (name_of key)) ≡ key
unfolding key_back
key_again Cols = refl
key_again Rows = refl
key_again XCorner = refl
key_again XCenter = refl
key_again YCorner = refl
key_again YCenter = refl
key_again Cell = refl
key_again Nodata = refl

pub one_key : (word : List ℕ) (k j : Key) → IsKey word k → IsKey word j → k ≡ j
one_key word k j a b = sym (key_again k) ∙ ap key_back (sym a ∙ b) ∙ key_again j

-- ---- pairs, and what is behind them

digit_no_letter : (bytes : List ℕ) (n : ℕ) → AreDigits bytes n → BeginsWithLetter bytes → ⊥
digit_no_letter [] n digits letter = letter
digit_no_letter (b ∷ bs) n digits letter = let is : IsDigit b = All-head IsDigit b bs digits.digits in omega (arith, is, letter)

pub number_no_letter : (bytes : List ℕ) (z : ℤ) → IsInteger bytes z → BeginsWithLetter bytes → ⊥
number_no_letter bytes z (n, inl a) letter = digit_no_letter bytes n a.0 letter
number_no_letter bytes z (n, inr a) letter = let is : BeginsWithLetter (45 ∷ a.0) = subst BeginsWithLetter a.1.0 letter in omega (arith, is)

-- what is behind the pairs begins with no letter
abbrev pub IsBehind : List TokenAt → Type 0
IsBehind [] = Unit {0}
IsBehind (t ∷ ts) = ¬ BeginsWithLetter t.bytes

pub cells_behind : (kind : PixelType) (nodata : ℤ) (ts : List TokenAt) (ps : List (Option (List ℤ))) → AreCells kind nodata ts ps → IsBehind ts
cells_behind kind nodata [] ps are = tt
cells_behind kind nodata (t ∷ ts) [] are = absurd are
cells_behind kind nodata (t ∷ ts) (p ∷ ps) are = number_no_letter t.bytes are.0.0 are.0.1.0

pub heads_are : (t u : TokenAt) (ts us : List TokenAt) → ◌≡◌ {A = List TokenAt} (t ∷ ts) (u ∷ us) → (t ≡ u) × (ts ≡ us)
heads_are t u ts us e = (cc, cc)

pub pairs_are : (before ps qs : List Pair) (ts us : List TokenAt) → ArePairs before ps → ArePairs before qs → IsBehind ts → IsBehind us → flat ps ++ ts ≡ flat qs ++ us → (ps ≡ qs) × (ts ≡ us)
pairs_are before [] [] ts us a b x y e = (refl, e)
pairs_are before [] (q ∷ qs) ts us a b x y e = absurd (subst IsBehind e x b.0.0)
pairs_are before (p ∷ ps) [] ts us a b x y e = absurd (subst IsBehind (sym e) y a.0.0)
pairs_are before (p ∷ ps) (q ∷ qs) ts us a b x y e =
    let first = heads_are p.word q.word (p.value ∷ (flat ps ++ ts)) (q.value ∷ (flat qs ++ us)) e in
    let second = heads_are p.value q.value (flat ps ++ ts) (flat qs ++ us) first.1 in
    let key : p.key ≡ q.key = one_key p.word.bytes p.key q.key a.0.1.0 (subst (λ (t : TokenAt). IsKey t.bytes q.key) (sym first.0) b.0.1.0) in
    let same : p ≡ q = λ i. record { word = first.0 i; key = key i; value = second.0 i } in
    let later = pairs_are (before ++ p ∷ []) ps qs ts us a.1 (subst (λ (r : Pair). ArePairs (before ++ r ∷ []) qs) (sym same) b.1) x y second.1 in
    ((λ i. same i ∷ later.0 i), later.1)

-- ---- each quantity once

said_before : (before ps : List Pair) (q : ℕ) → ArePairs before ps → Says before q → Says ps q → ⊥
said_before before [] q are said says = says
said_before before (p ∷ ps) q are said (inl is) = are.0.1.1.0 (subst (λ (k : ℕ). Says before k) (sym is) said)
said_before before (p ∷ ps) q are said (inr says) = said_before (before ++ p ∷ []) ps q are.1 (push_left (λ r. quantity_of r.key ≡ q) before p said) says

-- two pairs that say one quantity are one
record Both (P Q : Pair → Type 0) : Type 0 where
  pair : Pair
  one : P pair
  two : Q pair

both : (before ps : List Pair) (q : ℕ) (P Q : Pair → Type 0) → ArePairs before ps → ((p : Pair) → P p → quantity_of p.key ≡ q) → ((p : Pair) → Q p → quantity_of p.key ≡ q) → SomePair P ps → SomePair Q ps → Both P Q
both before [] q P Q are one two x y = absurd x
both before (p ∷ ps) q P Q are one two (inl x) (inl y) = record { pair = p; one = x; two = y }
both before (p ∷ ps) q P Q are one two (inl x) (inr y) = absurd (said_before (before ++ p ∷ []) ps q are.1 (push_last (λ r. quantity_of r.key ≡ q) before p (one p x)) (some_map Q (λ r. quantity_of r.key ≡ q) two ps y))
both before (p ∷ ps) q P Q are one two (inr x) (inl y) = absurd (said_before (before ++ p ∷ []) ps q are.1 (push_last (λ r. quantity_of r.key ≡ q) before p (two p y)) (some_map P (λ r. quantity_of r.key ≡ q) one ps x))
both before (p ∷ ps) q P Q are one two (inr x) (inr y) = both (before ++ p ∷ []) ps q P Q are.1 one two x y

pub one_text : (ps : List Pair) (q : ℕ) (a b : List ℕ) → ArePairs [] ps → SaysText ps q a → SaysText ps q b → a ≡ b
one_text ps q a b are x y =
    let p = both [] ps q (λ r. (quantity_of r.key ≡ q) × (r.value.bytes ≡ a)) (λ r. (quantity_of r.key ≡ q) × (r.value.bytes ≡ b)) are (λ r h. h.0) (λ r h. h.0) x y in
    sym p.one.1 ∙ p.two.1

pub one_number : (ps : List Pair) (q : ℕ) (a b : ℤ) → ArePairs [] ps → SaysNumber ps q a → SaysNumber ps q b → a ≡ b
one_number ps q a b are x y =
    let p = both [] ps q (λ r. (quantity_of r.key ≡ q) × IsInteger r.value.bytes a) (λ r. (quantity_of r.key ≡ q) × IsInteger r.value.bytes b) are (λ r h. h.0) (λ r h. h.0) x y in
    one_integer p.pair.value.bytes a b p.one.1 p.two.1

pub one_nodata : (ps : List Pair) (a b : ℤ) → ArePairs [] ps → IsNodata ps a → IsNodata ps b → a ≡ b
one_nodata ps a b are (inl x) (inl y) = one_number ps 5 a b are x y
one_nodata ps a b are (inl x) (inr y) = absurd (y.0 (number_says ps 5 a x))
one_nodata ps a b are (inr x) (inl y) = absurd (x.0 (number_says ps 5 b y))
one_nodata ps a b are (inr x) (inr y) = x.1 ∙ sym y.1

one_flag : (a b : Bool) (S : Type 0) → IsTrue a ↔ S → IsTrue b ↔ S → a ≡ b
one_flag true true S x y = refl
one_flag false false S x y = refl
one_flag true false S x y = absurd (let no = y.1 (x.0 refl) in let bad : ⊥ = cc in bad)
one_flag false true S x y = absurd (let no = x.1 (y.0 refl) in let bad : ⊥ = cc in bad)

-- ---- the grid

pub one_cell : (kind : PixelType) (nodata : ℤ) (bytes : List ℕ) (p q : Option (List ℤ)) → IsCell kind nodata bytes p → IsCell kind nodata bytes q → p ≡ q
one_cell kind nodata bytes p q (m, (a, inl x)) (n, (b, inl y)) = x.1 ∙ sym y.1
one_cell kind nodata bytes p q (m, (a, inl x)) (n, (b, inr y)) = absurd (y.0 (one_integer bytes n m b a ∙ x.0))
one_cell kind nodata bytes p q (m, (a, inr x)) (n, (b, inl y)) = absurd (x.0 (one_integer bytes m n a b ∙ y.0))
one_cell kind nodata bytes p q (m, (a, inr x)) (n, (b, inr y)) = x.1.1 ∙ ap (λ (z : ℤ). Some (z ∷ [])) (one_integer bytes m n a b) ∙ sym y.1.1

pub one_cells : (kind : PixelType) (nodata : ℤ) (ts : List TokenAt) (ps qs : List (Option (List ℤ))) → AreCells kind nodata ts ps → AreCells kind nodata ts qs → ps ≡ qs
one_cells kind nodata [] [] [] a b = refl
one_cells kind nodata [] (p ∷ ps) qs a b = absurd a
one_cells kind nodata [] [] (q ∷ qs) a b = absurd b
one_cells kind nodata (t ∷ ts) [] qs a b = absurd a
one_cells kind nodata (t ∷ ts) (p ∷ ps) [] a b = absurd b
one_cells kind nodata (t ∷ ts) (p ∷ ps) (q ∷ qs) a b =
    let first = one_cell kind nodata t.bytes p q a.0 b.0 in
    let later = one_cells kind nodata ts ps qs a.1 b.1 in
    λ i. first i ∷ later i

pub pos_same : (a b : ℕ) → pos a ≡ pos b → a ≡ b
pos_same a b e = cc

pub one_grid : (text : List ℕ) (kind : PixelType) (g h : AsciiGrid) → IsAscii text kind g → IsAscii text kind h → g ≡ h
one_grid text kind g h a b =
    let tokens = one_tokens 0 text a.tokens b.tokens a.cut b.cut in
    let split = pairs_are [] a.pairs b.pairs a.numbers b.numbers a.stand b.stand (cells_behind kind g.geo.nodata a.numbers g.raster.pixels a.cells) (cells_behind kind h.geo.nodata b.numbers h.raster.pixels b.cells) (sym a.joined ∙ tokens ∙ b.joined) in
    let back = sym split.0 in
    let x = one_text a.pairs 2 g.geo.x h.geo.x a.stand a.geo.x (subst (λ (ps : List Pair). SaysText ps 2 h.geo.x) back b.geo.x) in
    let x_centre = one_flag g.geo.x_centre h.geo.x_centre (SaysKey a.pairs XCenter) a.geo.x_centre (subst (λ (ps : List Pair). IsTrue h.geo.x_centre ↔ SaysKey ps XCenter) back b.geo.x_centre) in
    let y = one_text a.pairs 3 g.geo.y h.geo.y a.stand a.geo.y (subst (λ (ps : List Pair). SaysText ps 3 h.geo.y) back b.geo.y) in
    let y_centre = one_flag g.geo.y_centre h.geo.y_centre (SaysKey a.pairs YCenter) a.geo.y_centre (subst (λ (ps : List Pair). IsTrue h.geo.y_centre ↔ SaysKey ps YCenter) back b.geo.y_centre) in
    let cell = one_text a.pairs 4 g.geo.cell h.geo.cell a.stand a.geo.cell (subst (λ (ps : List Pair). SaysText ps 4 h.geo.cell) back b.geo.cell) in
    let nodata = one_nodata a.pairs g.geo.nodata h.geo.nodata a.stand a.geo.nodata (subst (λ (ps : List Pair). IsNodata ps h.geo.nodata) back b.geo.nodata) in
    let rows = pos_same g.raster.rows h.raster.rows (one_number a.pairs 1 (pos g.raster.rows) (pos h.raster.rows) a.stand a.rows (subst (λ (ps : List Pair). SaysNumber ps 1 (pos h.raster.rows)) back b.rows)) in
    let cols = pos_same g.raster.cols h.raster.cols (one_number a.pairs 0 (pos g.raster.cols) (pos h.raster.cols) a.stand a.cols (subst (λ (ps : List Pair). SaysNumber ps 0 (pos h.raster.cols)) back b.cols)) in
    let kinds = a.kind_is ∙ sym b.kind_is in
    let depths = a.depth ∙ sym b.depth in
    let pixels = one_cells kind g.geo.nodata a.numbers g.raster.pixels h.raster.pixels a.cells (subst (λ (n : ℤ). AreCells kind n a.numbers h.raster.pixels) (sym nodata) (subst (λ (ts : List TokenAt). AreCells kind h.geo.nodata ts h.raster.pixels) (sym split.1) b.cells)) in
    λ i. record {
      geo = record { x = x i; x_centre = x_centre i; y = y i; y_centre = y_centre i; cell = cell i; nodata = nodata i };
      raster = record { kind = kinds i; rows = rows i; cols = cols i; depth = depths i; pixels = pixels i };
    }
