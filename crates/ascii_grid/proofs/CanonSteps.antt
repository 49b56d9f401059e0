-- What is written of a grid is a text of it.
use Rattle.std.proofs.Common.{◌≡◌, ℕ, ℤ, pos, suc, ◌+◌, ◌*◌, ◌<◌, ◌≤◌, Bool, true, false, List, [], ◌∷◌, ◌++◌, length, get_or, All, Option, None, Some, refl, ap, ◌∙◌, subst, arith, inl, inr, decimal, ◌⊎◌}
use Rattle.std.specs.Prelude.{IsTrue, unsigned_abs}
use Rattle.std.proofs.lemmas.Int.{ints}
use Rattle.std.proofs.lemmas.List.{length-append}
use Rattle.std.proofs.lemmas.List.Elements.{All-from_get_or, All-head, All-tail}
use Rattle.std.proofs.Math.Nat.{le-mul_of_pos_right, le_trans, mul_comm}
use Rattle.std.specs.Fmt.{signed_decimal}
use Rattle.raster_cells.specs.declared.kind.PixelType.{PixelType}
use Rattle.raster_cells.specs.declared.kind.PixelType.TheVariants.{I8, U8, I16, U16, I32, U32}
use Rattle.raster_cells.specs.PixelType.{InRange}
use Rattle.raster_values.specs.Raster.{IsPixel, IsRaster}
use Rattle.outside_io.specs.program.Word.{IsDigit}
use Rattle.ascii_grid.specs.declared.words.Key.{Key}
use Rattle.ascii_grid.specs.declared.words.Key.TheVariants.{Cols, Rows, XCorner, XCenter, YCorner, YCenter, Cell, Nodata}
use Rattle.ascii_grid.specs.declared.grid.AsciiGrid.{AsciiGrid}
use Rattle.ascii_grid.specs.declared.grid.Georef.{Georef}
use Rattle.ascii_grid.specs.Tokens.{limit}
use Rattle.ascii_grid.specs.Head.{ArePairs, BeginsWithLetter, HasAll, IsInteger, IsText, IsValue, Pair, name_of, quantity_of}
use Rattle.ascii_grid.specs.Text.{AreCells, IsAscii, IsCell, IsGeo}
use Rattle.ascii_grid.specs.Canon.{IsApart, IsLawful, Word, canon, canon_words, end_of, line, number_of, number_words, spelled, x_key, y_key}
use Rattle.ascii_grid.proofs.DigitSteps.{integer_few, one_integer}
use Rattle.ascii_grid.proofs.TokenLists.{spot}
use Rattle.ascii_grid.proofs.WordTokens.{AreWords, IsWord, dark_by, decimal_digits, digits_dark, end_blank, number_word, signed_integer, spots, spots_long, text_word, words_tokens}

-- ---- numbers

pub range_small : (kind : PixelType) (z : ℤ) → InRange kind z → unsigned_abs z < 10000000000
range_small I8 z h = omega (arith, ints)
range_small U8 z h = omega (arith, ints)
range_small I16 z h = omega (arith, ints)
range_small U16 z h = omega (arith, ints)
range_small I32 z h = omega (arith, ints)
range_small U32 z h = omega (arith, ints)

number_small : (kind : PixelType) (nodata : ℤ) (p : Option (List ℤ)) → unsigned_abs nodata < 10000000000 → IsPixel kind 1 p → unsigned_abs (number_of nodata p) < 10000000000
number_small kind nodata None small is = small
number_small kind nodata (Some []) small is = absurd (let bad : ⊥ = omega (arith, is.0) in bad)
number_small kind nodata (Some (v ∷ vs)) small is = range_small kind v (All-head (InRange kind) v vs is.1)

cell_is : (kind : PixelType) (nodata : ℤ) (p : Option (List ℤ)) → unsigned_abs nodata < 10000000000 → IsPixel kind 1 p → IsApart nodata p → IsCell kind nodata (signed_decimal (number_of nodata p)) p
cell_is kind nodata None small is apart = (nodata, (signed_integer nodata small, inl (refl, refl)))
cell_is kind nodata (Some []) small is apart = absurd (let bad : ⊥ = omega (arith, is.0) in bad)
cell_is kind nodata (Some (v ∷ [])) small is apart =
    let near : InRange kind v = All-head (InRange kind) v [] is.1 in
    (v, (signed_integer v (range_small kind v near), inr (apart, (near, refl))))
cell_is kind nodata (Some (v ∷ w ∷ vs)) small is apart = absurd (let bad : ⊥ = omega (arith, is.0) in bad)

pub cells_are : (kind : PixelType) (nodata : ℤ) (cols k p : ℕ) (ps : List (Option (List ℤ))) → unsigned_abs nodata < 10000000000 → All (IsPixel kind 1) ps → All (IsApart nodata) ps → AreCells kind nodata (spots p (number_words nodata cols k ps)) ps
cells_are kind nodata cols k p [] small is apart = tt
cells_are kind nodata cols k p (q ∷ qs) small is apart = (
  cell_is kind nodata q small (All-head (IsPixel kind 1) q qs is) (All-head (IsApart nodata) q qs apart),
  cells_are kind nodata cols (suc k) (p + length (signed_decimal (number_of nodata q)) + 1) qs small (All-tail (IsPixel kind 1) q qs is) (All-tail (IsApart nodata) q qs apart),
)

pub numbers_are_words : (kind : PixelType) (nodata : ℤ) (cols k : ℕ) (ps : List (Option (List ℤ))) → unsigned_abs nodata < 10000000000 → All (IsPixel kind 1) ps → AreWords (number_words nodata cols k ps)
numbers_are_words kind nodata cols k [] small is = tt
numbers_are_words kind nodata cols k (q ∷ qs) small is = (
  number_word (number_of nodata q) (end_of cols k) (number_small kind nodata q small (All-head (IsPixel kind 1) q qs is)) (end_blank cols k),
  numbers_are_words kind nodata cols (suc k) qs small (All-tail (IsPixel kind 1) q qs is),
)

pub numbers_long : (nodata : ℤ) (cols k : ℕ) (ps : List (Option (List ℤ))) → length (number_words nodata cols k ps) ≡ length ps
numbers_long nodata cols k [] = refl
numbers_long nodata cols k (q ∷ qs) = ap suc (numbers_long nodata cols (suc k) qs)

-- at most twelve bytes for each
pub numbers_short : (kind : PixelType) (nodata : ℤ) (cols k : ℕ) (ps : List (Option (List ℤ))) → unsigned_abs nodata < 10000000000 → All (IsPixel kind 1) ps → length (spelled (number_words nodata cols k ps)) ≤ 12 * length ps
numbers_short kind nodata cols k [] small is = omega arith
numbers_short kind nodata cols k (q ∷ qs) small is =
    let later = numbers_short kind nodata cols (suc k) qs small (All-tail (IsPixel kind 1) q qs is) in
    let few = integer_few (signed_decimal (number_of nodata q)) (number_of nodata q) (signed_integer (number_of nodata q) (number_small kind nodata q small (All-head (IsPixel kind 1) q qs is))) in
    let size = length-append (signed_decimal (number_of nodata q)) (end_of cols k ∷ spelled (number_words nodata cols (suc k) qs)) in
    omega (arith, later, few, size)

-- ---- the head

pub begins : (key : Key) → BeginsWithLetter (name_of key)
begins Cols = inr (omega arith, omega arith)
begins Rows = inr (omega arith, omega arith)
begins XCorner = inr (omega arith, omega arith)
begins XCenter = inr (omega arith, omega arith)
begins YCorner = inr (omega arith, omega arith)
begins YCenter = inr (omega arith, omega arith)
begins Cell = inr (omega arith, omega arith)
begins Nodata = inl (omega arith, omega arith)

key_word : (key : Key) → IsWord (record { bytes = name_of key; behind = 32 })
key_word Cols = record { some = omega arith; dark = dark_by (name_of Cols) refl; behind = refl }
key_word Rows = record { some = omega arith; dark = dark_by (name_of Rows) refl; behind = refl }
key_word XCorner = record { some = omega arith; dark = dark_by (name_of XCorner) refl; behind = refl }
key_word XCenter = record { some = omega arith; dark = dark_by (name_of XCenter) refl; behind = refl }
key_word YCorner = record { some = omega arith; dark = dark_by (name_of YCorner) refl; behind = refl }
key_word YCenter = record { some = omega arith; dark = dark_by (name_of YCenter) refl; behind = refl }
key_word Cell = record { some = omega arith; dark = dark_by (name_of Cell) refl; behind = refl }
key_word Nodata = record { some = omega arith; dark = dark_by (name_of Nodata) refl; behind = refl }

name_few : (key : Key) → length (name_of key) ≤ 12
name_few Cols = omega arith
name_few Rows = omega arith
name_few XCorner = omega arith
name_few XCenter = omega arith
name_few YCorner = omega arith
name_few YCenter = omega arith
name_few Cell = omega arith
name_few Nodata = omega arith

x_quantity : (b : Bool) → quantity_of (x_key b) ≡ 2
x_quantity true = refl
x_quantity false = refl

y_quantity : (b : Bool) → quantity_of (y_key b) ≡ 3
y_quantity true = refl
y_quantity false = refl

x_value : (b : Bool) (before : List Pair) (bytes : List ℕ) → IsText bytes → IsValue before (x_key b) bytes
x_value true before bytes is = is
x_value false before bytes is = is

y_value : (b : Bool) (before : List Pair) (bytes : List ℕ) → IsText bytes → IsValue before (y_key b) bytes
y_value true before bytes is = is
y_value false before bytes is = is

abbrev keyed : ℕ → Key → List ℕ → Pair
keyed p key value = record { word = spot p (name_of key); key = key; value = spot (p + length (name_of key) + 1) value }

abbrev after : ℕ → Key → List ℕ → ℕ
after p key value = p + length (name_of key) + 1 + length value + 1

abbrev six : (xc yc : Bool) (cols rows x y cell nodata : List ℕ) (p q r s t u : ℕ) → List Pair
six xc yc cols rows x y cell nodata p q r s t u =
    keyed p Cols cols ∷ keyed q Rows rows ∷ keyed r (x_key xc) x ∷ keyed s (y_key yc) y ∷ keyed t Cell cell ∷ keyed u Nodata nodata ∷ []

same_pos : (a b : ℕ) → pos a ≡ pos b → a ≡ b
same_pos a b e = cc

pub six_stand : (xc yc : Bool) (cols rows : ℕ) (x y cell : List ℕ) (nodata : ℤ) (p q r s t u : ℕ) → 0 < cols → 0 < rows → cols ≤ 16777216 → rows ≤ 16777216 → rows * cols ≤ 16777216 → IsText x → IsText y → IsText cell → unsigned_abs nodata < 10000000000
    → ArePairs [] (six xc yc (decimal cols) (decimal rows) x y cell (signed_decimal nodata) p q r s t u)
six_stand xc yc cols rows x y cell nodata p q r s t u some_cols some_rows few_cols few_rows few xs ys cells small =
    let qx = x_quantity xc in
    let qy = y_quantity yc in
    let icols : IsInteger (decimal cols) (pos cols) = (cols, inl (decimal_digits cols (omega (arith, few_cols)), refl)) in
    let irows : IsInteger (decimal rows) (pos rows) = (rows, inl (decimal_digits rows (omega (arith, few_rows)), refl)) in (
      (begins Cols, (refl, ((λ h. h), record { size = cols; spelled = icols; some = some_cols; within = λ m h. absurd h }))),
      (
        (
          begins Rows,
          (
            refl,
            (
              (λ h. omega (arith, h)),
              record {
                size = rows;
                spelled = irows;
                some = some_rows;
                within = λ m h. first_number cols rows m few icols h;
              },
            ),
          ),
        ),
        (
          (begins (x_key xc), (refl, ((λ h. omega (arith, h, qx)), x_value xc _ x xs))),
          (
            (begins (y_key yc), (refl, ((λ h. omega (arith, h, qx, qy)), y_value yc _ y ys))),
            (
              (begins Cell, (refl, ((λ h. omega (arith, h, qx, qy)), cells))),
              ((begins Nodata, (refl, ((λ h. omega (arith, h, qx, qy)), (nodata, signed_integer nodata small)))), tt),
            ),
          ),
        ),
      ),
    )
  where
    first_number : (c d m : ℕ) → d * c ≤ 16777216 → IsInteger (decimal c) (pos c) → ((quantity_of Cols ≡ 0) × IsInteger (decimal c) (pos m)) ⊎ ⊥ → d * m ≤ 16777216
    first_number c d m fits_ is (inl h) = subst (λ (k : ℕ). d * k ≤ 16777216) (same_pos c m (one_integer (decimal c) (pos c) (pos m) is h.1)) fits_
    first_number c d m fits_ is (inr h) = absurd h

pub six_all : (xc yc : Bool) (cols rows x y cell nodata : List ℕ) (p q r s t u : ℕ) → HasAll (six xc yc cols rows x y cell nodata p q r s t u)
six_all xc yc cols rows x y cell nodata p q r s t u =
    (inl refl, (inr (inl refl), (inr (inr (inl (x_quantity xc))), (inr (inr (inr (inl (y_quantity yc)))), inr (inr (inr (inr (inl refl))))))))

x_yes : (b : Bool) → IsTrue b → x_key b ≡ XCenter
x_yes true h = refl
x_yes false h = absurd (let bad : ⊥ = cc in bad)

x_back : (b : Bool) → x_key b ≡ XCenter → IsTrue b
x_back true e = refl
x_back false e = absurd (let bad : ⊥ = cc in bad)

x_no : (b : Bool) → x_key b ≡ YCenter → ⊥
x_no true e = cc
x_no false e = cc

y_yes : (b : Bool) → IsTrue b → y_key b ≡ YCenter
y_yes true h = refl
y_yes false h = absurd (let bad : ⊥ = cc in bad)

y_back : (b : Bool) → y_key b ≡ YCenter → IsTrue b
y_back true e = refl
y_back false e = absurd (let bad : ⊥ = cc in bad)

y_no : (b : Bool) → y_key b ≡ XCenter → ⊥
y_no true e = cc
y_no false e = cc

one_of_six : {A B C D E F G : Type 0} → (A → G) → (B → G) → (C → G) → (D → G) → (E → G) → (F → G) → A ⊎ (B ⊎ (C ⊎ (D ⊎ (E ⊎ (F ⊎ ⊥))))) → G
one_of_six a b c d e f (inl h) = a h
one_of_six a b c d e f (inr (inl h)) = b h
one_of_six a b c d e f (inr (inr (inl h))) = c h
one_of_six a b c d e f (inr (inr (inr (inl h)))) = d h
one_of_six a b c d e f (inr (inr (inr (inr (inl h))))) = e h
one_of_six a b c d e f (inr (inr (inr (inr (inr (inl h)))))) = f h
one_of_six a b c d e f (inr (inr (inr (inr (inr (inr h)))))) = absurd h

pub six_geo : (geo : Georef) (cols rows : List ℕ) (p q r s t u : ℕ) → unsigned_abs geo.nodata < 10000000000 → IsGeo (six geo.x_centre geo.y_centre cols rows geo.x geo.y geo.cell (signed_decimal geo.nodata) p q r s t u) geo
six_geo geo cols rows p q r s t u small = record {
  x = inr (inr (inl (x_quantity geo.x_centre, refl)));
  x_centre = (
    λ h. inr (inr (inl (x_yes geo.x_centre h))),
    λ h. one_of_six (λ e. absurd (let bad : ⊥ = cc in bad)) (λ e. absurd (let bad : ⊥ = cc in bad)) (λ e. x_back geo.x_centre e) (λ e. absurd (y_no geo.y_centre e)) (λ e. absurd (let bad : ⊥ = cc in bad)) (λ e. absurd (let bad : ⊥ = cc in bad)) h,
  );
  y = inr (inr (inr (inl (y_quantity geo.y_centre, refl))));
  y_centre = (
    λ h. inr (inr (inr (inl (y_yes geo.y_centre h)))),
    λ h. one_of_six (λ e. absurd (let bad : ⊥ = cc in bad)) (λ e. absurd (let bad : ⊥ = cc in bad)) (λ e. absurd (x_no geo.x_centre e)) (λ e. y_back geo.y_centre e) (λ e. absurd (let bad : ⊥ = cc in bad)) (λ e. absurd (let bad : ⊥ = cc in bad)) h,
  );
  cell = inr (inr (inr (inr (inl (refl, refl)))));
  nodata = inl (inr (inr (inr (inr (inr (inl (refl, signed_integer geo.nodata small)))))));
}

-- ---- the whole

line_long : (key : Key) (value : List ℕ) (ws : List Word) → length (spelled (line key value ++ ws)) ≡ length (name_of key) + 1 + length value + 1 + length (spelled ws)
line_long key value ws =
    let one = length-append (name_of key) (32 ∷ (value ++ 10 ∷ spelled ws)) in
    let two = length-append value (10 ∷ spelled ws) in
    omega (arith, one, two)

one_line : (key : Key) (value : List ℕ) (ws : List Word) (n : ℕ) → length value ≤ 32 → length (spelled ws) ≤ n → length (spelled (line key value ++ ws)) ≤ n + 46
one_line key value ws n few later = let long = line_long key value ws in let name_ = name_few key in omega (arith, long, name_, few, later)

pub canon_is : (g : AsciiGrid) → IsLawful g → IsRaster g.raster → IsAscii (canon g) g.raster.kind g
canon_is g lawful sound =
    let r = g.raster in
    let few : r.rows * r.cols ≤ 16777216 = area r.rows r.cols r.depth lawful.depth sound.shape.size in
    let few_rows : r.rows ≤ 16777216 = omega (arith, le-mul_of_pos_right r.rows sound.shape.cols_above, few) in
    let few_cols : r.cols ≤ 16777216 = omega (arith, le-mul_of_pos_right r.cols sound.shape.rows_above, few, mul_comm r.rows r.cols) in
    let each : All (IsPixel r.kind 1) r.pixels = All-from_get_or (IsPixel r.kind 1) r.pixels None (λ k less. subst (λ (d : ℕ). IsPixel r.kind d (get_or r.pixels k None)) lawful.depth (sound.each k less)) in
    let small = lawful.geo.nodata in
    let cols_ = decimal_digits r.cols (omega (arith, few_cols)) in
    let rows_ = decimal_digits r.rows (omega (arith, few_rows)) in
    let icols : IsInteger (decimal r.cols) (pos r.cols) = (r.cols, inl (cols_, refl)) in
    let irows : IsInteger (decimal r.rows) (pos r.rows) = (r.rows, inl (rows_, refl)) in
    let nodata_few = integer_few (signed_decimal g.geo.nodata) g.geo.nodata (signed_integer g.geo.nodata small) in
    let numbers = number_words g.geo.nodata r.cols 0 r.pixels in
    let q = after 0 Cols (decimal r.cols) in
    let t2 = after q Rows (decimal r.rows) in
    let t3 = after t2 (x_key g.geo.x_centre) g.geo.x in
    let t4 = after t3 (y_key g.geo.y_centre) g.geo.y in
    let t5 = after t4 Cell g.geo.cell in
    let t6 = after t5 Nodata (signed_decimal g.geo.nodata) in
    let words : AreWords (canon_words g) = (
      key_word Cols,
      (
        digits_word (decimal r.cols) cols_.some cols_.digits,
        (
          key_word Rows,
          (
            digits_word (decimal r.rows) rows_.some rows_.digits,
            (
              key_word (x_key g.geo.x_centre),
              (
                text_word g.geo.x lawful.geo.x,
                (
                  key_word (y_key g.geo.y_centre),
                  (
                    text_word g.geo.y lawful.geo.y,
                    (key_word Cell, (text_word g.geo.cell lawful.geo.cell, (key_word Nodata, (number_word g.geo.nodata 10 small refl, numbers_are_words r.kind g.geo.nodata r.cols 0 r.pixels small each)))),
                  ),
                ),
              ),
            ),
          ),
        ),
      ),
    ) in
    let short = numbers_short r.kind g.geo.nodata r.cols 0 r.pixels small each in
    record {
      tokens = spots 0 (canon_words g);
      pairs = six g.geo.x_centre g.geo.y_centre (decimal r.cols) (decimal r.rows) g.geo.x g.geo.y g.geo.cell (signed_decimal g.geo.nodata) 0 q t2 t3 t4 t5;
      numbers = spots t6 numbers;
      short = total g (length (spelled numbers)) cols_.few rows_.few lawful.geo.x.few lawful.geo.y.few lawful.geo.cell.few nodata_few (omega arith) (omega (arith, short, sound.places, few));
      cut = words_tokens (canon_words g) words;
      joined = refl;
      stand = six_stand g.geo.x_centre g.geo.y_centre r.cols r.rows g.geo.x g.geo.y g.geo.cell g.geo.nodata 0 q t2 t3 t4 t5 sound.shape.cols_above sound.shape.rows_above few_cols few_rows few lawful.geo.x lawful.geo.y lawful.geo.cell small;
      all = six_all g.geo.x_centre g.geo.y_centre (decimal r.cols) (decimal r.rows) g.geo.x g.geo.y g.geo.cell (signed_decimal g.geo.nodata) 0 q t2 t3 t4 t5;
      geo = six_geo g.geo (decimal r.cols) (decimal r.rows) 0 q t2 t3 t4 t5 small;
      rows = inr (inl (refl, irows));
      cols = inl (refl, icols);
      kind_is = refl;
      depth = lawful.depth;
      count = spots_long t6 numbers ∙ numbers_long g.geo.nodata r.cols 0 r.pixels ∙ sound.places;
      cells = cells_are r.kind g.geo.nodata r.cols 0 t6 r.pixels small each lawful.apart;
    }
  where
    area : (a b d : ℕ) → d ≡ 1 → a * b * d ≤ 16777216 → a * b ≤ 16777216
    area a b d one fits_ = let h : a * b * 1 ≤ 16777216 = subst (λ (k : ℕ). a * b * k ≤ 16777216) one fits_ in omega (arith, h)

    digits_word : (bytes : List ℕ) → 0 < length bytes → All IsDigit bytes → IsWord (record { bytes = bytes; behind = 10 })
    digits_word bytes some all = record { some = some; dark = digits_dark bytes all; behind = refl }

    total : (h : AsciiGrid) (n : ℕ) → length (decimal h.raster.cols) ≤ 10 → length (decimal h.raster.rows) ≤ 10 → length h.geo.x ≤ 32 → length h.geo.y ≤ 32 → length h.geo.cell ≤ 32 → length (signed_decimal h.geo.nodata) ≤ 11
        → length (spelled (number_words h.geo.nodata h.raster.cols 0 h.raster.pixels)) ≤ n → n ≤ 201326592 → length (canon h) ≤ limit
    total h n a b c d e f last most =
        let w = number_words h.geo.nodata h.raster.cols 0 h.raster.pixels in
        let l6 = one_line Nodata (signed_decimal h.geo.nodata) w n (omega (arith, f)) last in
        let l5 = one_line Cell h.geo.cell (line Nodata (signed_decimal h.geo.nodata) ++ w) (n + 46) e l6 in
        let l4 = one_line (y_key h.geo.y_centre) h.geo.y (line Cell h.geo.cell ++ (line Nodata (signed_decimal h.geo.nodata) ++ w)) (n + 46 + 46) d l5 in
        let l3 = one_line (x_key h.geo.x_centre) h.geo.x (line (y_key h.geo.y_centre) h.geo.y ++ (line Cell h.geo.cell ++ (line Nodata (signed_decimal h.geo.nodata) ++ w))) (n + 46 + 46 + 46) c l4 in
        let l2 = one_line Rows (decimal h.raster.rows) (line (x_key h.geo.x_centre) h.geo.x ++ (line (y_key h.geo.y_centre) h.geo.y ++ (line Cell h.geo.cell ++ (line Nodata (signed_decimal h.geo.nodata) ++ w)))) (n + 46 + 46 + 46 + 46) (omega (arith, b)) l3 in
        let l1 = one_line Cols (decimal h.raster.cols) (line Rows (decimal h.raster.rows) ++ (line (x_key h.geo.x_centre) h.geo.x ++ (line (y_key h.geo.y_centre) h.geo.y ++ (line Cell h.geo.cell ++ (line Nodata (signed_decimal h.geo.nodata) ++ w))))) (n + 46 + 46 + 46 + 46 + 46) (omega (arith, a)) l2 in
        le_trans l1 (omega (arith, most))
