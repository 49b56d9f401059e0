-- Symbols of all depths, by the numbers of their pixels.
use Rattle.std.proofs.Common.{◌≡◌, ◌≢◌, ℕ, suc, ℤ, pos, ◌+ℤ◌, ◌-ℤ◌, ◌+◌, ◌-◌, ◌*◌, ◌%◌, ◌<◌, ◌≤◌, Bool, true, cond, List, [], ◌∷◌, ◌++◌, length, get_or, set, take, drop, map, refl, sym, ap, ◌∙◌, subst, arith, inl, inr, below_more}
use Rattle.std.specs.Prelude.{is_some, None, Some, Option, unwrap_or}
use Rattle.std.proofs.lemmas.Bool.{cases_lt, cases_eq}
use Rattle.std.proofs.lemmas.Int.{ints}
use Rattle.std.proofs.lemmas.List.{get_or-set_same, get_or-set_other, get_or_append_left, get_or-append-add, get_or-map, length-map, map-append, ext_get_or, take-append-drop, get_or-take, get_or-drop, length-take-le, length-drop}
use Rattle.std.proofs.Math.Nat.{mul-le-mul_right}
use Rattle.std.proofs.Math.Path.{transport}
use Rattle.raster_cells.specs.declared.kind.PixelType.{PixelType}
use Rattle.raster_cells.specs.declared.kind.PixelType.TheVariants.{I8, U8}
use Rattle.raster_values.specs.Raster.{Pixels, IsRaster, values_of, valid_count}
use Rattle.raster_values.specs.Block.{SameMask}
use Rattle.raster_values.specs.Flat.{value_in, PutsFrom}
use Rattle.raster_values.proofs.Deep.{AreDeep, raster_deep, values_next}
use Rattle.delta_mode.specs.Symbols.{IsByteType, bias, symbol_of}
use Rattle.delta_mode.specs.Deltas.{is_valid, plain}
use Rattle.delta_mode.specs.inside.Pieces.{rank, mark_at, value_of_place}
use Rattle.delta_mode.specs.inside.Plain.{ArePlaced}
use Rattle.delta_mode.proofs.Marks.{all_marks, same_mark, same_size}
use Rattle.delta_mode.proofs.Numbers.{by_byte, symbol-is}
use Rattle.delta_mode.proofs.Pieces.{rank_below, rank_grows, rank_same, rank_split}
use Rattle.delta_mode.proofs.Sources.{rank_le}
use Rattle.delta_mode.proofs.WholeDepth.{rank_all}

-- ---- one value

pub plain_symbol : (kind : PixelType) (a s : ℕ) (v : ℤ) → IsByteType kind → a ≡ bias kind → s < 256 → v ≡ pos s -ℤ pos a → symbol_of kind v ≡ s
plain_symbol kind a s v byte = by_byte (λ k. a ≡ bias k → s < 256 → v ≡ pos s -ℤ pos a → symbol_of k v ≡ s)
    (λ ea ls ev.
    let e : (v +ℤ pos 128) +ℤ pos (2 * 256) ≡ pos (s + 512) = omega (arith, ints, ea, ev) in
    symbol-is I8 v (s + 512) e ∙ (let f : (s + 512) % 256 ≡ s = omega (arith, ls) in f))
    (λ ea ls ev.
    let e : (v +ℤ pos 0) +ℤ pos (2 * 256) ≡ pos (s + 512) = omega (arith, ints, ea, ev) in
    symbol-is U8 v (s + 512) e ∙ (let f : (s + 512) % 256 ≡ s = omega (arith, ls) in f))
    kind byte

-- one value more is found
pub spread_more : (E : ℤ → ℕ) (mark : ℕ → Bool) (out : List ℤ) (i : ℕ) (v : ℤ) (g : ℕ → ℕ) → i < length out
    → ((k : ℕ) → k < i → mark k ≡ true → E (value_of_place out k) ≡ g k) → (mark i ≡ true → E v ≡ g i)
    → (k : ℕ) → k < i + 1 → mark k ≡ true → E (value_of_place (set out i v) k) ≡ g k
spread_more E mark out i v g room earlier here = below_more (λ k. mark k ≡ true → E (value_of_place (set out i v) k) ≡ g k) i
    (λ k lt on. ap E (let ne : k ≢ i = omega (arith, lt) in get_or-set_other out i k v (pos 0) ne) ∙ earlier k lt on)
    (λ on. ap E (get_or-set_same out i v (pos 0) room) ∙ here on)

-- the symbol of a valid pixel at a depth is there
pub symbol_room : (mark : ℕ → Bool) (i n depth d : ℕ) {at room : ℕ} → at ≡ rank mark i * depth + d → i < n → mark i ≡ true → d < depth → rank mark n * depth ≤ room → at < room
symbol_room mark i n depth d {at} {room} e lt on deep fits =
    let below = rank_below mark i n lt on in
    let up : (rank mark i + 1) * depth ≤ rank mark n * depth = mul-le-mul_right depth (omega (arith, below)) in
    let open_ : (rank mark i + 1) * depth ≡ rank mark i * depth + depth = omega arith in
    omega (arith, e, deep, up, open_, fits)

-- ---- one depth more

pub depth_more : (r s t : Pixels) (marks : List Bool) (values : List ℤ) (place d : ℕ) (g : ℕ → ℕ → ℕ) → SameMask r s → PutsFrom s t place d values → length values ≡ length marks → place + length marks ≤ r.rows * r.cols → d < r.depth
    → ((i : ℕ) → i < length marks → mark_at marks i ≡ is_valid r (place + i))
    → ((i : ℕ) → i < length marks → mark_at marks i ≡ true → symbol_of r.kind (value_of_place values i) ≡ g i d)
    → ((i e : ℕ) → i < length marks → e < d → mark_at marks i ≡ true → symbol_of r.kind (value_in s e (place + i)) ≡ g i e)
    → (i e : ℕ) → i < length marks → e < d + 1 → mark_at marks i ≡ true → symbol_of r.kind (value_in t e (place + i)) ≡ g i e
depth_more r s t marks values place d g same put long within deep is_mark found before i e lt below on = elim (cases_eq e d) [
  | inl is ↦
      let inner : place + i < r.rows * r.cols = omega (arith, lt, within) in
      let yes_ = same_mark r s (place + i) same inner ∙ sym (is_mark i lt) ∙ on in
      ap (λ n. symbol_of r.kind (value_in t n (place + i))) is ∙ ap (symbol_of r.kind) (put.put i (omega (arith, lt, long)) yes_) ∙ found i lt on ∙ ap (g i) (sym is)
  | inr ne ↦
      let inner : place + i < s.rows * s.cols = omega (arith, lt, within, same_size r s same) in
      let deep_s : e < s.depth = subst (λ n. e < n) same.shape.depth (omega (arith, below, deep)) in
      ap (symbol_of r.kind) (put.rest (place + i) e inner deep_s (λ from under is. ne is)) ∙ before i e lt (omega (arith, below, ne)) on
]

pub rest_more : (r s t : Pixels) (values : List ℤ) (place d n : ℕ) → SameMask r s → PutsFrom s t place d values → length values ≡ n
    → ((k e : ℕ) → k < r.rows * r.cols → e < r.depth → (place ≤ k → k < place + n → ⊥) → value_in s e k ≡ value_in r e k)
    → (k e : ℕ) → k < r.rows * r.cols → e < r.depth → (place ≤ k → k < place + n → ⊥) → value_in t e k ≡ value_in r e k
rest_more r s t values place d n same put long before k e lt below other =
    put.rest k e (omega (arith, lt, same_size r s same)) (subst (λ m. e < m) same.shape.depth below) (λ from under is. other from (omega (arith, under, long)))
    ∙ before k e lt below other

-- ---- one piece more

-- the symbols of a piece stand behind those in front of it
pub piece_placed : (kind : PixelType) (depth : ℕ) (valid : ℕ → Bool) (value : ℕ → ℕ → ℤ) (place n : ℕ) (marks : List Bool) (front piece : List ℕ) → ((i : ℕ) → i < n → mark_at marks i ≡ valid (place + i))
    → length front ≡ rank valid place * depth
    → ((i e : ℕ) → i < n → e < depth → mark_at marks i ≡ true → symbol_of kind (value e (place + i)) ≡ get_or piece (rank (mark_at marks) i * depth + e) 0)
    → ArePlaced kind depth valid value place (place + n) (front ++ piece)
piece_placed kind depth valid value place n marks front piece is_mark long each = record {
  each = λ k e from lt deep on.
      let i = k - place in
      let is : place + i ≡ k = omega (arith, from) in
      let below : i < n = omega (arith, from, lt) in
      let split = rank_split valid place i in
      let same : rank (λ j. valid (place + j)) i ≡ rank (mark_at marks) i = rank_same (λ j. valid (place + j)) (mark_at marks) i (λ j less. sym (is_mark j (omega (arith, less, below)))) in
      let ranks : rank valid place + rank (mark_at marks) i ≡ rank valid k = omega (arith, split, same, ap (rank valid) is) in
      let opened : (rank valid place + rank (mark_at marks) i) * depth ≡ rank valid place * depth + rank (mark_at marks) i * depth = omega arith in
      let at : length front + (rank (mark_at marks) i * depth + e) ≡ rank valid k * depth + e = omega (arith, long, opened, ap (λ m. m * depth) ranks) in
      ap (λ m. symbol_of kind (value e m)) (sym is) ∙ each i e below deep (is_mark i below ∙ ap valid is ∙ on)
      ∙ sym (get_or-append-add front piece (rank (mark_at marks) i * depth + e) 0) ∙ ap (λ m. get_or (front ++ piece) m 0) at;
}

-- as many symbols as the piece has, and room for them
pub piece_size : (valid : ℕ → Bool) (place n depth : ℕ) (marks : List Bool) → ((i : ℕ) → i < n → mark_at marks i ≡ valid (place + i))
    → rank valid (place + n) * depth ≡ rank valid place * depth + rank (mark_at marks) n * depth
piece_size valid place n depth marks is_mark =
    let same : rank (λ j. valid (place + j)) n ≡ rank (mark_at marks) n = rank_same (λ j. valid (place + j)) (mark_at marks) n (λ j less. sym (is_mark j less)) in
    let ranks : rank valid (place + n) ≡ rank valid place + rank (mark_at marks) n = omega (arith, rank_split valid place n, same) in
    ap (λ m. m * depth) ranks ∙ (let opened : (rank valid place + rank (mark_at marks) n) * depth ≡ rank valid place * depth + rank (mark_at marks) n * depth = omega arith in opened)

pub rank_room : (mark : ℕ → Bool) (n depth room : ℕ) → n * depth ≤ room → rank mark n * depth ≤ room
rank_room mark n depth room fits = let up : rank mark n * depth ≤ n * depth = mul-le-mul_right depth (rank_le mark n) in omega (arith, up, fits)

-- where each pixel has one symbol and there are as many as pixels, all pixels are valid
pub marks_full : (mark : ℕ → Bool) (n : ℕ) {depth m : ℕ} → depth ≡ 1 → m ≡ rank mark n * depth → m ≡ n → rank mark n ≡ n
marks_full mark n {depth} {m} one count same = let single : rank mark n * depth ≡ rank mark n * 1 = ap (λ k. rank mark n * k) one in omega (arith, single, count, same)

-- ---- all pieces

pub placed_none : (kind : PixelType) (depth : ℕ) (valid : ℕ → Bool) (value : ℕ → ℕ → ℤ) (symbols : List ℕ) → ArePlaced kind depth valid value 0 0 symbols
placed_none kind depth valid value symbols = record { each = λ k e from lt deep on. absurd (omega (arith, lt)) }

-- the values in front of a piece stay, and so do their symbols where others come behind them
pub placed_more : (kind : PixelType) (depth : ℕ) (valid : ℕ → Bool) (old new : ℕ → ℕ → ℤ) (m n : ℕ) (front piece : List ℕ) → length front ≡ rank valid m * depth → ((k e : ℕ) → k < m → e < depth → new e k ≡ old e k)
    → ArePlaced kind depth valid old 0 m front → ArePlaced kind depth valid new m n (front ++ piece) → ArePlaced kind depth valid new 0 n (front ++ piece)
placed_more kind depth valid old new m n front piece long stays a b = record {
  each = λ k e from lt deep on. elim (cases_lt k m) [
    | inl below ↦
        let room : rank valid k * depth + e < length front = symbol_room valid k m depth e refl below on deep (omega (arith, long)) in
        ap (symbol_of kind) (stays k e below deep) ∙ a.each k e from below deep on ∙ sym (get_or_append_left front piece 0 (rank valid k * depth + e) room)
    | inr above ↦ b.each k e above lt deep on
  ];
}

-- in the words of another raster of one mask
pub placed_as : (r s : Pixels) (value : ℕ → ℕ → ℤ) {from to end : ℕ} {symbols : List ℕ} → IsRaster r → IsRaster s → SameMask r s → to ≡ end
    → ArePlaced s.kind s.depth (is_valid s) value from to symbols → ArePlaced r.kind r.depth (is_valid r) value from end symbols
placed_as r s value {from} {to} {end} {symbols} hr hs same e =
    transport (λ i. ArePlaced (sym same.shape.kind i) (sym same.shape.depth i) (all_marks r s hr hs same i) value from (e i) symbols)

-- ---- the whole list

first_rank : (valid : ℕ → Bool) (k : ℕ) → rank valid (suc k) ≡ cond (valid 0) 1 0 + rank (λ j. valid (suc j)) k
first_rank valid k =
    let e : suc k ≡ 1 + k = omega arith in
    ap (rank valid) e ∙ rank_split valid 1 k ∙ ap (λ n. cond (valid 0) 1 0 + n) (rank_same (λ j. valid (1 + j)) (λ j. valid (suc j)) k (λ j lt. ap valid (let f : 1 + j ≡ suc j = omega arith in f)))

mark_of : List (Option (List ℤ)) → ℕ → Bool
mark_of ps k = is_some (get_or ps k None)

at_of : List (Option (List ℤ)) → ℕ → ℕ → ℤ
at_of ps e k = get_or (unwrap_or (get_or ps k None) []) e (pos 0)

all_placed : (kind : PixelType) (depth : ℕ) (ps : List (Option (List ℤ))) (symbols : List ℕ) → AreDeep depth ps → length symbols ≡ rank (mark_of ps) (length ps) * depth
    → ((k e : ℕ) → k < length ps → e < depth → mark_of ps k ≡ true → symbol_of kind (at_of ps e k) ≡ get_or symbols (rank (mark_of ps) k * depth + e) 0)
    → symbols ≡ map (symbol_of kind) (values_of ps)
unfolding mark_of at_of
all_placed kind depth [] [] deep long each = refl
all_placed kind depth [] (s ∷ symbols) deep long each = absurd (omega (arith, long))
all_placed kind depth (None ∷ ps) symbols deep long each =
    let shift : (k : ℕ) → rank (mark_of (None ∷ ps)) (suc k) ≡ rank (mark_of ps) k = λ (k : ℕ). let f = first_rank (mark_of (None ∷ ps)) k in omega (arith, f) in
    all_placed kind depth ps symbols (λ k below. deep (suc k) (omega (arith, below))) (long ∙ ap (λ n. n * depth) (shift (length ps)))
    (λ k e lt below on. each (suc k) e (omega (arith, lt)) below on ∙ ap (λ n. get_or symbols (n * depth + e) 0) (shift k))
    ∙ ap (map (symbol_of kind)) (sym (values_next None ps))
all_placed kind depth (Some values ∷ ps) symbols deep long each =
    let shift : (k : ℕ) → rank (mark_of (Some values ∷ ps)) (suc k) ≡ 1 + rank (mark_of ps) k = λ (k : ℕ). first_rank (mark_of (Some values ∷ ps)) k in
    let wide : length values ≡ depth = deep 0 (omega arith) in
    let sizes : (1 + rank (mark_of ps) (length ps)) * depth ≡ depth + rank (mark_of ps) (length ps) * depth = omega arith in
    let size : length symbols ≡ depth + rank (mark_of ps) (length ps) * depth = long ∙ ap (λ n. n * depth) (shift (length ps)) ∙ sizes in
    let room : depth ≤ length symbols = omega (arith, size) in
    let first : take depth symbols ≡ map (symbol_of kind) values =
    ext_get_or 0 (take depth symbols) (map (symbol_of kind) values) (length-take-le depth symbols room ∙ sym wide ∙ sym (length-map values (symbol_of kind)))
    (λ e lt.
    let below : e < depth = omega (arith, lt, length-take-le depth symbols room) in
    let none : 0 * depth + e ≡ e = omega arith in
    get_or-take depth symbols e 0 below ∙ sym (each 0 e (omega arith) below refl ∙ ap (λ n. get_or symbols n 0) none)
    ∙ sym (get_or-map (symbol_of kind) values e (pos 0) 0 (omega (arith, below, wide)))) in
    let rest : drop depth symbols ≡ map (symbol_of kind) (values_of ps) =
    all_placed kind depth ps (drop depth symbols) (λ k below. deep (suc k) (omega (arith, below))) (let l = length-drop depth symbols in omega (arith, l, size))
    (λ k e lt below on.
    let next : (1 + rank (mark_of ps) k) * depth + e ≡ depth + (rank (mark_of ps) k * depth + e) = omega arith in
    each (suc k) e (omega (arith, lt)) below on ∙ ap (λ n. get_or symbols (n * depth + e) 0) (shift k) ∙ ap (λ n. get_or symbols n 0) next
    ∙ sym (get_or-drop depth symbols (rank (mark_of ps) k * depth + e) 0)) in
    sym (take-append-drop depth symbols) ∙ (λ i. first i ++ rest i) ∙ sym (ap (map (symbol_of kind)) (values_next (Some values) ps) ∙ map-append (symbol_of kind) values (values_of ps))

-- the symbols of all pixels of a raster are its plain ones
pub placed_whole : (r : Pixels) (symbols : List ℕ) → IsRaster r → length symbols ≡ valid_count r * r.depth → ArePlaced r.kind r.depth (is_valid r) (value_in r) 0 (r.rows * r.cols) symbols → symbols ≡ plain r
unfolding mark_of at_of
placed_whole r symbols h long a =
    let count : rank (is_valid r) (length r.pixels) ≡ valid_count r = ap (rank (is_valid r)) h.places ∙ rank_all r h in
    all_placed r.kind r.depth r.pixels symbols (raster_deep r h) (long ∙ ap (λ n. n * r.depth) (sym count))
    (λ k e lt deep on. a.each k e (omega arith) (omega (arith, lt, h.places)) deep on)

-- the symbols up to any pixel are some of all
pub plain_room : (r : Pixels) (m : ℕ) → IsRaster r → m ≤ r.rows * r.cols → rank (is_valid r) m * r.depth ≤ valid_count r * r.depth
plain_room r m h le = let grows = rank_grows (is_valid r) m (r.rows * r.cols) le in mul-le-mul_right r.depth (let few : rank (is_valid r) m ≤ valid_count r = omega (arith, grows, rank_all r h) in few)

-- at the end of the raster they are all
pub plain_count : (r : Pixels) {place : ℕ} → IsRaster r → place ≡ r.rows * r.cols → rank (is_valid r) place * r.depth ≡ valid_count r * r.depth
plain_count r h e = ap (λ m. m * r.depth) (ap (rank (is_valid r)) e ∙ rank_all r h)
