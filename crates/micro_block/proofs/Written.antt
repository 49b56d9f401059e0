-- The written block stands for values that are near the given ones.
use Rattle.std.proofs.Common.{◌≡◌, ℕ, zero, suc, ◌*◌, ◌^◌, ◌<◌, ◌≤◌, ℤ, pos, ◌+ℤ◌, ◌*ℤ◌, ◌≤ℤ◌, Bool, true, false, List, [], ◌∷◌, length, get_or, map, replicate, refl, sym, ap, subst, ◌∙◌, arith}
use Rattle.std.specs.Prelude.{Option, Some, None, All, unsigned_abs, fold, if◌then◌else◌, ◌&&◌, not, nat_eq, nat_lt, nat_le, unwrap_or}
use Rattle.std.specs.Int.{int_min}
use Rattle.std.proofs.lemmas.Int.{ints, clamps}
use Rattle.std.proofs.lemmas.List.{length-map, get_or-map, append-nil}
use Rattle.std.proofs.lemmas.List.Elements.{All-head, All-tail}
use Rattle.std.proofs.lemmas.Simd.{map-map}
use Rattle.std.proofs.lemmas.Bool.{eqb-true, leb-true, ltb-true}
use Rattle.raster_cells.specs.declared.kind.PixelType.{PixelType}
use Rattle.raster_cells.specs.declared.kind.PixelType.TheVariants.{I8, U8, I16, U16, I32, U32}
use Rattle.byteorder.specs.Endian.{little_number}
use Rattle.raster_cells.specs.PixelType.{bytes_of, value_of, InRange, value_bytes}
use Rattle.raster_cells.specs.Values.{values_bytes}
use Rattle.raster_cells.proofs.CellRuns.{value_there}
use Rattle.raster_cells.proofs.Pack.{length-value_bytes, length-values_bytes}
use Rattle.raster_cells.proofs.SpelledBack.{spelled_back}
use Rattle.bit_stuff.specs.Simple as numbers
use Rattle.bit_stuff.proofs.HeadLaws.{simple_bytes-list}
use Rattle.bit_stuff.proofs.Digits.{greatest_above}
use Rattle.micro_block.specs.Fewest.{allowed}
use Rattle.micro_block.specs.Frame.{Frame, AreWritable}
use Rattle.raster_cells.specs.Values.{AreValues}
use Rattle.lut_stuff.specs.Lists as lists
use Rattle.lut_stuff.specs.Tables.{distinct_above_0, table_bytes}
use Rattle.lut_stuff.proofs.Tabled.{distinct_some, table_list}
use Rattle.micro_block.specs.Near.{quantised, stands_for, IsNear}
use Rattle.micro_block.specs.Block.{offset_types, IsTag, IsOffset, IsBlock, raw, stuffed, zero, constant}
use Rattle.micro_block.specs.ChosenBlock as chosen_block
use Rattle.micro_block.specs.ChosenBlock.{least_value, quantised_values, holds, narrowest, narrow_code, narrow_type, offset_bytes, tag_byte, written_form_bytes, is_flat, is_stuffable, forms, May, chosen_form, block_bytes, kept_by, kept, WrittenForm}
use Rattle.micro_block.proofs.Fewest.{At, at_first}
use Rattle.micro_block.proofs.Near.{near, exact, above, below}

-- ---- the least value

fold_min : (a : ℤ) (vs : List ℤ) → (fold int_min a vs ≤ℤ a) × ((i : ℕ) → i < length vs → fold int_min a vs ≤ℤ get_or vs i (pos 0))
fold_min a [] = (omega (arith, ints), λ i h. absurd (omega (arith, h)))
fold_min a (v ∷ vs) = joined (fold_min (int_min a v) vs)
  where
    joined : (fold int_min (int_min a v) vs ≤ℤ int_min a v) × ((i : ℕ) → i < length vs → fold int_min (int_min a v) vs ≤ℤ get_or vs i (pos 0))
        → (fold int_min a (v ∷ vs) ≤ℤ a) × ((i : ℕ) → i < length (v ∷ vs) → fold int_min a (v ∷ vs) ≤ℤ get_or (v ∷ vs) i (pos 0))
    joined r = (let low = r.0 in omega (arith, ints, clamps, low), at)
      where
        at : (i : ℕ) → i < length (v ∷ vs) → fold int_min a (v ∷ vs) ≤ℤ get_or (v ∷ vs) i (pos 0)
        at zero h = let low = r.0 in omega (arith, ints, clamps, low)
        at (suc i) h = r.1 i (omega (arith, h))

pub least_below : (vs : List ℤ) (i : ℕ) → i < length vs → least_value vs ≤ℤ get_or vs i (pos 0)
least_below [] i h = absurd (omega (arith, h))
least_below (v ∷ vs) zero h = (fold_min v vs).0
least_below (v ∷ vs) (suc i) h = (fold_min v vs).1 i (omega (arith, h))

-- it is one of the type
fold_in_range : (kind : PixelType) (a : ℤ) (vs : List ℤ) → InRange kind a → All (InRange kind) vs → InRange kind (fold int_min a vs)
fold_in_range kind a [] h hs = h
fold_in_range kind a (v ∷ vs) h hs =
    let hv = All-head (InRange kind) v vs hs in
    fold_in_range kind (int_min a v) vs (omega (arith, ints, clamps, h, hv), omega (arith, ints, clamps, h, hv)) (All-tail (InRange kind) v vs hs)

pub zero_of : (kind : PixelType) → InRange kind (pos 0)
zero_of I8 = (omega (arith, ints), omega (arith, ints))
zero_of U8 = (omega (arith, ints), omega (arith, ints))
zero_of I16 = (omega (arith, ints), omega (arith, ints))
zero_of U16 = (omega (arith, ints), omega (arith, ints))
zero_of I32 = (omega (arith, ints), omega (arith, ints))
zero_of U32 = (omega (arith, ints), omega (arith, ints))

pub least_in_range : (kind : PixelType) (vs : List ℤ) → All (InRange kind) vs → InRange kind (least_value vs)
least_in_range kind [] hs = zero_of kind
least_in_range kind (v ∷ vs) hs = fold_in_range kind v vs (All-head (InRange kind) v vs hs) (All-tail (InRange kind) v vs hs)

-- ---- the offset

held : (kind : PixelType) (v : ℤ) → holds kind v ≡ true → InRange kind v
held kind v h = (grind (arith, ints), grind (arith, ints))

-- the code names a type that holds the value
abbrev Fit : PixelType → ℤ → ℕ × PixelType → Type 0
Fit kind v named = (named.0 < 4) × ((get_or (offset_types kind) named.0 None ≡ Some named.1) × InRange named.1 v)

pick : (P : ℕ × PixelType → Type 0) (b : Bool) (x y : ℕ × PixelType) → (b ≡ true → P x) → P y → P (if b then x else y)
pick P true x y h k = h refl
pick P false x y h k = k

fit : (kind : PixelType) (v : ℤ) → InRange kind v → Fit kind v (narrowest kind v)
fit I8 v h = (omega arith, (refl, h))
fit U8 v h = (omega arith, (refl, h))
fit I16 v h =
    pick (Fit I16 v) (holds I8 v) (2, I8) (if holds U8 v then (1, U8) else (0, I16)) (λ t. (omega arith, (refl, held I8 v t)))
    (pick (Fit I16 v) (holds U8 v) (1, U8) (0, I16) (λ t. (omega arith, (refl, held U8 v t))) (omega arith, (refl, h)))
fit U16 v h = pick (Fit U16 v) (holds U8 v) (1, U8) (0, U16) (λ t. (omega arith, (refl, held U8 v t))) (omega arith, (refl, h))
fit I32 v h =
    pick (Fit I32 v) (holds U8 v) (3, U8) (if holds I16 v then (2, I16) else (if holds U16 v then (1, U16) else (0, I32))) (λ t. (omega arith, (refl, held U8 v t)))
    (pick (Fit I32 v) (holds I16 v) (2, I16) (if holds U16 v then (1, U16) else (0, I32)) (λ t. (omega arith, (refl, held I16 v t)))
    (pick (Fit I32 v) (holds U16 v) (1, U16) (0, I32) (λ t. (omega arith, (refl, held U16 v t))) (omega arith, (refl, h))))
fit U32 v h =
    pick (Fit U32 v) (holds U8 v) (2, U8) (if holds U16 v then (1, U16) else (0, U32)) (λ t. (omega arith, (refl, held U8 v t)))
    (pick (Fit U32 v) (holds U16 v) (1, U16) (0, U32) (λ t. (omega arith, (refl, held U16 v t))) (omega arith, (refl, h)))

pub offset_stands : (kind : PixelType) (v : ℤ) → InRange kind v → IsOffset kind (narrow_code kind v) (offset_bytes kind v) v
unfolding offset_bytes
offset_stands kind v h =
    let f = fit kind v h in
    record {
      type = narrow_type kind v;
      coded = f.1.0;
      size = length-value_bytes (narrow_type kind v) v;
      spells = sym (spelled_back (narrow_type kind v) v [] f.1.1) ∙ ap (λ bytes. value_of (narrow_type kind v) (little_number (bytes_of (narrow_type kind v)) bytes)) (append-nil (value_bytes (narrow_type kind v) v));
    }

tag_stands : (f : Frame) (form code : ℕ) → form < 4 → code < 4 → IsTag f (tag_byte f.col form code) form code
tag_stands f form code h k = record { form_bits = omega arith; column_bits = omega arith; code_bits = omega arith }

-- ---- the values

pub raw_stands : (kind : PixelType) (vs : List ℤ) → All (InRange kind) vs → AreValues kind (values_bytes kind vs) vs
raw_stands kind vs h = record { size = length-values_bytes kind vs; each = λ i b. sym (value_there kind vs i h b) }

-- ---- the quantised values

pub each_quantised : (step n : ℕ) (values : List ℤ) → numbers.greatest_number (quantised_values step values) < n → (i : ℕ) → i < length values → quantised step (least_value values) (get_or values i (pos 0)) < n
each_quantised step n values h i within =
    let e : get_or (quantised_values step values) i 0 ≡ quantised step (least_value values) (get_or values i (pos 0)) = get_or-map (quantised step (least_value values)) values i (pos 0) 0 within in
    let g = greatest_above (quantised_values step values) i in
    omega (arith, e, g, h)

pub all_quantised : (step n : ℕ) (values : List ℤ) → numbers.greatest_number (quantised_values step values) < n → All (λ q. q < n) (quantised_values step values)
all_quantised step n values h i d within =
    let long : length (quantised_values step values) ≡ length values = length-map values (quantised step (least_value values)) in
    let i_in : i < length values = omega (arith, within, long) in
    let e : get_or (quantised_values step values) i d ≡ quantised step (least_value values) (get_or values i (pos 0)) = get_or-map (quantised step (least_value values)) values i (pos 0) d i_in in
    let b = each_quantised step n values h i i_in in
    omega (arith, e, b)

constant_map : (g : ℤ → ℤ) (w : ℤ) (vs : List ℤ) → ((i : ℕ) → i < length vs → g (get_or vs i (pos 0)) ≡ w) → map g vs ≡ replicate (length vs) w
constant_map g w [] h = refl
constant_map g w (v ∷ vs) h = ap (λ x. x ∷ map g vs) (h zero (omega arith)) ∙ ap (λ xs. w ∷ xs) (constant_map g w vs (λ i b. h (suc i) (omega (arith, b))))

no_step : (step : ℕ) (top m : ℤ) (q : ℕ) → q < 1 → m ≤ℤ top → stands_for step top m q ≡ m
no_step step top m zero h low = ap (λ p. int_min (m +ℤ p) top) nothing ∙ least
  where
    nothing : pos 0 *ℤ pos step ≡ pos 0
    nothing = ap pos (let e : 0 * step ≡ 0 = omega arith in e)

    least : int_min (m +ℤ pos 0) top ≡ m
    least = omega (arith, ints, clamps)
no_step step top m (suc q) h low = absurd (omega (arith, h))

-- where all are within half a step of the least, all stand for the least
flat_kept : (f : Frame) (values : List ℤ) → AreWritable f values → is_flat f.step values ≡ true
    → map (λ v. stands_for f.step f.top (least_value values) (quantised f.step (least_value values) v)) values ≡ replicate f.count (least_value values)
flat_kept f values w flat =
    let g : numbers.greatest_number (quantised_values f.step values) ≡ 0 = eqb-true (numbers.greatest_number (quantised_values f.step values)) 0 flat in
    constant_map (λ v. stands_for f.step f.top (least_value values) (quantised f.step (least_value values) v)) (least_value values) values
    (λ i b. no_step f.step f.top (least_value values) (quantised f.step (least_value values) (get_or values i (pos 0))) (each_quantised f.step 1 values (omega (arith, g)) i b)
    (let low = least_below values i b in let high = w.below i b in omega (arith, ints, low, high)))
    ∙ ap (λ n. replicate n (least_value values)) (sym w.counted)

-- ---- each form stands

pub left : (a b : Bool) → (a && b) ≡ true → a ≡ true
left true b h = refl
left false b h = absurd (cc)

pub right : (a b : Bool) → (a && b) ≡ true → b ≡ true
right true b h = h
right false b h = absurd (cc)

map_same : (vs : List ℤ) → map (λ v. v) vs ≡ vs
map_same [] = refl
map_same (v ∷ vs) = ap (λ xs. v ∷ xs) (map_same vs)

pub some_above_0 : (g : ℕ) → not (nat_eq g 0) ≡ true → 0 < g
some_above_0 zero h = absurd (cc)
some_above_0 (suc g) h = omega arith

no_size : (v : ℤ) → unsigned_abs v ≡ 0 → v ≡ pos 0
no_size v h = omega (arith, ints)

few_quantised : (f : Frame) (values : List ℤ) → AreWritable f values → length (quantised_values f.step values) < 2 ^ 32
few_quantised f values w = let long : length (quantised_values f.step values) ≡ length values = length-map values (quantised f.step (least_value values)) in let few = w.few in omega (arith, long, few)

form_stands : (f : Frame) (values : List ℤ) → AreWritable f values → (form : WrittenForm) → May f.step values form
    → IsBlock f (written_form_bytes f.kind f.col f.step values form) (map (kept_by form f.step f.top (least_value values)) values)
unfolding written_form_bytes
form_stands f values w chosen_block.zero h =
    let m : least_value values ≡ pos 0 = no_size (least_value values) (eqb-true (unsigned_abs (least_value values)) 0 (right (is_flat f.step values) (nat_eq (unsigned_abs (least_value values)) 0) h)) in
    zero (tag_byte f.col 2 0) 0 refl (tag_stands f 2 0 (omega arith) (omega arith)) (flat_kept f values w (left (is_flat f.step values) (nat_eq (unsigned_abs (least_value values)) 0) h) ∙ ap (replicate f.count) m)
form_stands f values w chosen_block.constant h =
    let c = least_in_range f.kind values w.in_range in
    constant (tag_byte f.col 3 (narrow_code f.kind (least_value values))) (narrow_code f.kind (least_value values)) (offset_bytes f.kind (least_value values)) (least_value values) refl
    (tag_stands f 3 (narrow_code f.kind (least_value values)) (omega arith) (fit f.kind (least_value values) c).0) (offset_stands f.kind (least_value values) c)
    (flat_kept f values w (left (is_flat f.step values) (nat_lt 0 (length values)) h))
form_stands f values w chosen_block.raw h =
    let same : map (λ v. v) values ≡ values = map_same values in
    let long : length (map (λ v. v) values) ≡ length values = length-map values (λ v. v) in
    raw (tag_byte f.col 0 0) 0 (values_bytes f.kind values) refl (tag_stands f 0 0 (omega arith) (omega arith)) (long ∙ sym w.counted) (subst (λ (vs : List ℤ). AreValues f.kind (values_bytes f.kind values) vs) (sym same) (raw_stands f.kind values w.in_range))
form_stands f values w chosen_block.simple h =
    let c = least_in_range f.kind values w.in_range in
    let m = least_value values in
    let small : numbers.greatest_number (quantised_values f.step values) < 2 ^ 30 = ltb-true (numbers.greatest_number (quantised_values f.step values)) (2 ^ 30) (right (not (is_flat f.step values)) (is_stuffable f.step values) h) in
    stuffed (tag_byte f.col 1 (narrow_code f.kind m)) (narrow_code f.kind m) (offset_bytes f.kind m) (numbers.simple_bytes (quantised_values f.step values)) m (quantised_values f.step values) refl
    (tag_stands f 1 (narrow_code f.kind m) (omega arith) (fit f.kind m c).0) (offset_stands f.kind m c)
    (length-map values (quantised f.step m) ∙ sym w.counted) (lists.simple (simple_bytes-list (quantised_values f.step values) (few_quantised f values w) (all_quantised f.step (2 ^ 31) values (omega (arith, small)))))
    (sym (map-map (stands_for f.step f.top m) (quantised f.step m) values))
form_stands f values w chosen_block.table h =
    let c = least_in_range f.kind values w.in_range in
    let m = least_value values in
    let parts = right (not (is_flat f.step values)) (is_stuffable f.step values && nat_le (distinct_above_0 (quantised_values f.step values)) 254) h in
    let small : numbers.greatest_number (quantised_values f.step values) < 2 ^ 30 = ltb-true (numbers.greatest_number (quantised_values f.step values)) (2 ^ 30) (left (is_stuffable f.step values) (nat_le (distinct_above_0 (quantised_values f.step values)) 254) parts) in
    let different : distinct_above_0 (quantised_values f.step values) ≤ 254 = leb-true (distinct_above_0 (quantised_values f.step values)) 254 (right (is_stuffable f.step values) (nat_le (distinct_above_0 (quantised_values f.step values)) 254) parts) in
    let long : length (quantised_values f.step values) ≡ length values = length-map values (quantised f.step m) in
    let few = w.few in
    stuffed (tag_byte f.col 1 (narrow_code f.kind m)) (narrow_code f.kind m) (offset_bytes f.kind m) (table_bytes (quantised_values f.step values)) m (quantised_values f.step values) refl
    (tag_stands f 1 (narrow_code f.kind m) (omega arith) (fit f.kind m c).0) (offset_stands f.kind m c)
    (length-map values (quantised f.step m) ∙ sym w.counted)
    (table_list (quantised_values f.step values) (omega (arith, long, few)) (all_quantised f.step (2 ^ 31) values (omega (arith, small))) (distinct_some (quantised_values f.step values) (some_above_0 (numbers.greatest_number (quantised_values f.step values)) (left (not (is_flat f.step values)) (is_stuffable f.step values && nat_le (distinct_above_0 (quantised_values f.step values)) 254) h))) (omega (arith, different)))
    (sym (map-map (stands_for f.step f.top m) (quantised f.step m) values))

-- ---- the chosen form is one that may be

pub allowed_some : {A : Type 0} (b : Bool) (x y : A) → allowed b x ≡ Some y → (b ≡ true) × (x ≡ y)
allowed_some true x y e = (refl, (let same : x ≡ y = cc in same))
allowed_some false x y e = absurd (cc)

pub some_same : {A : Type 0} (x y : A) → Some x ≡ Some y → x ≡ y
some_same x y e = cc

pub may_be : (step : ℕ) (values : List ℤ) (form : WrittenForm) (i : ℕ) → get_or (forms step values) i None ≡ Some form → May step values form
may_be step values form zero e = let a = allowed_some _ chosen_block.zero form e in subst (May step values) a.1 a.0
may_be step values form (suc zero) e = let a = allowed_some _ chosen_block.constant form e in subst (May step values) a.1 a.0
may_be step values form (suc (suc zero)) e = subst (May step values) (some_same chosen_block.raw form e) tt
may_be step values form (suc (suc (suc zero))) e = let a = allowed_some _ chosen_block.simple form e in subst (May step values) a.1 a.0
may_be step values form (suc (suc (suc (suc zero)))) e = let a = allowed_some _ chosen_block.table form e in subst (May step values) a.1 a.0
may_be step values form (suc (suc (suc (suc (suc i))))) e = absurd (cc)

may_taken : (step : ℕ) (values : List ℤ) (taken : Option WrittenForm) → At (forms step values) taken → May step values (unwrap_or taken chosen_block.raw)
may_taken step values None h = tt
may_taken step values (Some form) h = may_be step values form h.0 h.1

pub chosen_may : (kind : PixelType) (col step : ℕ) (values : List ℤ) → May step values (chosen_form kind col step values)
unfolding chosen_form
chosen_may kind col step values = may_taken step values _ (at_first (λ form. length (written_form_bytes kind col step values form)) (forms step values))

-- ---- the written block

-- the written block stands for what is kept of the values
pub written_stands : (f : Frame) (values : List ℤ) → AreWritable f values
    → IsBlock f (block_bytes f.kind f.col f.step values) (map (kept f.kind f.col f.step f.top values) values)
unfolding block_bytes kept
written_stands f values w = form_stands f values w (chosen_form f.kind f.col f.step values) (chosen_may f.kind f.col f.step values)

pub nothing_off : (step : ℕ) (v : ℤ) → IsNear step v v
nothing_off step v = omega (arith, ints)

near_by : (form : WrittenForm) (step : ℕ) (v m top : ℤ) → 0 < step → m ≤ℤ v → v ≤ℤ top → IsNear step v (kept_by form step top m v)
near_by chosen_block.raw step v m top some low high = nothing_off step v
near_by chosen_block.zero step v m top some low high = near step v m top some low high
near_by chosen_block.constant step v m top some low high = near step v m top some low high
near_by chosen_block.simple step v m top some low high = near step v m top some low high
near_by chosen_block.table step v m top some low high = near step v m top some low high

-- what is kept of a value is within half a step of it
pub kept_near : (f : Frame) (values : List ℤ) → AreWritable f values → (i : ℕ) → i < length values
    → IsNear f.step (get_or values i (pos 0)) (kept f.kind f.col f.step f.top values (get_or values i (pos 0)))
unfolding kept
kept_near f values w i within = near_by (chosen_form f.kind f.col f.step values) f.step (get_or values i (pos 0)) (least_value values) f.top w.step (least_below values i within) (w.below i within)

between_by : (form : WrittenForm) (step : ℕ) (v m top : ℤ) → m ≤ℤ v → v ≤ℤ top → (m ≤ℤ kept_by form step top m v) × (kept_by form step top m v ≤ℤ top)
between_by chosen_block.raw step v m top low high = (low, high)
between_by chosen_block.zero step v m top low high = (above step m top (quantised step m v) (omega (arith, ints)), below step m top (quantised step m v))
between_by chosen_block.constant step v m top low high = (above step m top (quantised step m v) (omega (arith, ints)), below step m top (quantised step m v))
between_by chosen_block.simple step v m top low high = (above step m top (quantised step m v) (omega (arith, ints)), below step m top (quantised step m v))
between_by chosen_block.table step v m top low high = (above step m top (quantised step m v) (omega (arith, ints)), below step m top (quantised step m v))

-- it is from the least value of the block up to the top, so in the type's range where the top is
pub kept_between : (f : Frame) (values : List ℤ) → AreWritable f values → (i : ℕ) → i < length values
    → (least_value values ≤ℤ kept f.kind f.col f.step f.top values (get_or values i (pos 0))) × (kept f.kind f.col f.step f.top values (get_or values i (pos 0)) ≤ℤ f.top)
unfolding kept
kept_between f values w i within = between_by (chosen_form f.kind f.col f.step values) f.step (get_or values i (pos 0)) (least_value values) f.top (least_below values i within) (w.below i within)

-- at step 1 it is the value itself
each_same : (g : ℤ → ℤ) (vs : List ℤ) → ((i : ℕ) → i < length vs → g (get_or vs i (pos 0)) ≡ get_or vs i (pos 0)) → map g vs ≡ vs
each_same g [] h = refl
each_same g (v ∷ vs) h = λ i. h zero (omega arith) i ∷ each_same g vs (λ k lt. h (suc k) (omega (arith, lt))) i

near_same : (step : ℕ) (v w : ℤ) → step ≡ 1 → IsNear step v w → w ≡ v
near_same step v w one h = exact v w (subst (λ (n : ℕ). IsNear n v w) one h)

pub kept_exact : (f : Frame) (values : List ℤ) → AreWritable f values → f.step ≡ 1 → map (kept f.kind f.col f.step f.top values) values ≡ values
kept_exact f values w one =
    each_same (kept f.kind f.col f.step f.top values) values
    (λ i within. near_same f.step (get_or values i (pos 0)) (kept f.kind f.col f.step f.top values (get_or values i (pos 0))) one (kept_near f values w i within))
