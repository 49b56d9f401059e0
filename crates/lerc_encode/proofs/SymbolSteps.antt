-- Symbols as they are measured and written.
use Rattle.std.proofs.Common.{◌≡◌, ℕ, ℤ, pos, negsuc, suc, ◌+◌, ◌-◌, ◌*◌, ◌%◌, ◌^◌, ◌<◌, ◌≤◌, Bool, true, false, List, [], ◌∷◌, ◌++◌, length, get_or, map, replicate, refl, sym, ap, ◌∙◌, subst, arith, Option, Some, None}
use Rattle.std.specs.Int.{int_rem_euclid}
use Rattle.std.specs.Prelude.{◌+ℤ◌, unsigned_abs, All, set, is_some, unwrap_or, ◌&&◌, MatchOption}
use Rattle.std.specs.List.{flat_map}
use Rattle.std.proofs.lemmas.Int.{ints}
use Rattle.std.proofs.lemmas.List.{get_or-map, get_or-replicate}
use Rattle.std.proofs.lemmas.List.Concat.{flat_map-cons}
use Rattle.std.proofs.lemmas.List.Elements.{All-head, All-tail}
use borrow.Rule.Slice.PartMut.{put_mid}
use Rattle.bit_stuff.proofs.Buffers.{end_written}
use Rattle.raster_cells.specs.declared.kind.PixelType.{PixelType}
use Rattle.raster_cells.specs.declared.kind.PixelType.TheVariants.{U8}
use Rattle.raster_cells.specs.PixelType.{InRange, bytes_of, value_bytes, complement_of}
use Rattle.raster_cells.specs.Values.{values_bytes}
use Rattle.raster_values.specs.Raster.{Pixels, IsRaster, valid_count, values_of}
use Rattle.raster_values.specs.Flat.{all_values, marks_of}
use Rattle.delta_mode.specs.Symbols.{symbol_of}
use Rattle.delta_mode.specs.Deltas.{plain}
use Rattle.lerc_encode.specs.Codings.{have_codes}
use Rattle.lerc_encode.specs.inside.Coded.{AreSymbols, AreThere, IsCodingOf, IsLying}
use Rattle.lerc_encode.specs.declared.code_words.codings.Coding.{Coding}
use Rattle.lerc_encode.proofs.Extremes.{all_of, values_in_range}
use Rattle.lerc_encode.proofs.Packing.{all_on, count_marks, long_marks}

-- ---- what is written

-- behind a sweep byte and a mode byte
pub behind_mode : (mode : ℕ) (out new all : List ℕ) → 2 ≤ length out → new ≡ all → put_mid 2 (length (set (set out 0 0) 1 mode) - 2) (set (set out 0 0) 1 mode) new ≡ 0 ∷ mode ∷ all
behind_mode mode [] new all some e = absurd (omega (arith, some))
behind_mode mode (x ∷ []) new all some e = absurd (omega (arith, some))
behind_mode mode (x ∷ y ∷ zs) new all some e =
    end_written (0 ∷ mode ∷ []) zs new 2 (length (0 ∷ mode ∷ zs) - 2) refl (omega arith) ∙ ap (λ (u : List ℕ). 0 ∷ mode ∷ u) e

-- symbols that are wanted and have codes are there with their coding
pub symbols_there : (wanted : Bool) (symbols : List ℕ) (coding : Option Coding) → AreSymbols wanted symbols coding → (wanted && have_codes symbols) ≡ true → AreThere symbols coding
symbols_there wanted symbols None h may = absurd (let e : true ≡ false = sym may ∙ h in cc)
symbols_there wanted symbols (Some c) h may = h.coding_is

-- the coding of symbols that are wanted
pub wanted_symbols : (wanted : Bool) (symbols : List ℕ) (coding : Option Coding) → wanted ≡ true → MatchOption coding (have_codes symbols ≡ false) (IsCodingOf symbols) → AreSymbols wanted symbols coding
wanted_symbols wanted symbols None on h = λ t. on t && h t
wanted_symbols wanted symbols (Some c) on h = record { holds = λ t. on t && h.has t; coding_is = h }

pub unwanted_symbols : (wanted : Bool) (symbols : List ℕ) → wanted ≡ false → AreSymbols wanted symbols None
unwanted_symbols wanted symbols off = ap (λ b. b && have_codes symbols) off

-- ---- symbols that lie in the raster

-- the values of pixels that are all valid are all values
all_there : (depth : ℕ) (ps : List (Option (List ℤ))) → ((k : ℕ) → k < length ps → is_some (get_or ps k None) ≡ true) → flat_map (λ p. unwrap_or p (replicate depth (pos 0))) ps ≡ values_of ps
all_there depth [] on = refl
all_there depth (None ∷ ps) on = absurd (let e = on 0 (omega arith) in cc)
all_there depth (Some vs ∷ ps) on = ap (λ (rest : List ℤ). vs ++ rest) (all_there depth ps (λ k low. on (suc k) (omega (arith, low))))

each_valid : (r : Pixels) → IsRaster r → valid_count r ≡ r.rows * r.cols → (k : ℕ) → k < length r.pixels → is_some (get_or r.pixels k None) ≡ true
each_valid r is full k lt =
    let long = long_marks r is in
    let all : marks_of r ≡ replicate (length (marks_of r)) true = all_on (marks_of r) (sym (count_marks r) ∙ full ∙ sym long) in
    let places = is.places in
    sym (get_or-map is_some r.pixels k None false lt) ∙ ap (λ (m : List Bool). get_or m k false) all ∙ get_or-replicate (length (marks_of r)) k true false (omega (arith, lt, long, places))

u8_symbol : (v : ℤ) → InRange U8 v → complement_of 1 v % 256 ≡ symbol_of U8 v
unfolding symbol_of
u8_symbol (pos m) h = ap (λ (z : ℤ). unsigned_abs (int_rem_euclid z (pos 256))) (let e : pos m ≡ pos m +ℤ pos 0 = omega (arith, ints) in e)
u8_symbol (negsuc m) h = absurd (omega (arith, ints, h.0))

u8_byte : (v : ℤ) → value_bytes U8 v ≡ complement_of 1 v % 256 ∷ []
u8_byte v = refl

u8_symbols : (vs : List ℤ) → All (InRange U8) vs → values_bytes U8 vs ≡ map (symbol_of U8) vs
u8_symbols [] h = refl
u8_symbols (v ∷ vs) h =
    flat_map-cons (value_bytes U8) v vs ∙ ap (λ (bs : List ℕ). bs ++ values_bytes U8 vs) (u8_byte v)
    ∙ (λ i. u8_symbol v (All-head (InRange U8) v vs h) i ∷ u8_symbols vs (All-tail (InRange U8) v vs h) i)

pub lying_are : (r : Pixels) → IsRaster r → IsLying r → values_bytes r.kind (all_values r) ≡ plain r
unfolding all_values
lying_are r is lie =
    let fits = all_of (InRange r.kind) (values_of r.pixels) (values_in_range r is) in
    ap (values_bytes r.kind) (all_there r.depth r.pixels (each_valid r is lie.full))
    ∙ subst (λ (t : PixelType). All (InRange t) (values_of r.pixels) → values_bytes t (values_of r.pixels) ≡ map (symbol_of t) (values_of r.pixels)) (sym lie.kind) (u8_symbols (values_of r.pixels)) fits

pub lying_few : (r : Pixels) → IsRaster r → IsLying r → (n : ℕ) → n ≡ r.rows * r.cols * r.depth * bytes_of r.kind → n ≤ 2 ^ 24
lying_few r is lie n e =
    let one : bytes_of r.kind ≡ 1 = ap bytes_of lie.kind in
    let all : n ≡ r.rows * r.cols * r.depth * 1 = e ∙ ap (λ b. r.rows * r.cols * r.depth * b) one in
    let most = is.shape.size in
    omega (arith, all, most)
