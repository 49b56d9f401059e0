-- The symbols of a raster in code words stand for this raster.
use Rattle.std.proofs.Common.{◌≡◌, ℕ, zero, suc, ◌+◌, ◌*◌, ◌<◌, ◌≤◌, true, List, [], ◌∷◌, ◌++◌, length, get_or, take, drop, refl, sym, ap, ◌∙◌, arith, inl, inr}
use Rattle.std.specs.Prelude.{All, nat_eq, ◌&&◌, ◌⊎◌}
use Rattle.std.specs.List.{flat_map, range_with_len}
use Rattle.std.proofs.lemmas.Bool.{cases_lt, and_parts, eqb-true}
use Rattle.std.proofs.lemmas.List.{take_at, drop_at, drop-drop, get_or_past}
use Rattle.std.proofs.lemmas.List.FromFn.{length-range_with_len}
use Rattle.first_fault.specs.Parts.{AreBytes}
use Rattle.raster_values.specs.Raster.{Pixels, IsRaster, valid_count}
use Rattle.raster_cells.specs.PixelType.{bytes_of}
use Rattle.lerc_header.specs.declared.header.Version.{Version}
use Rattle.lerc_header.specs.declared.header.Version.TheVariants.{V3, V4}
use Rattle.delta_mode.specs.Deltas.{deltas, plain as plain_symbols}
use Rattle.delta_mode.proofs.Existence.{deltas_low, plain_low}
use Rattle.lerc_grammar.specs.Image.{HasMode, IsCoded}
use Rattle.lerc_grammar.specs.Image as grammar
use Rattle.lerc_encode.specs.Codings.{coding_bytes, have_codes}
use Rattle.lerc_encode.specs.Heads.{header_of}
use Rattle.lerc_encode.specs.inside.Fronts.{front_of}
use Rattle.lerc_encode.specs.Images.{all_deltas, has_mode, is_v4, may_be_delta, may_be_plain}
use Rattle.lerc_encode.proofs.Kept.{length_flat}
use Rattle.lerc_encode.proofs.TableBytes.{coding_stands}
use Rattle.lerc_encode.proofs.WordBytes.{both_bytes}

-- ---- the symbols of all depths

-- of joined lists of one length the one with number d
piece_at : (f : ℕ → List ℕ) (w a n d : ℕ) → ((k : ℕ) → length (f k) ≡ w) → d < n → take w (drop (d * w) (flat_map f (range_with_len a n))) ≡ f (a + d)
piece_at f w a zero d long lt = absurd (omega (arith, lt))
piece_at f w a (suc n) zero long lt =
    let rest = flat_map f (range_with_len (a + 1) n) in
    let none : 0 * w ≡ 0 = omega arith in
    let same : a ≡ a + 0 = omega arith in
    ap (λ k. take w (drop k (f a ++ rest))) none ∙ take_at (f a) rest w (long a) ∙ ap f same
piece_at f w a (suc n) (suc d) long lt =
    let rest = flat_map f (range_with_len (a + 1) n) in
    let more : suc d * w ≡ w + d * w = omega arith in
    let same : a + 1 + d ≡ a + suc d = omega arith in
    ap (λ k. take w (drop k (f a ++ rest))) more ∙ ap (take w) (sym (drop-drop (d * w) w (f a ++ rest)))
    ∙ ap (λ (u : List ℕ). take w (drop (d * w) u)) (drop_at (f a) rest w (long a))
    ∙ piece_at f w (a + 1) n d long (omega (arith, lt)) ∙ ap f same

pub bytes_from : (xs : List ℕ) → All (λ x. x < 256) xs → AreBytes xs
bytes_from xs low i = by (cases_lt i (length xs))
  where
    by : (i < length xs) ⊎ (length xs ≤ i) → get_or xs i 0 < 256
    by (inl lt) = low i 0 lt
    by (inr past) = let none = get_or_past xs i 0 past in omega (arith, none)

bytes_joined : (f : ℕ → List ℕ) (ks : List ℕ) → ((k : ℕ) → AreBytes (f k)) → AreBytes (flat_map f ks)
bytes_joined f [] each i = omega arith
bytes_joined f (k ∷ ks) each i = both_bytes (f k) (flat_map f ks) (each k) (bytes_joined f ks each) i

pub deltas_long : (r : Pixels) → IsRaster r → (d : ℕ) → length (deltas r d) ≡ valid_count r
deltas_long r is d = (deltas_low r d (deltas r d) is refl).0

pub all_long : (r : Pixels) → IsRaster r → length (all_deltas r) ≡ valid_count r * r.depth
unfolding all_deltas
all_long r is =
    let long = length_flat (deltas r) (valid_count r) (range_with_len 0 r.depth) (deltas_long r is) in
    let depths = length-range_with_len 0 r.depth in
    let turned : r.depth * valid_count r ≡ valid_count r * r.depth = omega arith in
    long ∙ ap (λ n. n * valid_count r) depths ∙ turned

pub all_bytes : (r : Pixels) → IsRaster r → AreBytes (all_deltas r)
unfolding all_deltas
all_bytes r is = bytes_joined (deltas r) (range_with_len 0 r.depth) (λ d. bytes_from (deltas r d) (deltas_low r d (deltas r d) is refl).1)

depth_piece : (r : Pixels) → IsRaster r → (d : ℕ) → d < r.depth → take (valid_count r) (drop (d * valid_count r) (all_deltas r)) ≡ deltas r d
unfolding all_deltas
depth_piece r is d lt = piece_at (deltas r) (valid_count r) 0 r.depth d (deltas_long r is) lt ∙ (let same : 0 + d ≡ d = omega arith in ap (deltas r) same)

-- ---- both forms

mode_there : (r : Pixels) (version : Version) (step size sum : ℕ) → has_mode r step ≡ true → HasMode (header_of r version step 8 size sum)
unfolding header_of
mode_there r version step size sum h =
    let both = and_parts (nat_eq (bytes_of r.kind) 1) (nat_eq step 1) h in
    (eqb-true (bytes_of r.kind) 1 both.0, eqb-true step 1 both.1)

pub delta_form : (r : Pixels) → IsRaster r → (version : Version) (step size sum : ℕ) → may_be_delta r step ≡ true
    → IsCoded (header_of r version step 8 size sum) (front_of r version) (0 ∷ 1 ∷ coding_bytes (all_deltas r)) r
unfolding header_of
delta_form r is version step size sum h =
    let both = and_parts (has_mode r step) (have_codes (all_deltas r)) h in
    grammar.delta (coding_bytes (all_deltas r)) (all_deltas r) refl (mode_there r version step size sum both.0)
    (coding_stands (valid_count r * r.depth) (all_deltas r) (all_long r is) (all_bytes r is) both.1) (λ d lt. depth_piece r is d lt)

version_4 : (version : Version) → is_v4 version ≡ true → version ≡ V4
version_4 V3 h = absurd (cc)
version_4 V4 h = refl

pub plain_form : (r : Pixels) → IsRaster r → (version : Version) (step size sum : ℕ) → may_be_plain r version step ≡ true
    → IsCoded (header_of r version step 8 size sum) (front_of r version) (0 ∷ 2 ∷ coding_bytes (plain_symbols r)) r
unfolding header_of
plain_form r is version step size sum h =
    let both = and_parts (has_mode r step && is_v4 version) (have_codes (plain_symbols r)) h in
    let mode = and_parts (has_mode r step) (is_v4 version) both.0 in
    let are = plain_low r (plain_symbols r) is refl in
    grammar.plain (coding_bytes (plain_symbols r)) (plain_symbols r) refl (mode_there r version step size sum mode.0) (version_4 version mode.1)
    (coding_stands (valid_count r * r.depth) (plain_symbols r) are.0 (bytes_from (plain_symbols r) are.1) both.1) refl
