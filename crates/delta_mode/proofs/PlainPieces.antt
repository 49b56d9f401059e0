-- The plain symbols piece by piece.
use Rattle.std.proofs.Common.{◌≡◌, ◌≢◌, ℕ, zero, suc, ℤ, pos, ◌+◌, ◌-◌, ◌*◌, ◌%◌, ◌<◌, ◌≤◌, true, false, List, [], ◌∷◌, ◌++◌, length, get_or, take, drop, map, refl, sym, ap, ◌∙◌, subst, arith, inl, inr, Option, Some, None}
use Rattle.std.specs.Prelude.{is_some, unwrap_or, IfSome}
use Rattle.std.proofs.lemmas.Bool.{cases_Bool}
use Rattle.std.proofs.lemmas.Grind.{flat_map-append}
use Rattle.std.proofs.lemmas.List.{append-nil, append_assoc, ext_get_or, get_or-drop, get_or-map, get_or-take, length-append, length-drop, length-map, length-take-le, map-append, take-append-drop, take_all, take_at, take_more}
use Rattle.std.proofs.lemmas.List.Concat.{flat_map-cons}
use Rattle.std.proofs.Math.Seq.{take-add}
use Rattle.std.proofs.Math.Nat.{mod-eq_of_lt, mul-add-mod_self_right, mul-le-mul_right}
use Rattle.raster_values.specs.Raster.{Pixels, IsRaster, valid_count, values_of}
use Rattle.raster_values.specs.Flat.{value_in}
use Rattle.raster_values.proofs.Deep.{raster_deep}
use Rattle.delta_mode.specs.Symbols.{symbol_of}
use Rattle.delta_mode.specs.Deltas.{is_valid, plain}
use Rattle.delta_mode.specs.PlainStates.{IsOnPlain, plain_before}
use Rattle.delta_mode.specs.declared.giving_plain.PlainState.{PlainState}
use Rattle.delta_mode.specs.inside.Pieces.{rank}
use Rattle.delta_mode.proofs.Pieces.{rank_below, rank_grows, rank_off, rank_on}
use Rattle.delta_mode.proofs.WholeDepth.{rank_all}

-- ---- one pixel more

pub plain_more : (r : Pixels) (k : ℕ) → k < length r.pixels → plain_before r (k + 1) ≡ plain_before r k ++ map (symbol_of r.kind) (unwrap_or (get_or r.pixels k None) [])
plain_more r k lt =
    let s = symbol_of r.kind in
    let p = get_or r.pixels k None in
    ap (λ (ps : List (Option (List ℤ))). map s (values_of ps)) (take_more r.pixels k None lt)
    ∙ ap (map s) (flat_map-append (λ (q : Option (List ℤ)). unwrap_or q []) (take k r.pixels) (p ∷ []) ∙ ap (λ (vs : List ℤ). values_of (take k r.pixels) ++ vs) (flat_map-cons (λ (q : Option (List ℤ)). unwrap_or q []) p [] ∙ append-nil (unwrap_or p [])))
    ∙ map-append s (values_of (take k r.pixels)) (unwrap_or p [])

pub pixel_long : (r : Pixels) → IsRaster r → (k : ℕ) → k < length r.pixels → is_valid r k ≡ true → length (unwrap_or (get_or r.pixels k None) []) ≡ r.depth
pixel_long r sound k lt on = by (get_or r.pixels k None) refl
  where
    by : (p : Option (List ℤ)) → get_or r.pixels k None ≡ p → length (unwrap_or (get_or r.pixels k None) []) ≡ r.depth
    by None e = absurd (let off : false ≡ true = sym (ap is_some e) ∙ on in cc)
    by (Some vs) e = ap (λ (q : Option (List ℤ)). length (unwrap_or q [])) e ∙ deep vs e
      where
        deep : (vs : List ℤ) → get_or r.pixels k None ≡ Some vs → length vs ≡ r.depth
        deep vs e = subst (λ (q : Option (List ℤ)). IfSome q (λ values. length values ≡ r.depth)) e (raster_deep r sound k lt)

pixel_none : (r : Pixels) (k : ℕ) → is_valid r k ≡ false → unwrap_or (get_or r.pixels k None) [] ≡ []
pixel_none r k off = by (get_or r.pixels k None) refl
  where
    by : (p : Option (List ℤ)) → get_or r.pixels k None ≡ p → unwrap_or (get_or r.pixels k None) [] ≡ []
    by None e = ap (λ (q : Option (List ℤ)). unwrap_or q []) e
    by (Some vs) e = absurd (let on : true ≡ false = sym (ap is_some e) ∙ off in cc)

-- as many symbols as valid pixels, times the depth
pub length-before : (r : Pixels) → IsRaster r → (k : ℕ) → k ≤ length r.pixels → length (plain_before r k) ≡ rank (is_valid r) k * r.depth
length-before r sound zero le = let e : 0 ≡ 0 * r.depth = omega arith in e
length-before r sound (suc k) le =
    let one : suc k ≡ k + 1 = omega arith in
    let lt : k < length r.pixels = omega (arith, le) in
    let vs = unwrap_or (get_or r.pixels k None) [] in
    let before = length-before r sound k (omega (arith, le)) in
    let more = ap (λ n. length (plain_before r n)) one ∙ ap length (plain_more r k lt) ∙ length-append (plain_before r k) (map (symbol_of r.kind) vs) in
    let long = length-map vs (symbol_of r.kind) in
    elim (cases_Bool (is_valid r k)) as (λ _. length (plain_before r (suc k)) ≡ rank (is_valid r) (suc k) * r.depth) [
      | inl on ↦
          let ranks = ap (rank (is_valid r)) one ∙ rank_on (is_valid r) k on in
          let deep = pixel_long r sound k lt on in
          let open_ : (rank (is_valid r) k + 1) * r.depth ≡ rank (is_valid r) k * r.depth + r.depth = omega arith in
          let sum : length (plain_before r (suc k)) ≡ (rank (is_valid r) k + 1) * r.depth = omega (arith, more, long, before, deep, open_) in
          sum ∙ ap (λ n. n * r.depth) (sym ranks)
      | inr off ↦
          let ranks = ap (rank (is_valid r)) one ∙ rank_off (is_valid r) k off in
          let none = ap length (pixel_none r k off) in
          let sum : length (plain_before r (suc k)) ≡ rank (is_valid r) k * r.depth = omega (arith, more, long, before, none) in
          sum ∙ ap (λ n. n * r.depth) (sym ranks)
    ]

-- the first symbols are those of the first pixels
pub plain_first : (r : Pixels) → IsRaster r → (k : ℕ) → k ≤ r.rows * r.cols → take (rank (is_valid r) k * r.depth) (plain r) ≡ plain_before r k
plain_first r sound k le =
    let places = sound.places in
    let s = symbol_of r.kind in
    let rest = map s (values_of (drop k r.pixels)) in
    let all : plain r ≡ plain_before r k ++ rest =
    ap (λ (ps : List (Option (List ℤ))). map s (values_of ps)) (sym (take-append-drop k r.pixels))
    ∙ ap (map s) (flat_map-append (λ (q : Option (List ℤ)). unwrap_or q []) (take k r.pixels) (drop k r.pixels)) ∙ map-append s (values_of (take k r.pixels)) (values_of (drop k r.pixels)) in
    let long = length-before r sound k (omega (arith, le, places)) in
    ap (take (rank (is_valid r) k * r.depth)) all ∙ take_at (plain_before r k) rest (rank (is_valid r) k * r.depth) long

-- ---- a piece

-- the symbols of a pixel, one by one
one_pixel : (r : Pixels) → IsRaster r → (k at : ℕ) (out : List ℕ) → k < length r.pixels → is_valid r k ≡ true → at + r.depth ≤ length out
    → ((e : ℕ) → e < r.depth → get_or out (at + e) 0 ≡ symbol_of r.kind (value_in r e k)) → map (symbol_of r.kind) (unwrap_or (get_or r.pixels k None) []) ≡ take r.depth (drop at out)
one_pixel r sound k at out lt on room each =
    let vs = unwrap_or (get_or r.pixels k None) [] in
    let s = symbol_of r.kind in
    let deep = pixel_long r sound k lt on in
    let long = length-map vs s in
    let rest = length-drop at out in
    let part : length (take r.depth (drop at out)) ≡ r.depth = length-take-le r.depth (drop at out) (omega (arith, rest, room)) in
    ext_get_or 0 (map s vs) (take r.depth (drop at out)) (long ∙ deep ∙ sym part) (λ e e_lt.
    let low : e < length vs = omega (arith, e_lt, long) in
    let below : e < r.depth = omega (arith, low, deep) in
    get_or-map s vs e (pos 0) 0 low ∙ sym (get_or-take r.depth (drop at out) e 0 below ∙ get_or-drop at out e 0 ∙ each e below))

pub plain_piece : (r : Pixels) → IsRaster r → (place m n : ℕ) (out : List ℕ) → m ≤ n → place + n ≤ length r.pixels → (rank (is_valid r) (place + n) - rank (is_valid r) place) * r.depth ≤ length out
    → ((i : ℕ) → i < n → is_valid r (place + i) ≡ true → (e : ℕ) → e < r.depth → get_or out ((rank (is_valid r) (place + i) - rank (is_valid r) place) * r.depth + e) 0 ≡ symbol_of r.kind (value_in r e (place + i)))
    → plain_before r (place + m) ≡ plain_before r place ++ take ((rank (is_valid r) (place + m) - rank (is_valid r) place) * r.depth) out
plain_piece r sound place zero n out le within room each =
    let e : place + 0 ≡ place = omega arith in
    let none : (rank (is_valid r) (place + 0) - rank (is_valid r) place) * r.depth ≡ 0 =
    (let same = ap (rank (is_valid r)) e in let zero_ : rank (is_valid r) (place + 0) - rank (is_valid r) place ≡ 0 = omega (arith, same) in ap (λ n. n * r.depth) zero_ ∙ (let z : 0 * r.depth ≡ 0 = omega arith in z)) in
    ap (plain_before r) e ∙ sym (append-nil (plain_before r place)) ∙ ap (λ (k : ℕ). plain_before r place ++ take k out) (sym none)
plain_piece r sound place (suc m) n out le within room each =
    let k = place + m in
    let valid = is_valid r in
    let before = plain_piece r sound place m n out (omega (arith, le)) within room each in
    let front = plain_before r place in
    let so_far = rank valid k - rank valid place in
    let on_ : place + suc m ≡ k + 1 = omega arith in
    let lt : k < length r.pixels = omega (arith, le, within) in
    let more = map (symbol_of r.kind) (unwrap_or (get_or r.pixels k None) []) in
    let grows = rank_grows valid place k (omega arith) in
    ap (plain_before r) on_ ∙ plain_more r k lt ∙ ap (λ (xs : List ℕ). xs ++ more) before ∙ append_assoc front (take (so_far * r.depth) out) more
    ∙ ap (λ (xs : List ℕ). front ++ xs) (elim (cases_Bool (valid k)) as (λ _. take (so_far * r.depth) out ++ more ≡ take ((rank valid (place + suc m) - rank valid place) * r.depth) out) [
      | inl on ↦
          let below = rank_below valid k (place + n) (omega (arith, le)) on in
          let ranks = ap (rank valid) on_ ∙ rank_on valid k on in
          let count : rank valid (place + suc m) - rank valid place ≡ so_far + 1 = omega (arith, ranks, grows) in
          let open_ : (so_far + 1) * r.depth ≡ so_far * r.depth + r.depth = omega arith in
          let up : (so_far + 1) * r.depth ≤ (rank valid (place + n) - rank valid place) * r.depth = mul-le-mul_right r.depth (omega (arith, below, grows)) in
          let here = one_pixel r sound k (so_far * r.depth) out lt on (omega (arith, up, open_, room)) (each m (omega (arith, le)) on) in
          ap (λ (xs : List ℕ). take (so_far * r.depth) out ++ xs) here ∙ sym (take-add (so_far * r.depth) r.depth out)
          ∙ ap (λ j. take j out) (sym open_ ∙ ap (λ j. j * r.depth) (sym count))
      | inr off ↦
          let ranks = ap (rank valid) on_ ∙ rank_off valid k off in
          let count : so_far ≡ rank valid (place + suc m) - rank valid place = omega (arith, ranks) in
          ap (λ (xs : List ℕ). take (so_far * r.depth) out ++ xs) (ap (map (symbol_of r.kind)) (pixel_none r k off)) ∙ append-nil (take (so_far * r.depth) out)
          ∙ ap (λ j. take (j * r.depth) out) count
    ])

-- ---- places of symbols

-- places of two depths are never one
pub apart : (depth q p d e : ℕ) → d < depth → e < depth → e ≢ d → q * depth + e ≢ p * depth + d
apart depth q p d e low_d low_e ne same =
    let one : e ≡ d = sym (mod-eq_of_lt low_e) ∙ sym (mul-add-mod_self_right q depth e) ∙ ap (λ n. n % depth) same ∙ mul-add-mod_self_right p depth d ∙ mod-eq_of_lt low_d in
    ne one

-- nor are those of two pixels
pub apart_pixels : (depth q p d : ℕ) → 0 < depth → q < p → q * depth + d ≢ p * depth + d
apart_pixels depth q p d some lt same =
    let up : (q + 1) * depth ≤ p * depth = mul-le-mul_right depth (omega (arith, lt)) in
    let open_ : (q + 1) * depth ≡ q * depth + depth = omega arith in
    omega (arith, up, open_, some, same)

pub place_fits : (depth q n d size : ℕ) → d < depth → q < n → n * depth ≤ size → q * depth + d < size
place_fits depth q n d size low lt room =
    let up : (q + 1) * depth ≤ n * depth = mul-le-mul_right depth (omega (arith, lt)) in
    let open_ : (q + 1) * depth ≡ q * depth + depth = omega arith in
    omega (arith, up, open_, low, room)

-- ---- the state

pub plain_on : (r : Pixels) (w : PlainState) → w.place ≡ 0 → w.given ≡ 0 → IsOnPlain r w
plain_on r w place given = record {
  place = omega (arith, place);
  given = (let none : rank (is_valid r) w.place * r.depth ≡ 0 * r.depth = ap (λ k. rank (is_valid r) k * r.depth) place in let z : 0 * r.depth ≡ 0 = omega arith in omega (arith, given, none, z));
}

pub plain_symbols : (r : Pixels) → IsRaster r → (old new : PlainState) (count valid : ℕ) (out : List ℕ) → IsOnPlain r old → old.place + count ≤ r.rows * r.cols → rank (is_valid r) (old.place + count) ≡ rank (is_valid r) old.place + valid
    → plain_before r (old.place + count) ≡ plain_before r old.place ++ take (valid * r.depth) out → new.given ≡ old.given + valid * r.depth → take new.given (plain r) ≡ take old.given (plain r) ++ take (new.given - old.given) out
plain_symbols r sound old new count valid out h within ranks piece e =
    let open_ : (rank (is_valid r) old.place + valid) * r.depth ≡ rank (is_valid r) old.place * r.depth + valid * r.depth = omega arith in
    let all : new.given ≡ rank (is_valid r) (old.place + count) * r.depth = (let given = h.given in let sum : new.given ≡ (rank (is_valid r) old.place + valid) * r.depth = omega (arith, e, given, open_) in sum) ∙ ap (λ n. n * r.depth) (sym ranks) in
    let more : valid * r.depth ≡ new.given - old.given = omega (arith, e) in
    ap (λ n. take n (plain r)) all ∙ plain_first r sound (old.place + count) within ∙ piece
    ∙ ap (λ (xs : List ℕ). xs ++ take (valid * r.depth) out) (sym (ap (λ n. take n (plain r)) h.given ∙ plain_first r sound old.place h.place))
    ∙ ap (λ n. take old.given (plain r) ++ take n out) more

pub plain_next : (r : Pixels) (old new : PlainState) (count valid : ℕ) → IsOnPlain r old → old.place + count ≤ r.rows * r.cols → rank (is_valid r) (old.place + count) ≡ rank (is_valid r) old.place + valid
    → new.place ≡ old.place + count → new.given ≡ old.given + valid * r.depth → IsOnPlain r new
plain_next r old new count valid h within ranks place e = record {
  place = omega (arith, place, within);
  given =
      let open_ : (rank (is_valid r) old.place + valid) * r.depth ≡ rank (is_valid r) old.place * r.depth + valid * r.depth = omega arith in
      let given = h.given in
      let sum : new.given ≡ (rank (is_valid r) old.place + valid) * r.depth = omega (arith, e, given, open_) in
      sum ∙ ap (λ n. n * r.depth) (sym ranks ∙ ap (rank (is_valid r)) (sym place));
}

pub plain_few : (r : Pixels) → IsRaster r → (w : PlainState) → IsOnPlain r w → w.given ≤ valid_count r * r.depth
plain_few r sound w h =
    let grows = rank_grows (is_valid r) w.place (r.rows * r.cols) h.place in
    let all = rank_all r sound in
    let up : rank (is_valid r) w.place * r.depth ≤ valid_count r * r.depth = mul-le-mul_right r.depth (omega (arith, grows, all)) in
    let given = h.given in
    omega (arith, given, up)

pub plain_given : (r : Pixels) → IsRaster r → (w : PlainState) → IsOnPlain r w → r.rows * r.cols ≤ w.place → take w.given (plain r) ≡ plain r
plain_given r sound w h past =
    let place = h.place in
    let places = sound.places in
    let end : w.place ≡ length r.pixels = omega (arith, place, past, places) in
    ap (λ n. take n (plain r)) h.given ∙ plain_first r sound w.place h.place ∙ ap (λ (ps : List (Option (List ℤ))). map (symbol_of r.kind) (values_of ps)) (take_all w.place r.pixels (omega (arith, end)))
