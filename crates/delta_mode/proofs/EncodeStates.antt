-- The symbols of the differences piece by piece.
use Rattle.std.proofs.Common.{◌≡◌, ℕ, zero, suc, ℤ, pos, ◌+◌, ◌-◌, ◌*◌, ◌<◌, ◌≤◌, Bool, true, false, cond, List, [], ◌∷◌, ◌++◌, length, get_or, take, map, sym, ap, ◌∙◌, subst, arith, inl, inr}
use Rattle.std.specs.List.{filter, flat_map, range_with_len}
use Rattle.std.proofs.lemmas.Bool.{cases_Bool, cases_lt}
use Rattle.std.proofs.lemmas.Grind.{flat_map-append}
use Rattle.std.proofs.lemmas.List.{append-nil, append_assoc, length-append, length-take-le, map-append, take_all, take_at, take_more, length-map}
use Rattle.std.proofs.lemmas.List.Concat.{flat_map-cons}
use Rattle.std.proofs.lemmas.List.Elements.{filter-append}
use Rattle.std.proofs.Math.Nat.{mul-le-mul_right}
use Rattle.raster_cells.specs.declared.kind.PixelType.{PixelType}
use Rattle.raster_values.specs.Raster.{Pixels, IsRaster, valid_count}
use Rattle.raster_values.specs.Flat.{value_in}
use Rattle.delta_mode.specs.Deltas.{delta, deltas, deltas_from, is_valid}
use Rattle.delta_mode.specs.EncodeStates.{IsOn, deltas_before, deltas_of_all, left_over}
use Rattle.delta_mode.specs.declared.giving.EncodeState.{EncodeState}
use Rattle.delta_mode.specs.declared.walk.Walk.{Walk}
use Rattle.delta_mode.specs.inside.Pieces.{rank, IsAt}
use Rattle.delta_mode.specs.inside.Steps.{IsDeeper, IsFurther}
use Rattle.delta_mode.proofs.Predictors.{range_more, from-is}
use Rattle.delta_mode.proofs.Pieces.{rank_on, rank_off, rank_below, rank_grows}
use Rattle.delta_mode.proofs.WholeDepth.{at_first, rank_all}
use Rattle.delta_mode.proofs.Gathered.{rank_filter}

-- ---- one pixel more

pub from_more : (kind : PixelType) (cols : ℕ) (valid : ℕ → Bool) (value : ℕ → ℤ) (m : ℕ)
    → deltas_from kind cols valid value 0 (m + 1) ≡ deltas_from kind cols valid value 0 m ++ map (delta kind cols valid value) (filter valid (m ∷ []))
from_more kind cols valid value m =
    let d = delta kind cols valid value in
    let e : 0 + m ≡ m = omega arith in
    from-is kind cols valid value 0 (m + 1)
    ∙ ap (λ ks. map d (filter valid ks)) (range_more 0 m ∙ ap (λ k. range_with_len 0 m ++ k ∷ []) e)
    ∙ ap (map d) (filter-append valid (range_with_len 0 m) (m ∷ []))
    ∙ map-append d (filter valid (range_with_len 0 m)) (filter valid (m ∷ []))
    ∙ ap (λ ds. ds ++ map d (filter valid (m ∷ []))) (sym (from-is kind cols valid value 0 m))

pub length-from : (kind : PixelType) (cols : ℕ) (valid : ℕ → Bool) (value : ℕ → ℤ) (n : ℕ) → length (deltas_from kind cols valid value 0 n) ≡ rank valid n
length-from kind cols valid value n = ap length (from-is kind cols valid value 0 n) ∙ length-map (filter valid (range_with_len 0 n)) (delta kind cols valid value) ∙ rank_filter valid n

-- those of fewer pixels stand in front
pub record StandInFront (front all : List ℕ) : Type 0 where
  pub rest : List ℕ
  pub joined : all ≡ front ++ rest

pub from_front : (kind : PixelType) (cols : ℕ) (valid : ℕ → Bool) (value : ℕ → ℤ) (k m : ℕ) → StandInFront (deltas_from kind cols valid value 0 k) (deltas_from kind cols valid value 0 (k + m))
from_front kind cols valid value k zero = record {
  rest = [];
  joined = (let e : k + 0 ≡ k = omega arith in ap (deltas_from kind cols valid value 0) e) ∙ sym (append-nil (deltas_from kind cols valid value 0 k));
}
from_front kind cols valid value k (suc m) =
    let before = from_front kind cols valid value k m in
    let e : k + suc m ≡ k + m + 1 = omega arith in
    let more = map (delta kind cols valid value) (filter valid ((k + m) ∷ [])) in record {
      rest = before.rest ++ more;
      joined = ap (deltas_from kind cols valid value 0) e ∙ from_more kind cols valid value (k + m)
          ∙ ap (λ (ds : List ℕ). ds ++ more) before.joined ∙ append_assoc (deltas_from kind cols valid value 0 k) before.rest more;
    }

-- the symbols of a piece's valid pixels, one by one
pub piece_first : (kind : PixelType) (cols : ℕ) (valid : ℕ → Bool) (value : ℕ → ℤ) (out : List ℕ) (place m n : ℕ) → m ≤ n → rank valid (place + n) ≤ rank valid place + length out
    → ((k : ℕ) → place ≤ k → k < place + n → valid k ≡ true → delta kind cols valid value k ≡ get_or out (rank valid k - rank valid place) 0)
    → deltas_from kind cols valid value 0 (place + m) ≡ deltas_from kind cols valid value 0 place ++ take (rank valid (place + m) - rank valid place) out
piece_first kind cols valid value out place zero n le room each =
    let e : place + 0 ≡ place = omega arith in
    let none : rank valid (place + 0) - rank valid place ≡ 0 = (let same = ap (rank valid) e in omega (arith, same)) in
    ap (deltas_from kind cols valid value 0) e ∙ sym (append-nil (deltas_from kind cols valid value 0 place)) ∙ ap (λ (k : ℕ). deltas_from kind cols valid value 0 place ++ take k out) (sym none)
piece_first kind cols valid value out place (suc m) n le room each =
    let k = place + m in
    let before = piece_first kind cols valid value out place m n (omega (arith, le)) room each in
    let d = delta kind cols valid value in
    let front = deltas_from kind cols valid value 0 place in
    let so_far = rank valid k - rank valid place in
    let on_ : place + suc m ≡ k + 1 = omega arith in
    ap (deltas_from kind cols valid value 0) on_ ∙ from_more kind cols valid value k ∙ ap (λ ds. ds ++ map d (filter valid (k ∷ []))) before
    ∙ append_assoc front (take so_far out) (map d (filter valid (k ∷ [])))
    ∙ ap (λ (ds : List ℕ). front ++ ds) (elim (cases_Bool (valid k)) as (λ _. take so_far out ++ map d (filter valid (k ∷ [])) ≡ take (rank valid (place + suc m) - rank valid place) out) [
      | inl on ↦
          let below = rank_below valid k (place + n) (omega (arith, le)) on in
          let grows = rank_grows valid place k (omega arith) in
          let more = ap (rank valid) on_ ∙ rank_on valid k on in
          let count : so_far + 1 ≡ rank valid (place + suc m) - rank valid place = omega (arith, more, grows) in
          let here : d k ≡ get_or out so_far 0 = each k (omega arith) (omega (arith, le)) on in
          ap (λ b. take so_far out ++ map d (cond b (k ∷ []) [])) on
          ∙ ap (λ x. take so_far out ++ x ∷ []) here
          ∙ sym (take_more out so_far 0 (omega (arith, below, room, grows)))
          ∙ ap (λ j. take j out) count
      | inr off ↦
          let more = ap (rank valid) on_ ∙ rank_off valid k off in
          let count : so_far ≡ rank valid (place + suc m) - rank valid place = omega (arith, more) in
          ap (λ b. take so_far out ++ map d (cond b (k ∷ []) [])) off
          ∙ append-nil (take so_far out)
          ∙ ap (λ j. take j out) count
    ])

-- ---- all depths

pub length-deltas : (r : Pixels) → IsRaster r → (d : ℕ) → length (deltas r d) ≡ valid_count r
length-deltas r sound d = length-from r.kind r.cols (is_valid r) (value_in r d) (r.rows * r.cols) ∙ rank_all r sound

length-depths : (r : Pixels) → IsRaster r → (n : ℕ) → length (flat_map (deltas r) (range_with_len 0 n)) ≡ n * valid_count r
length-depths r sound zero = let e : 0 ≡ 0 * valid_count r = omega arith in e
length-depths r sound (suc n) =
    let one : suc n ≡ n + 1 = omega arith in
    let e : 0 + n ≡ n = omega arith in
    let all = ap (λ (k : ℕ). length (flat_map (deltas r) (range_with_len 0 k))) one ∙ ap (λ (ks : List ℕ). length (flat_map (deltas r) ks)) (range_more 0 n ∙ ap (λ k. range_with_len 0 n ++ k ∷ []) e)
    ∙ ap length (flat_map-append (deltas r) (range_with_len 0 n) (n ∷ [])) ∙ length-append (flat_map (deltas r) (range_with_len 0 n)) (flat_map (deltas r) (n ∷ [])) in
    let last = ap length (flat_map-cons (deltas r) n [] ∙ append-nil (deltas r n)) ∙ length-deltas r sound n in
    let before = length-depths r sound n in
    let open_ : suc n * valid_count r ≡ n * valid_count r + valid_count r = omega arith in
    omega (arith, all, last, before, open_)

pub length-all : (r : Pixels) → IsRaster r → length (deltas_of_all r) ≡ r.depth * valid_count r
length-all r sound = length-depths r sound r.depth

-- the depths below one, it, and those behind it
depth_front : (r : Pixels) (d m : ℕ) → StandInFront (flat_map (deltas r) (range_with_len 0 d) ++ deltas r d) (flat_map (deltas r) (range_with_len 0 (d + 1 + m)))
depth_front r d zero = record {
  rest = [];
  joined =
      let one : d + 1 + 0 ≡ d + 1 = omega arith in
      let e : 0 + d ≡ d = omega arith in
      ap (λ (k : ℕ). flat_map (deltas r) (range_with_len 0 k)) one ∙ ap (flat_map (deltas r)) (range_more 0 d ∙ ap (λ k. range_with_len 0 d ++ k ∷ []) e)
      ∙ flat_map-append (deltas r) (range_with_len 0 d) (d ∷ []) ∙ ap (λ (ds : List ℕ). flat_map (deltas r) (range_with_len 0 d) ++ ds) (flat_map-cons (deltas r) d [] ∙ append-nil (deltas r d))
      ∙ sym (append-nil (flat_map (deltas r) (range_with_len 0 d) ++ deltas r d));
}
depth_front r d (suc m) =
    let before = depth_front r d m in
    let n = d + 1 + m in
    let one : d + 1 + suc m ≡ n + 1 = omega arith in
    let e : 0 + n ≡ n = omega arith in
    let more = flat_map (deltas r) (n ∷ []) in record {
      rest = before.rest ++ more;
      joined = ap (λ (k : ℕ). flat_map (deltas r) (range_with_len 0 k)) one ∙ ap (flat_map (deltas r)) (range_more 0 n ∙ ap (λ k. range_with_len 0 n ++ k ∷ []) e)
          ∙ flat_map-append (deltas r) (range_with_len 0 n) (n ∷ []) ∙ ap (λ (ds : List ℕ). ds ++ more) before.joined
          ∙ append_assoc (flat_map (deltas r) (range_with_len 0 d) ++ deltas r d) before.rest more;
    }

-- what is given of all symbols, in front of a pixel of a depth
pub given_before : (r : Pixels) → IsRaster r → (d k : ℕ) → d < r.depth → k ≤ r.rows * r.cols
    → take (d * valid_count r + rank (is_valid r) k) (deltas_of_all r) ≡ flat_map (deltas r) (range_with_len 0 d) ++ deltas_before r d k
given_before r sound d k below within =
    let front = flat_map (deltas r) (range_with_len 0 d) in
    let here = deltas_before r d k in
    let last : d + 1 + (r.depth - d - 1) ≡ r.depth = omega (arith, below) in
    let all = depth_front r d (r.depth - d - 1) in
    let end : k + (r.rows * r.cols - k) ≡ r.rows * r.cols = omega (arith, within) in
    let one = from_front r.kind r.cols (is_valid r) (value_in r d) k (r.rows * r.cols - k) in
    let deep : deltas r d ≡ here ++ one.rest = ap (deltas_from r.kind r.cols (is_valid r) (value_in r d) 0) (sym end) ∙ one.joined in
    let whole : deltas_of_all r ≡ (front ++ here) ++ (one.rest ++ all.rest) =
    ap (λ (n : ℕ). flat_map (deltas r) (range_with_len 0 n)) (sym last) ∙ all.joined
    ∙ ap (λ (ds : List ℕ). (front ++ ds) ++ all.rest) deep
    ∙ ap (λ (ds : List ℕ). ds ++ all.rest) (sym (append_assoc front here one.rest))
    ∙ append_assoc (front ++ here) one.rest all.rest in
    let size : length (front ++ here) ≡ d * valid_count r + rank (is_valid r) k =
    (let sum = length-append front here in let a = length-depths r sound d in let b = length-from r.kind r.cols (is_valid r) (value_in r d) k in omega (arith, sum, a, b)) in
    ap (take (d * valid_count r + rank (is_valid r) k)) whole ∙ take_at (front ++ here) (one.rest ++ all.rest) (d * valid_count r + rank (is_valid r) k) size

-- no more are given than there are
pub given_low : (r : Pixels) → IsRaster r → (d k : ℕ) → d < r.depth → k ≤ r.rows * r.cols → d * valid_count r + rank (is_valid r) k ≤ r.depth * valid_count r
given_low r sound d k below within =
    let grows = rank_grows (is_valid r) k (r.rows * r.cols) within in
    let all = rank_all r sound in
    let up : (d + 1) * valid_count r ≤ r.depth * valid_count r = mul-le-mul_right (valid_count r) (omega (arith, below)) in
    let open_ : (d + 1) * valid_count r ≡ d * valid_count r + valid_count r = omega arith in
    omega (arith, grows, all, up, open_)

-- ---- a step

-- some pixels more, and their symbols
pub record IsPiece (r : Pixels) (old : EncodeState) (count given : ℕ) (out : List ℕ) : Type 0 where
  pub more : 0 < count
  pub within : old.place + count ≤ r.rows * r.cols
  pub symbols : deltas_before r old.d (old.place + count) ≡ deltas_before r old.d old.place ++ take given out
  pub long : given ≤ length out

-- as many symbols as valid pixels
pub piece_rank : (r : Pixels) (old : EncodeState) (count given : ℕ) (out : List ℕ) → IsPiece r old count given out → rank (is_valid r) (old.place + count) ≡ rank (is_valid r) old.place + given
piece_rank r old count given out p =
    let a = length-from r.kind r.cols (is_valid r) (value_in r old.d) (old.place + count) in
    let b = length-from r.kind r.cols (is_valid r) (value_in r old.d) old.place in
    let sum = length-append (deltas_before r old.d old.place) (take given out) in
    let n = length-take-le given out p.long in
    omega (arith, a, b, sum, n, ap length p.symbols)

pub step_few : (r : Pixels) → IsRaster r → (old : EncodeState) (count given : ℕ) (out : List ℕ) → IsOn r old → old.d < r.depth → IsPiece r old count given out → old.given + given ≤ r.depth * valid_count r
step_few r sound old count given out h below p =
    let low = given_low r sound old.d (old.place + count) below p.within in
    let n = piece_rank r old count given out p in
    omega (arith, low, n, h.given)

pub step_symbols : (r : Pixels) → IsRaster r → (old : EncodeState) (count given all : ℕ) (out : List ℕ) → IsOn r old → old.d < r.depth → IsPiece r old count given out → all ≡ old.given + given
    → take all (deltas_of_all r) ≡ take old.given (deltas_of_all r) ++ take (all - old.given) out
step_symbols r sound old count given all out h below p e =
    let n = piece_rank r old count given out p in
    let front = flat_map (deltas r) (range_with_len 0 old.d) in
    let now : all ≡ old.d * valid_count r + rank (is_valid r) (old.place + count) = omega (arith, n, h.given, e) in
    let more : given ≡ all - old.given = omega (arith, e) in
    let within = p.within in
    ap (λ (k : ℕ). take k (deltas_of_all r)) now ∙ given_before r sound old.d (old.place + count) below within
    ∙ ap (λ (ds : List ℕ). front ++ ds) p.symbols ∙ sym (append_assoc front (deltas_before r old.d old.place) (take given out))
    ∙ ap (λ (ds : List ℕ). ds ++ take given out) (sym (given_before r sound old.d old.place below (omega (arith, within))))
    ∙ ap (λ (k : ℕ). take k (deltas_of_all r) ++ take given out) (sym h.given)
    ∙ ap (λ (k : ℕ). take old.given (deltas_of_all r) ++ take k out) more

pub step_on : (r : Pixels) → IsRaster r → (old new : EncodeState) (count given : ℕ) (out : List ℕ) (walk : Walk) → IsOn r old → old.d < r.depth → IsPiece r old count given out → new.given ≡ old.given + given
    → (old.place + count < r.rows * r.cols → IsFurther old new count walk) → (old.place + count ≡ r.rows * r.cols → IsDeeper old new)
    → ((valid_count r ≡ r.rows * r.cols → ⊥) → IsAt (is_valid r) (value_in r old.d) (old.place + count) walk.left walk.last walk.count) → IsOn r new
step_on r sound old new count given out walk h below p e further deeper at =
    let n = piece_rank r old count given out p in
    let within = p.within in
    elim (cases_lt (old.place + count) (r.rows * r.cols)) [
      | inl lt ↦
          let f = further lt in record {
            depth = (let d = f.d in omega (arith, d, below));
            place = (let place = f.place in omega (arith, place, lt));
            end = λ is. absurd (let d = f.d in omega (arith, d, below, is));
            given = e ∙ (let d = f.d in let was = h.given in let here : old.given + given ≡ old.d * valid_count r + rank (is_valid r) (old.place + count) = omega (arith, was, n) in here)
                ∙ (λ i. sym f.d i * valid_count r + rank (is_valid r) (sym f.place i));
            at = λ some. transport_at f (at some);
          }
      | inr ge ↦
          let is : old.place + count ≡ r.rows * r.cols = omega (arith, ge, within) in
          let g = deeper is in record {
            depth = (let d = g.d in omega (arith, d, below));
            place = (let place = g.place in let some = pixels in omega (arith, place, some));
            end = λ _. g.place;
            given =
                let all = ap (rank (is_valid r)) is ∙ rank_all r sound in
                let open_ : (old.d + 1) * valid_count r ≡ old.d * valid_count r + valid_count r = omega arith in
                let was = h.given in
                let sum : old.given + given ≡ (old.d + 1) * valid_count r + 0 = omega (arith, was, n, all, open_) in
                e ∙ sum ∙ (λ i. sym g.d i * valid_count r + rank (is_valid r) (sym g.place i));
            at = λ some. subst (λ k. IsAt (is_valid r) (value_in r new.d) k new.walk.left new.walk.last new.walk.count) (sym g.place) (at_first (is_valid r) (value_in r new.d) new.walk.left new.walk.last new.walk.count g.left g.last g.none);
          }
    ]
  where
    pixels : 0 < r.rows * r.cols
    pixels =
        let m : 1 * r.cols ≤ r.rows * r.cols = mul-le-mul_right r.cols (let some = sound.shape.rows_above in omega (arith, some)) in
        let some = sound.shape.cols_above in
        omega (arith, m, some)

    transport_at : IsFurther old new count walk → IsAt (is_valid r) (value_in r old.d) (old.place + count) walk.left walk.last walk.count → IsAt (is_valid r) (value_in r new.d) new.place new.walk.left new.walk.last new.walk.count
    transport_at f a =
        subst (λ d. IsAt (is_valid r) (value_in r d) new.place new.walk.left new.walk.last new.walk.count) (sym f.d)
        (subst (λ k. IsAt (is_valid r) (value_in r old.d) k new.walk.left new.walk.last new.walk.count) (sym f.place)
        (subst (λ (w : Walk). IsAt (is_valid r) (value_in r old.d) (old.place + count) w.left w.last w.count) (sym f.walk_is) a))

pub step_later : (r : Pixels) → (old new : EncodeState) (count given : ℕ) (out : List ℕ) (walk : Walk) → IsOn r old → old.d < r.depth → IsPiece r old count given out
    → (old.place + count < r.rows * r.cols → IsFurther old new count walk) → (old.place + count ≡ r.rows * r.cols → IsDeeper old new) → left_over r new < left_over r old
step_later r old new count given out walk h below p further deeper =
    let n = r.rows * r.cols in
    let more = p.more in
    let within = p.within in
    let up : 1 * n ≤ (r.depth - old.d) * n = mul-le-mul_right n (omega (arith, below)) in
    elim (cases_lt (old.place + count) n) [
      | inl lt ↦
          let f = further lt in
          let d = f.d in
          let place = f.place in
          let same : (r.depth - new.d) * n ≡ (r.depth - old.d) * n = ap (λ k. (r.depth - k) * n) d in
          omega (arith, same, place, up, more, within, lt)
      | inr ge ↦
          let g = deeper (omega (arith, ge, within)) in
          let d = g.d in
          let place = g.place in
          let one : r.depth - old.d ≡ (r.depth - new.d) + 1 = omega (arith, d, below) in
          let open_ : (r.depth - old.d) * n ≡ (r.depth - new.d) * n + n = ap (λ k. k * n) one ∙ (let e : ((r.depth - new.d) + 1) * n ≡ (r.depth - new.d) * n + n = omega arith in e) in
          let some = h.place in
          omega (arith, open_, place, some)
    ]

-- ---- the end

pub on_end : (r : Pixels) → IsRaster r → (w : EncodeState) → IsOn r w → r.depth ≤ w.d → w.given ≡ r.depth * valid_count r
on_end r sound w h past =
    let depth = h.depth in
    let last : w.d ≡ r.depth = omega (arith, past, depth) in
    let none : rank (is_valid r) w.place ≡ 0 = ap (rank (is_valid r)) (h.end last) in
    let given = h.given in
    let all : w.d * valid_count r ≡ r.depth * valid_count r = ap (λ n. n * valid_count r) last in
    omega (arith, given, none, all)

pub on_few : (r : Pixels) → IsRaster r → (w : EncodeState) → IsOn r w → w.given ≤ r.depth * valid_count r
on_few r sound w h = elim (cases_lt w.d r.depth) [
  | inl below ↦
      let place = h.place in
      let low = given_low r sound w.d w.place below (omega (arith, place)) in
      let given = h.given in
      omega (arith, low, given)
  | inr past ↦ let all = on_end r sound w h past in omega (arith, all)
]

pub all_given : (r : Pixels) → IsRaster r → (w : EncodeState) → IsOn r w → r.depth ≤ w.d → take w.given (deltas_of_all r) ≡ deltas_of_all r
all_given r sound w h past = take_all w.given (deltas_of_all r) (let all = on_end r sound w h past in let long = length-all r sound in omega (arith, all, long))

-- in front of all
pub first_on : (r : Pixels) → IsRaster r → (w : EncodeState) → w.d ≡ 0 → w.place ≡ 0 → w.given ≡ 0 → w.walk.left ≡ false → w.walk.last ≡ pos 0 → w.walk.count ≡ 0 → IsOn r w
first_on r sound w d place given left last count = record {
  depth = omega (arith, d);
  place =
      let m : 1 * r.cols ≤ r.rows * r.cols = mul-le-mul_right r.cols (let some = sound.shape.rows_above in omega (arith, some)) in
      let some = sound.shape.cols_above in
      omega (arith, m, some, place);
  end = λ _. place;
  given =
      let none : rank (is_valid r) w.place ≡ 0 = ap (rank (is_valid r)) place in
      let zero_ : w.d * valid_count r ≡ 0 * valid_count r = ap (λ n. n * valid_count r) d in
      omega (arith, given, none, zero_);
  at = λ _. subst (λ k. IsAt (is_valid r) (value_in r w.d) k w.walk.left w.walk.last w.walk.count) (sym place) (at_first (is_valid r) (value_in r w.d) w.walk.left w.walk.last w.walk.count left last count);
}
