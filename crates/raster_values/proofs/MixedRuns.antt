-- Runs of which some pixels are marked, gathered by putting each where the next marked one belongs.
use Rattle.std.proofs.Common.{[], ◌≡◌, ℕ, ◌+◌, Bool, List, ◌++◌, length, take, drop, map, ◌*◌, true, false, cond, ◌∷◌, get_or, refl, ap, ◌∙◌, length-append, ◌<◌, set, sym, arith, append_assoc, append-nil, zero, suc, ◌-◌, ◌≤◌, subst}
use Rattle.std.specs.Prelude.{ℤ, pos}
use Rattle.std.proofs.lemmas.List.{map-append, drop-drop, take-set-le, drop-set-lt, length-drop, length-take-le}
use Rattle.std.proofs.lemmas.Grind.{take-set_at}
use Rattle.std.specs.List.{filter, range_with_len}
use Rattle.std.proofs.lemmas.List.FromFn.{length-map-range_with_len}
use Rattle.std.proofs.lemmas.Simd.{map-map}
use borrow.Rule.Slice.PartMut.{put_mid}
use Rattle.raster_cells.specs.Runs.{run_places}
use Rattle.raster_values.specs.inside.Runs.{Gathers, run_values}
use Rattle.raster_cells.proofs.MaskCounts.{count_most}
use Rattle.raster_values.proofs.RunSteps.{places_more}
use Rattle.raster_values.proofs.PixelSteps.{gathers_piece}

-- what is known after so many of the pixels
pub record IsMixed (g : ℤ → ℕ) (depth d : ℕ) (marks : List Bool) (values : List ℤ) (from i : ℕ) (old new : List ℕ) (at n : ℕ) : Type 0 where
  pub end : n ≡ at + length (run_places marks from i)
  pub front : take n new ≡ take at old ++ map g (run_values depth d marks values from i)
  pub rest : drop (n + 1) new ≡ drop (n + 1) old

-- the values of the marked pixels, with one pixel more
pub values_more : (g : ℤ → ℕ) (depth d : ℕ) (marks : List Bool) (values : List ℤ) (from i : ℕ) (b : Bool) → get_or marks (from + i) false ≡ b
    → map g (run_values depth d marks values from (i + 1)) ≡ map g (run_values depth d marks values from i) ++ cond b (g (get_or values ((from + i) * depth + d) (pos 0)) ∷ []) []
values_more g depth d marks values from i b e =
    let f : ℕ → ℤ = λ k. get_or values (k * depth + d) (pos 0) in
    ap (λ ks. map g (map f ks)) (places_more marks from i ∙ ap (λ t. run_places marks from i ++ cond t ((from + i) ∷ []) []) e)
    ∙ ap (map g) (map-append f (run_places marks from i) (cond b ((from + i) ∷ []) []))
    ∙ map-append g (run_values depth d marks values from i) (map f (cond b ((from + i) ∷ []) []))
    ∙ ap (λ xs. map g (run_values depth d marks values from i) ++ xs) (one b)
  where
    one : (b : Bool) → map g (map (λ k. get_or values (k * depth + d) (pos 0)) (cond b ((from + i) ∷ []) [])) ≡ cond b (g (get_or values ((from + i) * depth + d) (pos 0)) ∷ []) []
    one true = refl
    one false = refl

pub places_next : (marks : List Bool) (from i : ℕ) (b : Bool) → get_or marks (from + i) false ≡ b → length (run_places marks from (i + 1)) ≡ length (run_places marks from i) + cond b 1 0
places_next marks from i b e =
    ap length (places_more marks from i ∙ ap (λ t. run_places marks from i ++ cond t ((from + i) ∷ []) []) e)
    ∙ length-append (run_places marks from i) (cond b ((from + i) ∷ []) []) ∙ ap (λ n. length (run_places marks from i) + n) (one b)
  where
    one : (b : Bool) → length (cond b ((from + i) ∷ []) []) ≡ cond b 1 0
    one true = refl
    one false = refl

pub mixed_more : (g : ℤ → ℕ) (depth d : ℕ) (marks : List Bool) (values : List ℤ) (from i : ℕ) (old mid : List ℕ) (at n x bit : ℕ) → n < length mid → x ≡ g (get_or values ((from + i) * depth + d) (pos 0))
    → bit ≡ cond (get_or marks (from + i) false) 1 0 → IsMixed g depth d marks values from i old mid at n → IsMixed g depth d marks values from (i + 1) old (set mid n x) at (n + bit)
mixed_more g depth d marks values from i old mid at n x bit below is bit_is m = by (get_or marks (from + i) false) refl
  where
    v : ℕ
    v = g (get_or values ((from + i) * depth + d) (pos 0))

    by : (b : Bool) → get_or marks (from + i) false ≡ b → IsMixed g depth d marks values from (i + 1) old (set mid n x) at (n + bit)
    by true e =
        let one : n + bit ≡ n + 1 = ap (λ k. n + k) (bit_is ∙ ap (λ t. cond t 1 0) e) in
        record {
          end = let p = places_next marks from i true e in let was = m.end in omega (arith, p, was, one);
          front = ap (λ k. take k (set mid n x)) one ∙ take-set_at mid n (n + 1) x refl below ∙ ap (λ y. take n mid ++ y ∷ []) is ∙ ap (λ xs. xs ++ v ∷ []) m.front
              ∙ append_assoc (take at old) (map g (run_values depth d marks values from i)) (v ∷ []) ∙ ap (λ xs. take at old ++ xs) (sym (values_more g depth d marks values from i true e));
          rest = ap (λ k. drop (k + 1) (set mid n x)) one ∙ drop-set-lt (n + 1 + 1) mid n x (omega arith) ∙ sym (drop-drop 1 (n + 1) mid) ∙ ap (drop 1) m.rest ∙ drop-drop 1 (n + 1) old ∙ ap (λ k. drop (k + 1) old) (sym one);
        }
    by false e =
        let same : n + bit ≡ n = ap (λ k. n + k) (bit_is ∙ ap (λ t. cond t 1 0) e) ∙ (let z : n + 0 ≡ n = omega arith in z) in
        record {
          end = let p = places_next marks from i false e in let was = m.end in omega (arith, p, was, same);
          front = ap (λ k. take k (set mid n x)) same ∙ take-set-le n mid n x (omega arith) ∙ m.front
              ∙ ap (λ xs. take at old ++ xs) (sym (append-nil (map g (run_values depth d marks values from i))) ∙ sym (values_more g depth d marks values from i false e));
          rest = ap (λ k. drop (k + 1) (set mid n x)) same ∙ drop-set-lt (n + 1) mid n x (omega arith) ∙ m.rest ∙ ap (λ k. drop (k + 1) old) (sym same);
        }

-- ---- all of them

all_there : (p : ℕ → Bool) (a n : ℕ) → length (filter p (range_with_len a n)) ≡ n → filter p (range_with_len a n) ≡ range_with_len a n
all_there p a zero e = refl
all_there p a (suc n) e = by (p a) (λ g. all_there p (a + 1) n g) e
  where
    rest : List ℕ
    rest = filter p (range_with_len (a + 1) n)

    by : (b : Bool) → (length rest ≡ n → rest ≡ range_with_len (a + 1) n) → length (cond b (a ∷ rest) rest) ≡ suc n → cond b (a ∷ rest) rest ≡ a ∷ range_with_len (a + 1) n
    by true more f = ap (λ ks. a ∷ ks) (more (let g : length rest ≡ n = omega (arith, f) in g))
    by false more f = absurd (let most = count_most p (a + 1) n in let no : ⊥ = omega (arith, f, most) in no)

pub all_gathered : (g : ℤ → ℕ) (depth d : ℕ) (marks : List Bool) (values : List ℤ) (from count : ℕ) (old piece : List ℕ) (at end : ℕ) → end ≡ at + length (run_places marks from count) → end ≡ at + count → end ≤ length old
    → piece ≡ map (λ k. g (get_or values (k * depth + d) (pos 0))) (range_with_len from (length (take (end - at) (drop at old)))) → Gathers (map g (run_values depth d marks values from count)) old (put_mid at (end - at) old piece) at end
all_gathered g depth d marks values from count old piece at end is full room cut =
    let f : ℕ → ℤ = λ k. get_or values (k * depth + d) (pos 0) in
    let h : ℕ → ℕ = λ k. g (f k) in
    let behind = length-drop at old in
    let size : length (take (end - at) (drop at old)) ≡ count = length-take-le (end - at) (drop at old) (omega (arith, behind, room)) ∙ omega (arith, full) in
    let all = all_there (λ k. get_or marks k false) from count (omega (arith, is, full)) in
    let same : piece ≡ map g (run_values depth d marks values from count) = cut ∙ ap (λ n. map h (range_with_len from n)) size ∙ sym (map-map g f (range_with_len from count)) ∙ ap (λ ks. map g (map f ks)) (sym all) in
    let long : length piece ≡ count = ap length cut ∙ length-map-range_with_len h from (length (take (end - at) (drop at old))) ∙ size in
    subst (λ vs. Gathers vs old (put_mid at (end - at) old piece) at end) same (gathers_piece piece old at end (omega (arith, full, long)) room)
