-- Runs of values that are given.
use Rattle.std.proofs.Common.{[], ◌≡◌, ℕ, ◌+◌, ◌≤◌, List, length, take, drop, arith, ◌<◌, replicate, sym, ◌∙◌, ◌++◌, ap, ◌-◌, ◌*◌, get_or, subst, ◌∷◌, refl, Bool, true, false, cond, set}
use Rattle.std.specs.Prelude.{ℤ, All, pos}
use Rattle.std.proofs.lemmas.List.{length-take-le, length-drop, ext_get_or, length-replicate, get_or-replicate, get_or-take, get_or-drop, take_all, set-get_or, length-set}
use Rattle.std.proofs.lemmas.List.Elements.{All-take, All-drop, All-set, All-nil, All-cons}
use Rattle.std.proofs.Math.Nat.{mul-le-mul_right}
use borrow.Rule.Slice.PartMut.{put_mid}
use Rattle.raster_cells.specs.declared.kind.PixelType.{PixelType}
use Rattle.raster_cells.specs.PixelType.{InRange, bytes_of, value_bytes}
use Rattle.raster_cells.proofs.CellRuns.{with_run, one_put}
use Rattle.raster_cells.specs.Values.{values_bytes}
use Rattle.raster_cells.proofs.Pack.{value_put}

pub given_long : (listed : List ℤ) (n count : ℕ) → n + count ≤ length listed → length (take count (drop n listed)) ≡ count
given_long listed n count there = length-take-le count (drop n listed) (omega (arith, length-drop n listed, there))

pub given_fits : (kind : PixelType) (listed : List ℤ) (n count : ℕ) → All (InRange kind) listed → All (InRange kind) (take count (drop n listed))
given_fits kind listed n count fits = All-take (InRange kind) count (drop n listed) (All-drop (InRange kind) n listed fits)

-- some of the copies of a value
pub some_copies : (all n count : ℕ) (value : ℤ) → n + count ≤ all → take count (drop n (replicate all value)) ≡ replicate count value
some_copies all n count value there =
    let vs = take count (drop n (replicate all value)) in
    let long : length vs ≡ count = given_long (replicate all value) n count (omega (arith, there, length-replicate all value)) in
    ext_get_or (pos 0) vs (replicate count value) (long ∙ sym (length-replicate count value)) (λ i below.
    let less : i < count = omega (arith, long) in
    get_or-take count (drop n (replicate all value)) i (pos 0) less ∙ get_or-drop n (replicate all value) i (pos 0) ∙ get_or-replicate all (n + i) value (pos 0) (omega arith)
    ∙ sym (get_or-replicate count i value (pos 0) less))

-- all of them
pub all_given : (listed : List ℤ) → take (length listed) (drop 0 listed) ≡ listed
all_given listed = take_all (length listed) listed (omega arith)

-- they are put as a run of values
pub given_put : (vs listed : List ℤ) (at n count : ℕ) → n + count ≤ length listed → with_run vs at (take count (drop n listed)) ≡ take at vs ++ (take count (drop n listed) ++ drop (at + count) vs)
given_put vs listed at n count there = ap (λ m. take at vs ++ (take count (drop n listed) ++ drop (at + m) vs)) (given_long listed n count there)

-- one of them is laid behind those before it
pub given_laid : (kind : PixelType) (vs : List ℤ) (out old piece : List ℕ) (i size : ℕ) → i < length vs → length vs * bytes_of kind ≤ length old → length out ≡ length old → size ≡ bytes_of kind
    → out ≡ values_bytes kind (take i vs) ++ drop (i * bytes_of kind) old
    → piece ≡ value_bytes kind (get_or vs i (pos 0)) ++ drop (bytes_of kind) (take (length out - i * size) (drop (i * size) out))
    → put_mid (i * size) (length out - i * size) out piece ≡ values_bytes kind (take (i + 1) vs) ++ drop ((i + 1) * bytes_of kind) old
given_laid kind vs out old piece i size below room same is laid_before =
    let up : (i + 1) * bytes_of kind ≤ length vs * bytes_of kind = mul-le-mul_right (bytes_of kind) (omega (arith, below)) in
    subst (λ n. piece ≡ value_bytes kind (get_or vs i (pos 0)) ++ drop (bytes_of kind) (take (length out - i * n) (drop (i * n) out))
    → put_mid (i * n) (length out - i * n) out piece ≡ values_bytes kind (take (i + 1) vs) ++ drop ((i + 1) * bytes_of kind) old)
    (sym is) (value_put kind vs out old piece i below room same (omega (arith, up, room)) laid_before)

-- one of them
pub given_one : (listed : List ℤ) (n i count : ℕ) → i < count → n + count ≤ length listed → take 1 (drop (n + i) listed) ≡ get_or (take count (drop n listed)) i (pos 0) ∷ []
given_one listed n i count less there =
    take_one (drop (n + i) listed) (omega (arith, length-drop (n + i) listed, there, less)) ∙ ap (λ x. x ∷ []) (get_or-drop (n + i) listed 0 (pos 0) ∙ ap (λ k. get_or listed k (pos 0)) (let e : n + i + 0 ≡ n + i = omega arith in e)
    ∙ sym (get_or-take count (drop n listed) i (pos 0) less ∙ get_or-drop n listed i (pos 0)))
  where
    take_one : (xs : List ℤ) → 0 < length xs → take 1 xs ≡ get_or xs 0 (pos 0) ∷ []
    take_one [] some = absurd (omega arith)
    take_one (x ∷ xs) some = refl

-- a value or what stands there
pub fits_either : (kind : PixelType) (old : List ℤ) (at : ℕ) (b : Bool) (value put : ℤ) → InRange kind value → InRange kind (get_or old at (pos 0)) → put ≡ cond b value (get_or old at (pos 0)) → InRange kind put
fits_either kind old at true value put fits stood is = subst (InRange kind) (sym is) fits
fits_either kind old at false value put fits stood is = subst (InRange kind) (sym is) stood

pub put_either : (old : List ℤ) (at : ℕ) (b : Bool) (value put x : ℤ) → at < length old → x ≡ put → put ≡ cond b value (get_or old at (pos 0)) → with_run old at (x ∷ []) ≡ cond b (set old at value) old
put_either old at true value put x inside same is = one_put old at x inside ∙ ap (set old at) (same ∙ is)
put_either old at false value put x inside same is = one_put old at x inside ∙ ap (set old at) (same ∙ is) ∙ set-get_or old at (pos 0)

pub put_in_range : (kind : PixelType) (old new : List ℤ) (at : ℕ) (x : ℤ) (b : Bool) → new ≡ cond b (set old at x) old → InRange kind x → All (InRange kind) old → All (InRange kind) new
put_in_range kind old new at x true is fits before = subst (All (InRange kind)) (sym is) (All-set (InRange kind) old at x fits before)
put_in_range kind old new at x false is fits before = subst (All (InRange kind)) (sym is) before

pub put_size : (old new : List ℤ) (at : ℕ) (x : ℤ) (b : Bool) → new ≡ cond b (set old at x) old → length new ≡ length old
put_size old new at x true is = ap length is ∙ length-set old at x
put_size old new at x false is = ap length is

pub one_fits : (kind : PixelType) (x : ℤ) → InRange kind x → All (InRange kind) (x ∷ [])
one_fits kind x fits = All-cons (InRange kind) x [] fits (All-nil (InRange kind))
