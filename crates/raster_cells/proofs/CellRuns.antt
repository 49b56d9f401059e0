-- Values and the bytes that stand for them.
use Rattle.std.proofs.Common.{[], ◌≡◌, ℕ, zero, suc, List, length, drop, refl, ap, ◌∷◌, ◌++◌, ◌∙◌, append_assoc, ◌*◌, ◌≤◌, take, sym, ◌+◌, ◌<◌, get_or, arith, ◌-◌, subst, replicate, length-append, set}
use Rattle.std.specs.Prelude.{ℤ, All, pos}
use Rattle.std.proofs.lemmas.List.{drop_at, take-append-drop, length-take-le, take_at, drop_more, take_rest, drop-drop, append-nil, length-drop, set_split}
use Rattle.std.proofs.lemmas.List.Concat.{flat_map-cons}
use Rattle.std.proofs.lemmas.List.Elements.{All-head, All-tail, All-take, All-drop, All-append, All-replicate}
use Rattle.std.proofs.lemmas.Grind.{flat_map-append}
use borrow.Rule.Slice.PartMut.{put_mid}
use Rattle.byteorder.specs.Endian.{little_number}
use Rattle.raster_cells.specs.declared.kind.PixelType.{PixelType}
use Rattle.raster_cells.specs.PixelType.{bytes_of, value_of, value_bytes, InRange}
use Rattle.raster_cells.specs.CellList.{values_in}
use Rattle.raster_cells.specs.Values.{values_bytes}
use Rattle.raster_cells.proofs.Pack.{length-value_bytes, length-values_bytes, put_back}
use Rattle.raster_cells.proofs.SpelledBack.{spelled_back}
use Rattle.raster_cells.specs.declared.values.cells.Cells.TheInside.{Inside}
use Rattle.raster_cells.specs.inside.CellView.{listed, IsCells}
use Rattle.raster_cells.specs.declared.kind.PixelType.TheVariants.{I8, U8, I16, U16, I32, U32}
use Rattle.raster_cells.specs.Cleared.{cleared}
use Rattle.raster_cells.proofs.ValueBits.{zero_in_range}

pub length-values_in : (kind : PixelType) (n : ℕ) (bytes : List ℕ) → length (values_in kind n bytes) ≡ n
unfolding values_in
length-values_in kind zero bytes = refl
length-values_in kind (suc n) bytes = ap suc (length-values_in kind n (drop (bytes_of kind) bytes))

pub values_back : (kind : PixelType) (vs : List ℤ) (rest : List ℕ) → All (InRange kind) vs → values_in kind (length vs) (values_bytes kind vs ++ rest) ≡ vs
unfolding values_in
values_back kind [] rest h = refl
values_back kind (v ∷ vs) rest h =
    let joined : values_bytes kind (v ∷ vs) ++ rest ≡ value_bytes kind v ++ (values_bytes kind vs ++ rest) = ap (λ xs. xs ++ rest) (flat_map-cons (value_bytes kind) v vs) ∙ append_assoc (value_bytes kind v) (values_bytes kind vs) rest in
    ap (λ xs. value_of kind (little_number (bytes_of kind) xs) ∷ values_in kind (length vs) (drop (bytes_of kind) xs)) joined
    ∙ ap (λ y. y ∷ values_in kind (length vs) (drop (bytes_of kind) (value_bytes kind v ++ (values_bytes kind vs ++ rest)))) (spelled_back kind v (values_bytes kind vs ++ rest) (All-head (InRange kind) v vs h))
    ∙ ap (λ xs. v ∷ values_in kind (length vs) xs) (drop_at (value_bytes kind v) (values_bytes kind vs ++ rest) (bytes_of kind) (length-value_bytes kind v))
    ∙ ap (λ ws. v ∷ ws) (values_back kind vs rest (All-tail (InRange kind) v vs h))

-- the bytes of the values behind the first n
pub bytes_behind : (kind : PixelType) (vs : List ℤ) (n : ℕ) → n ≤ length vs → drop (n * bytes_of kind) (values_bytes kind vs) ≡ values_bytes kind (drop n vs)
bytes_behind kind vs n within =
    ap (drop (n * bytes_of kind)) (ap (values_bytes kind) (sym (take-append-drop n vs)) ∙ flat_map-append (value_bytes kind) (take n vs) (drop n vs))
    ∙ drop_at (values_bytes kind (take n vs)) (values_bytes kind (drop n vs)) (n * bytes_of kind) (length-values_bytes kind (take n vs) ∙ ap (λ m. m * bytes_of kind) (length-take-le n vs within))

pub bytes_front : (kind : PixelType) (vs : List ℤ) (n : ℕ) → n ≤ length vs → take (n * bytes_of kind) (values_bytes kind vs) ≡ values_bytes kind (take n vs)
bytes_front kind vs n within =
    ap (take (n * bytes_of kind)) (ap (values_bytes kind) (sym (take-append-drop n vs)) ∙ flat_map-append (value_bytes kind) (take n vs) (drop n vs))
    ∙ take_at (values_bytes kind (take n vs)) (values_bytes kind (drop n vs)) (n * bytes_of kind) (length-values_bytes kind (take n vs) ∙ ap (λ m. m * bytes_of kind) (length-take-le n vs within))

-- the value that stands at a place
pub value_there : (kind : PixelType) (vs : List ℤ) (i : ℕ) → All (InRange kind) vs → i < length vs → value_of kind (little_number (bytes_of kind) (drop (i * bytes_of kind) (values_bytes kind vs))) ≡ get_or vs i (pos 0)
value_there kind vs i h below =
    ap (λ xs. value_of kind (little_number (bytes_of kind) xs)) (bytes_behind kind vs i (omega arith) ∙ ap (values_bytes kind) (drop_more vs i (pos 0) below) ∙ flat_map-cons (value_bytes kind) (get_or vs i (pos 0)) (drop (i + 1) vs))
    ∙ spelled_back kind (get_or vs i (pos 0)) (values_bytes kind (drop (i + 1) vs)) (h i (pos 0) below)

-- a run put among others
pub run_put : (kind : PixelType) (vs run : List ℤ) (old piece : List ℕ) (at : ℕ) → at + length run ≤ length vs → old ≡ values_bytes kind vs
    → piece ≡ values_bytes kind run ++ drop (length run * bytes_of kind) (take (length old - at * bytes_of kind) (drop (at * bytes_of kind) old)) → at * bytes_of kind ≤ length old → length piece ≡ length old - at * bytes_of kind
    → put_mid (at * bytes_of kind) (length old - at * bytes_of kind) old piece ≡ values_bytes kind (take at vs ++ (run ++ drop (at + length run) vs))
run_put kind vs run old piece at within is laid inside long =
    let s = bytes_of kind in
    let tail : drop (length run * s) (take (length old - at * s) (drop (at * s) old)) ≡ values_bytes kind (drop (at + length run) vs) =
    ap (drop (length run * s)) (take_rest old (at * s)) ∙ drop-drop (length run * s) (at * s) old ∙ ap (λ n. drop n old) (let e : at * s + length run * s ≡ (at + length run) * s = omega arith in e)
    ∙ ap (drop ((at + length run) * s)) is ∙ bytes_behind kind vs (at + length run) within in
    put_back old piece (at * s) inside long
    ∙ ap (λ xs. xs ++ piece) (ap (take (at * s)) is ∙ bytes_front kind vs at (omega arith))
    ∙ ap (λ xs. values_bytes kind (take at vs) ++ xs) (laid ∙ ap (λ xs. values_bytes kind run ++ xs) tail ∙ sym (flat_map-append (value_bytes kind) run (drop (at + length run) vs)))
    ∙ sym (flat_map-append (value_bytes kind) (take at vs) (run ++ drop (at + length run) vs))

pub values_is : (kind : PixelType) (count : ℕ) (bytes : List ℕ) (vs : List ℤ) → bytes ≡ values_bytes kind vs → length vs ≡ count → All (InRange kind) vs → values_in kind count bytes ≡ vs
values_is kind count bytes vs is long fits =
    ap (λ n. values_in kind n bytes) (sym long) ∙ ap (values_in kind (length vs)) (is ∙ sym (append-nil (values_bytes kind vs))) ∙ values_back kind vs [] fits

pub are_cells : (a : Inside) (vs : List ℤ) → a.bytes.items ≡ values_bytes a.kind vs → length vs ≡ a.count → All (InRange a.kind) vs → a.count ≤ 16777216 → IsCells a
are_cells a vs is long fits few =
    let same : listed a ≡ vs = values_is a.kind a.count a.bytes.items vs is long fits in
    record {
      few = few;
      counted = ap length same ∙ long;
      size = ap length is ∙ length-values_bytes a.kind vs ∙ ap (λ n. n * bytes_of a.kind) long;
      bytes = is ∙ ap (values_bytes a.kind) (sym same);
      in_range = subst (All (InRange a.kind)) (sym same) fits;
    }

replicate-join : (a b : ℕ) → replicate a 0 ++ replicate b 0 ≡ replicate {A = ℕ} (a + b) 0
replicate-join zero b = ap (λ n. replicate n 0) (let e : b ≡ 0 + b = omega arith in e)
replicate-join (suc a) b = ap (λ xs. 0 ∷ xs) (replicate-join a b) ∙ ap (λ n. replicate n 0) (let e : suc (a + b) ≡ suc a + b = omega arith in e)

zero_byte : (kind : PixelType) → value_bytes kind (pos 0) ≡ replicate (bytes_of kind) 0
zero_byte I8 = refl
zero_byte U8 = refl
zero_byte I16 = refl
zero_byte U16 = refl
zero_byte I32 = refl
zero_byte U32 = refl

pub zero_bytes : (kind : PixelType) (n : ℕ) → values_bytes kind (replicate n (pos 0)) ≡ replicate (n * bytes_of kind) 0
zero_bytes kind zero = ap (λ m. replicate m 0) (let e : 0 ≡ 0 * bytes_of kind = omega arith in e)
zero_bytes kind (suc n) =
    flat_map-cons (value_bytes kind) (pos 0) (replicate n (pos 0)) ∙ ap (λ xs. xs ++ values_bytes kind (replicate n (pos 0))) (zero_byte kind) ∙ ap (λ xs. replicate (bytes_of kind) 0 ++ xs) (zero_bytes kind n)
    ∙ replicate-join (bytes_of kind) (n * bytes_of kind) ∙ ap (λ m. replicate m 0) (let e : bytes_of kind + n * bytes_of kind ≡ suc n * bytes_of kind = omega arith in e)

-- the values with a run put among them
abbrev pub with_run : List ℤ → ℕ → List ℤ → List ℤ
with_run vs at run = take at vs ++ (run ++ drop (at + length run) vs)

pub length-with_run : (vs run : List ℤ) (at : ℕ) → at + length run ≤ length vs → length (with_run vs at run) ≡ length vs
length-with_run vs run at within =
    omega (arith, length-append (take at vs) (run ++ drop (at + length run) vs), length-append run (drop (at + length run) vs), length-take-le at vs (omega arith), length-drop (at + length run) vs)

pub with_run_in_range : (kind : PixelType) (vs run : List ℤ) (at : ℕ) → All (InRange kind) vs → All (InRange kind) run → All (InRange kind) (with_run vs at run)
with_run_in_range kind vs run at h k =
    All-append (InRange kind) (take at vs) (run ++ drop (at + length run) vs) (All-take (InRange kind) at vs h) (All-append (InRange kind) run (drop (at + length run) vs) k (All-drop (InRange kind) (at + length run) vs h))

pub one_put : (vs : List ℤ) (at : ℕ) (v : ℤ) → at < length vs → with_run vs at (v ∷ []) ≡ set vs at v
one_put vs at v below = sym (set_split vs at v below ∙ ap (λ n. take at vs ++ v ∷ drop n vs) (let e : suc at ≡ at + length (v ∷ []) = omega arith in e))

pub run_cleared : (kind : PixelType) (vs : List ℤ) (old : List ℕ) (at count from n : ℕ) → at + count ≤ length vs → old ≡ values_bytes kind vs → from ≡ at * bytes_of kind → n ≡ count * bytes_of kind
    → take from old ++ (replicate n 0 ++ drop (from + n) old) ≡ values_bytes kind (cleared vs at count)
run_cleared kind vs old at count from n within is start size =
    let s = bytes_of kind in
    let end : from + n ≡ (at + count) * s = omega (arith, start, size) in
    let zeros = replicate count (pos 0) in
    ap (λ xs. take from xs ++ (replicate n 0 ++ drop (from + n) xs)) is
    ∙ ap (λ m. take m (values_bytes kind vs) ++ (replicate n 0 ++ drop (from + n) (values_bytes kind vs))) start
    ∙ ap (λ xs. xs ++ (replicate n 0 ++ drop (from + n) (values_bytes kind vs))) (bytes_front kind vs at (omega arith))
    ∙ ap (λ m. values_bytes kind (take at vs) ++ (replicate m 0 ++ drop (from + n) (values_bytes kind vs))) size
    ∙ ap (λ xs. values_bytes kind (take at vs) ++ (xs ++ drop (from + n) (values_bytes kind vs))) (sym (zero_bytes kind count))
    ∙ ap (λ m. values_bytes kind (take at vs) ++ (values_bytes kind zeros ++ drop m (values_bytes kind vs))) end
    ∙ ap (λ xs. values_bytes kind (take at vs) ++ (values_bytes kind zeros ++ xs)) (bytes_behind kind vs (at + count) within)
    ∙ ap (λ xs. values_bytes kind (take at vs) ++ xs) (sym (flat_map-append (value_bytes kind) zeros (drop (at + count) vs)))
    ∙ sym (flat_map-append (value_bytes kind) (take at vs) (zeros ++ drop (at + count) vs))

pub cleared_in_range : (kind : PixelType) (vs : List ℤ) (at count : ℕ) → All (InRange kind) vs → All (InRange kind) (cleared vs at count)
cleared_in_range kind vs at count h =
    All-append (InRange kind) (take at vs) (replicate count (pos 0) ++ drop (at + count) vs) (All-take (InRange kind) at vs h)
    (All-append (InRange kind) (replicate count (pos 0)) (drop (at + count) vs) (All-replicate (InRange kind) count (pos 0) (zero_in_range kind)) (All-drop (InRange kind) (at + count) vs h))
