-- The bytes of values, written one behind the other.
use Rattle.std.proofs.Common.{[], ◌≡◌, ℕ, ◌-◌, ◌≤◌, List, ◌++◌, length, take, arith, rules, ◌+◌, drop, sym, ap, ◌∙◌, append_assoc, Bool, true, false, cond, refl, ◌*◌, ◌∷◌, ◌<◌, get_or, zero, suc, replicate}
use Rattle.std.proofs.lemmas.List.{same_lists, places, take_at, drop_at, take_rest, length-drop, length-append, drop-drop, append-nil, take_more, length-take-le}
use Rattle.std.specs.Prelude.{ℤ, pos, Result, Ok, Err, OnErr}
use Rattle.std.proofs.lemmas.List.Concat.{flat_map-cons}
use Rattle.std.proofs.lemmas.Grind.{flat_map-append}
use borrow.Rule.Slice.PartMut.{put_mid}
use mir.Val.{bool_byte}
use Rattle.byteorder.specs.Numbers.{length-bytes_low_first}
use Rattle.raster_cells.specs.declared.kind.PixelType.{PixelType}
use Rattle.raster_cells.specs.PixelType.{bytes_of, value_bytes, complement_of}
use Rattle.raster_cells.specs.Values.{values_bytes}
use Rattle.raster_cells.specs.MarkBytes.{mark_bytes}

-- ---- writes into a buffer

pub put_back : (buf piece : List ℕ) (at : ℕ) → at ≤ length buf → length piece ≡ length buf - at → put_mid at (length buf - at) buf piece ≡ take at buf ++ piece
put_back buf piece at within long = same_lists _ _ (search (rules, places)) (λ k d h. grind (arith, places))

-- bytes laid behind the first a bytes
put_behind : (front bytes out old piece : List ℕ) (a s : ℕ) → length front ≡ a → length bytes ≡ s → a + s ≤ length old → length out ≡ length old → out ≡ front ++ drop a old
    → piece ≡ bytes ++ drop s (take (length out - a) (drop a out)) → put_mid a (length out - a) out piece ≡ (front ++ bytes) ++ drop (a + s) old
put_behind front bytes out old piece a s long size room same is laid =
    let head : take a out ≡ front = ap (take a) is ∙ take_at front (drop a old) a long in
    let tail : take (length out - a) (drop a out) ≡ drop a old = take_rest out a ∙ ap (drop a) is ∙ drop_at front (drop a old) a long in
    let whole : piece ≡ bytes ++ drop (a + s) old = laid ∙ ap (λ xs. bytes ++ drop s xs) tail ∙ ap (λ xs. bytes ++ xs) (drop-drop s a old) in
    let size_of : length piece ≡ length out - a = omega (arith, ap length whole, length-append bytes (drop (a + s) old), length-drop (a + s) old) in
    put_back out piece a (omega arith) size_of ∙ ap (λ xs. xs ++ piece) head ∙ ap (λ xs. front ++ xs) whole ∙ sym (append_assoc front bytes (drop (a + s) old))

-- ---- marks

pub bit : (b : Bool) → bool_byte b ≡ cond b 1 0
bit true = refl
bit false = refl

-- ---- the bytes of values

pub length-value_bytes : (kind : PixelType) (v : ℤ) → length (value_bytes kind v) ≡ bytes_of kind
length-value_bytes kind v = length-bytes_low_first 0 (bytes_of kind) (complement_of (bytes_of kind) v)

pub length-values_bytes : (kind : PixelType) (vs : List ℤ) → length (values_bytes kind vs) ≡ length vs * bytes_of kind
length-values_bytes kind [] = omega arith
length-values_bytes kind (v ∷ vs) =
    ap length (flat_map-cons (value_bytes kind) v vs) ∙ length-append (value_bytes kind v) (values_bytes kind vs)
    ∙ omega (arith, length-value_bytes kind v, length-values_bytes kind vs)

one_value : (kind : PixelType) (v : ℤ) → values_bytes kind (v ∷ []) ≡ value_bytes kind v
one_value kind v = flat_map-cons (value_bytes kind) v [] ∙ append-nil (value_bytes kind v)

values_bytes-more : (kind : PixelType) (vs : List ℤ) (i : ℕ) → i < length vs → values_bytes kind (take (i + 1) vs) ≡ values_bytes kind (take i vs) ++ value_bytes kind (get_or vs i (pos 0))
values_bytes-more kind vs i h =
    ap (values_bytes kind) (take_more vs i (pos 0) h) ∙ flat_map-append (value_bytes kind) (take i vs) (get_or vs i (pos 0) ∷ [])
    ∙ ap (λ xs. values_bytes kind (take i vs) ++ xs) (one_value kind (get_or vs i (pos 0)))

pub value_put : (kind : PixelType) (vs : List ℤ) (out old piece : List ℕ) (i : ℕ) → i < length vs → length vs * bytes_of kind ≤ length old → length out ≡ length old
    → i * bytes_of kind + bytes_of kind ≤ length old
    → out ≡ values_bytes kind (take i vs) ++ drop (i * bytes_of kind) old
    → piece ≡ value_bytes kind (get_or vs i (pos 0)) ++ drop (bytes_of kind) (take (length out - i * bytes_of kind) (drop (i * bytes_of kind) out))
    → put_mid (i * bytes_of kind) (length out - i * bytes_of kind) out piece ≡ values_bytes kind (take (i + 1) vs) ++ drop ((i + 1) * bytes_of kind) old
value_put kind vs out old piece i h room same fits is laid =
    let n : i * bytes_of kind + bytes_of kind ≡ (i + 1) * bytes_of kind = omega arith in
    let long : length (values_bytes kind (take i vs)) ≡ i * bytes_of kind = length-values_bytes kind (take i vs) ∙ ap (λ m. m * bytes_of kind) (length-take-le i vs (omega arith)) in
    put_behind (values_bytes kind (take i vs)) (value_bytes kind (get_or vs i (pos 0))) out old piece (i * bytes_of kind) (bytes_of kind) long (length-value_bytes kind (get_or vs i (pos 0))) fits same is laid
    ∙ ap (λ m. (values_bytes kind (take i vs) ++ value_bytes kind (get_or vs i (pos 0))) ++ drop m old) n
    ∙ ap (λ xs. xs ++ drop ((i + 1) * bytes_of kind) old) (sym (values_bytes-more kind vs i h))

-- ---- runs of equal marks

-- what holds anyway holds on an error
pub on_err : {T E P : Type 0} (r : Result T E) → P → OnErr r P
on_err (Ok x) p = tt
on_err (Err e) p = p

-- bytes of marks that are all set
pub ones : (n : ℕ) → mark_bytes (replicate n true) ≡ replicate n 1
ones zero = refl
ones (suc n) = ap (λ bs. 1 ∷ bs) (ones n)
