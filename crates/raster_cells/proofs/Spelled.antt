-- Bytes and the values that they spell.
use Rattle.std.proofs.Common.{[], ℕ, ◌<◌, List, get_or, ◌≡◌, ◌/◌, ◌%◌, ◌^◌, zero, suc, refl, sym, ap, ◌+◌, ◌*◌, ◌∙◌, arith, ◌∷◌, ◌≤◌, length, take, ◌-◌, true, false, cond, ⊎_elim, subst, drop, ◌++◌}
use Rattle.std.specs.Int.{byte_at, bytes_low_first}
use Rattle.std.proofs.Math.Nat.{div-one, div-div-eq-div-mul, pow-succ', add-mul}
use Rattle.std.specs.Prelude.{pos, negsuc, ◌-ℤ◌, nat_lt, ℤ, ◌≤ℤ◌, All}
use Rattle.std.proofs.lemmas.Bool.{cases_lt}
use Rattle.std.proofs.lemmas.Bool.Decides.{nat_tests}
use Rattle.std.proofs.lemmas.Int.{ints}
use Rattle.std.proofs.lemmas.List.{get_or-drop, length-drop, take-append-drop, drop-drop, ext_get_or}
use Rattle.std.proofs.lemmas.List.Concat.{flat_map-cons}
use Rattle.std.proofs.lemmas.Grind.{flat_map-append}
use Rattle.byteorder.specs.Endian.{little_number}
use Rattle.byteorder.specs.Numbers.{little_from-cons, little_from-lt}
use Rattle.raster_cells.specs.PixelType.{complement_of, bytes_of, value_of, InRange, value_bytes}
use Rattle.raster_cells.specs.declared.kind.PixelType.{PixelType}
use Rattle.raster_cells.specs.declared.kind.PixelType.TheVariants.{I8, U8, I16, U16, I32, U32}
use Rattle.raster_cells.specs.Values.{values_bytes, WrittenValuesStand, ValuesAreOnce, AreValues, ValuesAreThere}
use Rattle.raster_cells.specs.CellList.{values_in}
use Rattle.raster_cells.proofs.CellRuns.{length-values_in, value_there, with_run, length-with_run, with_run_in_range, bytes_front, bytes_behind}
use Rattle.raster_cells.proofs.Pack.{length-values_bytes}

abbrev pub AreBytes : List ℕ → Type 0
AreBytes bytes = (i : ℕ) → get_or bytes i 0 < 256

-- ---- a number and its bytes

byte_at-pow : (k x : ℕ) → byte_at k x ≡ x / 256 ^ k % 256
byte_at-pow zero x = ap (λ (y : ℕ). y % 256) (sym (div-one x))
byte_at-pow (suc k) x = refl

byte_shift : (j x y : ℕ) → x < 256 → byte_at (suc j) (x + 256 * y) ≡ byte_at j y
byte_shift j x y h =
    let low : (x + 256 * y) / 256 ≡ y = omega arith in
    byte_at-pow (suc j) (x + 256 * y) ∙ ap (λ n. (x + 256 * y) / n % 256) (pow-succ' 256 j) ∙ ap (λ n. n % 256) (sym (div-div-eq-div-mul (x + 256 * y) 256 (256 ^ j)))
    ∙ ap (λ n. n / 256 ^ j % 256) low ∙ sym (byte_at-pow j y)

shifted : (j k x y : ℕ) → x < 256 → bytes_low_first (suc j) k (x + 256 * y) ≡ bytes_low_first j k y
shifted j zero x y h = refl
shifted j (suc k) x y h = ap (λ b. b ∷ bytes_low_first (suc (suc j)) k (x + 256 * y)) (byte_shift j x y h) ∙ ap (λ bs. byte_at j y ∷ bs) (shifted (suc j) k x y h)

pub bytes_back : (n : ℕ) (xs : List ℕ) → AreBytes xs → n ≤ length xs → bytes_low_first 0 n (little_number n xs) ≡ take n xs
bytes_back zero xs are within = refl
bytes_back (suc n) [] are within = absurd (let no : ⊥ = omega arith in no)
bytes_back (suc n) (x ∷ xs) are within =
    let small : x < 256 = are 0 in
    let number : little_number (suc n) (x ∷ xs) ≡ x + 256 * little_number n xs = ap (λ m. x + 256 * m) (little_from-cons 0 n x xs) in
    let first : (x + 256 * little_number n xs) % 256 ≡ x = omega arith in
    ap (bytes_low_first 0 (suc n)) number ∙ ap (λ b. b ∷ bytes_low_first 1 n (x + 256 * little_number n xs)) first
    ∙ ap (λ bs. x ∷ bs) (shifted 0 n x (little_number n xs) small ∙ bytes_back n xs (λ i. are (suc i)) (omega arith))

-- ---- a number and its value

complement_back : (n half whole m : ℕ) → 2 ^ (8 * n) ≡ whole → half + half ≡ whole → m < whole → complement_of n (cond (nat_lt m half) (pos m) (pos m -ℤ pos whole)) ≡ m
complement_back n half whole m power twice below =
    ⊎_elim
    (λ (lt : m < half). ap (λ b. complement_of n (cond b (pos m) (pos m -ℤ pos whole))) (let t : nat_lt m half ≡ true = grind (arith, nat_tests) in t))
    (λ (ge : half ≤ m).
    ap (λ b. complement_of n (cond b (pos m) (pos m -ℤ pos whole))) (let t : nat_lt m half ≡ false = grind (arith, nat_tests) in t)
    ∙ ap (complement_of n) (let t : pos m -ℤ pos whole ≡ negsuc (whole - suc m) = omega (arith, ints) in t)
    ∙ (let t : 2 ^ (8 * n) - suc (whole - suc m) ≡ m = omega (arith, power) in t))
    (cases_lt m half)

number_back : (kind : PixelType) (m : ℕ) → m < 256 ^ bytes_of kind → complement_of (bytes_of kind) (value_of kind m) ≡ m
number_back I8 m h = complement_back 1 128 256 m refl refl h
number_back U8 m h = refl
number_back I16 m h = complement_back 2 32768 65536 m refl refl h
number_back U16 m h = refl
number_back I32 m h = complement_back 4 2147483648 4294967296 m refl refl h
number_back U32 m h = refl

signed_fits : (half whole m : ℕ) (low high : ℤ) → low ≡ negsuc (half - 1) → high ≡ pos (half - 1) → 0 < half → half + half ≡ whole → m < whole
    → (low ≤ℤ cond (nat_lt m half) (pos m) (pos m -ℤ pos whole)) × (cond (nat_lt m half) (pos m) (pos m -ℤ pos whole) ≤ℤ high)
signed_fits half whole m low high lo hi some twice below =
    ⊎_elim
    (λ (lt : m < half).
    subst (λ b. (low ≤ℤ cond b (pos m) (pos m -ℤ pos whole)) × (cond b (pos m) (pos m -ℤ pos whole) ≤ℤ high)) (sym (let t : nat_lt m half ≡ true = grind (arith, nat_tests) in t))
    (omega (arith, ints), omega (arith, ints)))
    (λ (ge : half ≤ m).
    subst (λ b. (low ≤ℤ cond b (pos m) (pos m -ℤ pos whole)) × (cond b (pos m) (pos m -ℤ pos whole) ≤ℤ high)) (sym (let t : nat_lt m half ≡ false = grind (arith, nat_tests) in t))
    (omega (arith, ints), omega (arith, ints)))
    (cases_lt m half)

pub value_fits : (kind : PixelType) (m : ℕ) → m < 256 ^ bytes_of kind → InRange kind (value_of kind m)
value_fits I8 m h = signed_fits 128 256 m (negsuc 127) (pos 127) refl refl (omega arith) refl h
value_fits U8 m h = (omega (arith, ints), omega (arith, ints))
value_fits I16 m h = signed_fits 32768 65536 m (negsuc 32767) (pos 32767) refl refl (omega arith) refl h
value_fits U16 m h = (omega (arith, ints), omega (arith, ints))
value_fits I32 m h = signed_fits 2147483648 4294967296 m (negsuc 2147483647) (pos 2147483647) refl refl (omega arith) refl h
value_fits U32 m h = (omega (arith, ints), omega (arith, ints))

-- ---- values

bytes_rest : (n : ℕ) (bytes : List ℕ) → AreBytes bytes → AreBytes (drop n bytes)
bytes_rest n bytes are i = let same = get_or-drop n bytes i 0 in omega (arith, same, are (n + i))

pub spells : (kind : PixelType) (bytes : List ℕ) → AreBytes bytes → bytes_of kind ≤ length bytes → value_bytes kind (value_of kind (little_number (bytes_of kind) bytes)) ≡ take (bytes_of kind) bytes
spells kind bytes are within =
    ap (bytes_low_first 0 (bytes_of kind)) (number_back kind (little_number (bytes_of kind) bytes) (little_from-lt 0 (bytes_of kind) bytes are)) ∙ bytes_back (bytes_of kind) bytes are within

-- the bytes are those of the values that stand there
pub bytes_of_values : (kind : PixelType) (n : ℕ) (bytes : List ℕ) → AreBytes bytes → length bytes ≡ n * bytes_of kind → values_bytes kind (values_in kind n bytes) ≡ bytes
unfolding values_in
bytes_of_values kind zero [] are size = refl
bytes_of_values kind zero (b ∷ bytes) are size = absurd (let no : ⊥ = omega arith in no)
bytes_of_values kind (suc n) bytes are size =
    let s = bytes_of kind in
    let rest = drop s bytes in
    flat_map-cons (value_bytes kind) (value_of kind (little_number s bytes)) (values_in kind n rest)
    ∙ ap (λ xs. xs ++ values_bytes kind (values_in kind n rest)) (spells kind bytes are (omega arith))
    ∙ ap (λ xs. take s bytes ++ xs) (bytes_of_values kind n rest (bytes_rest s bytes are) (omega (arith, length-drop s bytes)))
    ∙ take-append-drop s bytes

pub value_in-at : (kind : PixelType) (n : ℕ) (bytes : List ℕ) (i : ℕ) → i < n → get_or (values_in kind n bytes) i (pos 0) ≡ value_of kind (little_number (bytes_of kind) (drop (i * bytes_of kind) bytes))
unfolding values_in
value_in-at kind zero bytes i h = absurd (let no : ⊥ = omega arith in no)
value_in-at kind (suc n) bytes zero h = ap (λ m. value_of kind (little_number (bytes_of kind) (drop m bytes))) (let e : 0 ≡ zero * bytes_of kind = omega arith in e)
value_in-at kind (suc n) bytes (suc i) h =
    value_in-at kind n (drop (bytes_of kind) bytes) i (omega arith)
    ∙ ap (λ xs. value_of kind (little_number (bytes_of kind) xs)) (drop-drop (i * bytes_of kind) (bytes_of kind) bytes ∙ ap (λ m. drop m bytes) (let e : bytes_of kind + i * bytes_of kind ≡ suc i * bytes_of kind = omega arith in e))

pub values_fit : (kind : PixelType) (n : ℕ) (bytes : List ℕ) → AreBytes bytes → All (InRange kind) (values_in kind n bytes)
values_fit kind n bytes are k d below =
    let less : k < n = omega (arith, length-values_in kind n bytes) in
    subst (InRange kind) (sym (value_in-at kind n bytes k less) ∙ get_or_same (values_in kind n bytes) k (pos 0) d below) (value_fits kind _ (little_from-lt 0 (bytes_of kind) _ (bytes_rest (k * bytes_of kind) bytes are)))
  where
    get_or_same : (xs : List ℤ) (k : ℕ) (a b : ℤ) → k < length xs → get_or xs k a ≡ get_or xs k b
    get_or_same [] k a b h = absurd (let no : ⊥ = omega arith in no)
    get_or_same (x ∷ xs) zero a b h = refl
    get_or_same (x ∷ xs) (suc k) a b h = get_or_same xs k a b (omega arith)

-- ---- the laws

pub written_values : WrittenValuesStand
written_values kind values fits = record {
  size = length-values_bytes kind values;
  each = λ i below. sym (value_there kind values i fits below);
}

pub same_count : (kind : PixelType) (m n : ℕ) → m * bytes_of kind ≡ n * bytes_of kind → m ≡ n
same_count I8 m n e = omega arith
same_count U8 m n e = omega arith
same_count I16 m n e = omega arith
same_count U16 m n e = omega arith
same_count I32 m n e = omega arith
same_count U32 m n e = omega arith

pub values_once : ValuesAreOnce
values_once kind bytes values others a b =
    let long : length values ≡ length others = same_count kind (length values) (length others) (sym a.size ∙ b.size) in
    ext_get_or (pos 0) values others long (λ i below. a.each i below ∙ sym (b.each i (omega (arith, long))))

-- the bytes stand for those that are read there
pub read_stand : (kind : PixelType) (n : ℕ) (bytes : List ℕ) → length bytes ≡ n * bytes_of kind → AreValues kind bytes (values_in kind n bytes)
read_stand kind n bytes size = record {
  size = size ∙ ap (λ m. m * bytes_of kind) (sym (length-values_in kind n bytes));
  each = λ i below. value_in-at kind n bytes i (omega (arith, below, length-values_in kind n bytes));
}

pub values_there : ValuesAreThere
values_there kind bytes n are size =
    let values = values_in kind n bytes in
    let long : length values ≡ n = length-values_in kind n bytes in (
      values,
      (
        read_stand kind n bytes size,
        (long, (values_fit kind n bytes are, sym (bytes_of_values kind n bytes are size))),
      ),
    )

-- ---- values put as bytes

-- the values with those that the bytes stand for put among them
abbrev pub bytes_put : PixelType → List ℤ → ℕ → ℕ → List ℕ → List ℤ
bytes_put kind vs at count bytes = take at vs ++ (values_in kind count bytes ++ drop (at + count) vs)

pub put_as_run : (kind : PixelType) (vs : List ℤ) (at count : ℕ) (bytes : List ℕ) → bytes_put kind vs at count bytes ≡ with_run vs at (values_in kind count bytes)
put_as_run kind vs at count bytes = ap (λ n. take at vs ++ (values_in kind count bytes ++ drop (at + n) vs)) (sym (length-values_in kind count bytes))

pub length-bytes_put : (kind : PixelType) (vs : List ℤ) (at count : ℕ) (bytes : List ℕ) → at + count ≤ length vs → length (bytes_put kind vs at count bytes) ≡ length vs
length-bytes_put kind vs at count bytes within =
    ap length (put_as_run kind vs at count bytes) ∙ length-with_run vs (values_in kind count bytes) at (omega (arith, length-values_in kind count bytes))

pub bytes_put_in_range : (kind : PixelType) (vs : List ℤ) (at count : ℕ) (bytes : List ℕ) → All (InRange kind) vs → AreBytes bytes → All (InRange kind) (bytes_put kind vs at count bytes)
bytes_put_in_range kind vs at count bytes fits are =
    subst (All (InRange kind)) (sym (put_as_run kind vs at count bytes)) (with_run_in_range kind vs (values_in kind count bytes) at fits (values_fit kind count bytes are))

-- a run of bytes laid over others
pub bytes_laid : (kind : PixelType) (vs : List ℤ) (old bytes : List ℕ) (at count from : ℕ) → at + count ≤ length vs → old ≡ values_bytes kind vs → from ≡ at * bytes_of kind
    → length bytes ≡ count * bytes_of kind → AreBytes bytes
    → take from old ++ (bytes ++ drop (from + length bytes) old) ≡ values_bytes kind (bytes_put kind vs at count bytes)
bytes_laid kind vs old bytes at count from within is start size are =
    let s = bytes_of kind in
    let run = values_in kind count bytes in
    let long : length run ≡ count = length-values_in kind count bytes in
    let end : from + length bytes ≡ (at + length run) * s = omega (arith, start, size, ap (λ n. n * s) long, add-mul at (length run) s) in
    ap (λ xs. take from xs ++ (bytes ++ drop (from + length bytes) xs)) is
    ∙ ap (λ m. take m (values_bytes kind vs) ++ (bytes ++ drop (from + length bytes) (values_bytes kind vs))) start
    ∙ ap (λ xs. xs ++ (bytes ++ drop (from + length bytes) (values_bytes kind vs))) (bytes_front kind vs at (omega arith))
    ∙ ap (λ xs. values_bytes kind (take at vs) ++ (xs ++ drop (from + length bytes) (values_bytes kind vs))) (sym (bytes_of_values kind count bytes are size))
    ∙ ap (λ m. values_bytes kind (take at vs) ++ (values_bytes kind run ++ drop m (values_bytes kind vs))) end
    ∙ ap (λ xs. values_bytes kind (take at vs) ++ (values_bytes kind run ++ xs)) (bytes_behind kind vs (at + length run) (omega arith))
    ∙ ap (λ xs. values_bytes kind (take at vs) ++ xs) (sym (flat_map-append (value_bytes kind) run (drop (at + length run) vs)))
    ∙ sym (flat_map-append (value_bytes kind) (take at vs) (run ++ drop (at + length run) vs))
    ∙ ap (values_bytes kind) (sym (put_as_run kind vs at count bytes))

pub few_bytes : (kind : PixelType) → bytes_of kind ≤ 4
few_bytes I8 = omega arith
few_bytes U8 = omega arith
few_bytes I16 = omega arith
few_bytes U16 = omega arith
few_bytes I32 = omega arith
few_bytes U32 = omega arith
