-- Full rasters, byte by byte.
use Rattle.std.proofs.Common.{◌≡◌, ◌≢◌, ℕ, zero, suc, ℤ, pos, negsuc, ◌+ℤ◌, ◌-ℤ◌, ◌≤ℤ◌, ◌+◌, ◌-◌, ◌*◌, ◌%◌, ◌<◌, ◌≤◌, Bool, true, false, cond, nat_lt, nat_le, List, [], ◌∷◌, ◌++◌, map, refl, sym, ap, ◌∙◌, arith, ◌⊎◌, inl, inr, add-one}
use Rattle.std.specs.Prelude.{unsigned_abs, ◌&&◌}
use Rattle.std.proofs.lemmas.Bool.{cases_lt}
use Rattle.std.proofs.lemmas.Bool.Decides.{nat_tests}
use Rattle.std.proofs.lemmas.Int.{ints}
use Rattle.std.proofs.lemmas.List.Concat.{flat_map-cons}
use Rattle.std.proofs.Math.Nat.{mod-add-mod, mod-eq_of_lt, add-mod_right}
use Rattle.raster_cells.specs.declared.kind.PixelType.{PixelType}
use Rattle.raster_cells.specs.declared.kind.PixelType.TheVariants.{I8, U8}
use Rattle.raster_cells.specs.PixelType.{InRange, value_bytes}
use Rattle.raster_cells.specs.Values.{values_bytes}
use Rattle.delta_mode.specs.Symbols.{IsByteType, bias, symbol_of}
use Rattle.delta_mode.specs.Deltas.{last_value, predictor}
use Rattle.delta_mode.specs.inside.Pieces.{rank}
use Rattle.delta_mode.specs.inside.Bytewise.{byte_of, wrapped}
use Rattle.delta_mode.proofs.Numbers.{by_byte, low_bias, symbol-is, lifted}
use Rattle.delta_mode.proofs.Predictors.{last-zero, predictor-is}
use Rattle.delta_mode.proofs.Pieces.{rank_on}

-- ---- a byte for each value

record IsByte (v : ℤ) (n : ℕ) : Type 0 where
  low : n < 256
  is : (v ≡ pos n) ⊎ (v +ℤ pos 256 ≡ pos n)

i8_is : (v : ℤ) → InRange I8 v → IsByte v (byte_of v)
i8_is (pos m) h =
    let low : m ≤ 127 = omega (arith, ints, h.1) in
    let same : m ≡ m % 256 = omega (arith, low) in
    record { low = omega arith; is = inl (ap pos same) }
i8_is (negsuc m) h =
    let low : m ≤ 127 = omega (arith, ints, h.0) in
    let same : 255 - m ≡ (256 - suc m) % 256 = omega (arith, low) in
    let e : negsuc m +ℤ pos 256 ≡ pos (255 - m) = omega (arith, ints, low) in
    record { low = omega arith; is = inr (e ∙ ap pos same) }

u8_is : (v : ℤ) → InRange U8 v → IsByte v (byte_of v)
u8_is (pos m) h = record { low = omega arith; is = inl (ap pos (let same : m ≡ m % 256 = omega (arith, ints, h.1) in same)) }
u8_is (negsuc m) h = absurd (omega (arith, ints, h.0))

byte_is : (kind : PixelType) (v : ℤ) → IsByteType kind → InRange kind v → IsByte v (byte_of v)
byte_is kind v byte = by_byte (λ k. InRange k v → IsByte v (byte_of v)) (i8_is v) (u8_is v) kind byte

by_bytes : (b : ℕ) (v p : ℤ) (x y m : ℕ) → b < 256 → IsByte v x → IsByte p y → ((v -ℤ p) +ℤ pos b) +ℤ pos (2 * 256) ≡ pos m → m % 256 ≡ wrapped b x y
by_bytes b v p x y m low hv hp e = by hv.is hp.is
  where
    -- a byte less another, up to a multiple of 256
    turns : (k : ℕ) → m + y ≡ x + b + k * 256 → m % 256 ≡ wrapped b x y
    turns k n = let x_low = hv.low in let y_low = hp.low in omega (arith, n, x_low, y_low, low)

    by : (v ≡ pos x) ⊎ (v +ℤ pos 256 ≡ pos x) → (p ≡ pos y) ⊎ (p +ℤ pos 256 ≡ pos y) → m % 256 ≡ wrapped b x y
    by (inl f) (inl g) = turns 2 (omega (arith, ints, e, f, g))
    by (inl f) (inr g) = turns 3 (omega (arith, ints, e, f, g))
    by (inr f) (inl g) = turns 1 (omega (arith, ints, e, f, g))
    by (inr f) (inr g) = turns 2 (omega (arith, ints, e, f, g))

-- the symbol of a difference, by bytes
pub wrapped_symbol : (kind : PixelType) (v p : ℤ) → IsByteType kind → InRange kind v → InRange kind p → symbol_of kind (v -ℤ p) ≡ wrapped (bias kind) (byte_of v) (byte_of p)
wrapped_symbol kind v p byte hv hp =
    let m = unsigned_abs ((v -ℤ p) +ℤ pos (bias kind + 512)) in
    let near = by_byte (λ k. InRange k v → InRange k p → negsuc 511 ≤ℤ (v -ℤ p)) (λ hv hp. omega (arith, ints, hv.0, hp.1)) (λ hv hp. omega (arith, ints, hv.0, hp.1)) kind byte hv hp in
    let e : ((v -ℤ p) +ℤ pos (bias kind)) +ℤ pos (2 * 256) ≡ pos m = lifted (v -ℤ p) (bias kind) near in
    symbol-is kind (v -ℤ p) m e ∙ by_bytes (bias kind) v p (byte_of v) (byte_of p) m (low_bias kind) (byte_is kind v byte hv) (byte_is kind p byte hp) e

-- ---- the bytes of a raster

one_byte : (kind : PixelType) (v : ℤ) → IsByteType kind → value_bytes kind v ≡ byte_of v ∷ []
one_byte kind v byte = by_byte (λ k. value_bytes k v ≡ byte_of v ∷ []) refl refl kind byte

pub bytes_map : (kind : PixelType) (vs : List ℤ) → IsByteType kind → values_bytes kind vs ≡ map byte_of vs
bytes_map kind [] byte = refl
bytes_map kind (v ∷ vs) byte =
    flat_map-cons (value_bytes kind) v vs ∙ ap (λ (bs : List ℕ). bs ++ values_bytes kind vs) (one_byte kind v byte) ∙ ap (λ (bs : List ℕ). byte_of v ∷ bs) (bytes_map kind vs byte)

-- ---- the first column

pub column_next : (cols at : ℕ) → at % cols ≡ 0 → (at + cols) % cols ≡ 0
column_next cols at e = add-mod_right at cols ∙ e

-- only one place of a row is in the first column
pub column_one : (cols at k : ℕ) → at % cols ≡ 0 → at ≤ k → k < at + cols → k % cols ≡ 0 → k ≡ at
column_one cols at k e from to is =
    let j = k - at in
    let sum : k ≡ at + j = omega (arith, from) in
    let low : j < cols = omega (arith, from, to) in
    let plain : j ≡ 0 + j = omega arith in
    let none : j ≡ 0 = sym (mod-eq_of_lt low) ∙ ap (λ n. n % cols) plain ∙ ap (λ n. (n + j) % cols) (sym e) ∙ mod-add-mod at cols j ∙ ap (λ n. n % cols) (sym sum) ∙ is in
    omega (arith, sum, none)

pub not_first : (cols at k : ℕ) → at % cols ≡ 0 → 0 < k % cols → k ≢ at
not_first cols at k e some is = let same : k % cols ≡ 0 = ap (λ n. n % cols) is ∙ e in omega (arith, some, same)

-- ---- full rasters

pub rank_most : (mark : ℕ → Bool) (n : ℕ) → rank mark n ≤ n
rank_most mark zero = omega arith
rank_most mark (suc n) = let before = rank_most mark n in elim (mark n) as (λ b. cond b (rank mark n + 1) (rank mark n) ≤ suc n) [
  | true ↦ omega (arith, before)
  | false ↦ omega (arith, before)
]

pub rank_full : (mark : ℕ → Bool) (n : ℕ) → rank mark n ≡ n → (k : ℕ) → k < n → mark k ≡ true
rank_full mark zero all k lt = absurd (omega (arith, lt))
rank_full mark (suc n) all k lt = by (mark n) refl (λ before below. rank_full mark n before k below)
  where
    by : (b : Bool) → mark n ≡ b → (rank mark n ≡ n → k < n → mark k ≡ true) → mark k ≡ true
    by true on earlier =
        let before : rank mark n + 1 ≡ suc n = sym (ap (λ b. cond b (rank mark n + 1) (rank mark n)) on) ∙ all in
        elim (cases_lt k n) [
          | inl below ↦ earlier (omega (arith, before)) below
          | inr here ↦ ap mark (let e : k ≡ n = omega (arith, here, lt) in e) ∙ on
        ]
    by false off earlier =
        let before : rank mark n ≡ suc n = sym (ap (λ b. cond b (rank mark n + 1) (rank mark n)) off) ∙ all in
        absurd (omega (arith, before, rank_most mark n))

pub rank_at : (mark : ℕ → Bool) (n : ℕ) → ((k : ℕ) → k < n → mark k ≡ true) → (k : ℕ) → k ≤ n → rank mark k ≡ k
rank_at mark n each zero le = refl
rank_at mark n each (suc k) le =
    ap (rank mark) (sym (add-one k)) ∙ rank_on mark k (each k (omega (arith, le))) ∙ (let before = rank_at mark n each k (omega (arith, le)) in omega (arith, before))

-- ---- predictors of full rasters

pub full_predictor : (cols : ℕ) (valid : ℕ → Bool) (value : ℕ → ℤ) (n k : ℕ) → 0 < cols → ((j : ℕ) → j < n → valid j ≡ true) → k < n
    → predictor cols valid value k ≡ cond (nat_lt 0 (k % cols)) (value (k - 1)) (cond (nat_le cols k) (value (k - cols)) (pos 0))
full_predictor cols valid value n k some each lt =
    predictor-is cols valid value k ∙ by (nat_lt 0 (k % cols)) (nat_le cols k) refl refl
  where
    by : (a b : Bool) → nat_lt 0 (k % cols) ≡ a → nat_le cols k ≡ b
        → cond (nat_lt 0 (k % cols) && valid (k - 1)) (value (k - 1)) (cond (nat_le cols k && valid (k - cols)) (value (k - cols)) (last_value valid value k))
        ≡ cond (nat_lt 0 (k % cols)) (value (k - 1)) (cond (nat_le cols k) (value (k - cols)) (pos 0))
    by true b left upper =
        let on : valid (k - 1) ≡ true = each (k - 1) (omega (arith, lt)) in
        (λ i. cond (left i && on i) (value (k - 1)) (cond (nat_le cols k && valid (k - cols)) (value (k - cols)) (last_value valid value k)))
        ∙ sym (ap (λ (x : Bool). cond x (value (k - 1)) (cond (nat_le cols k) (value (k - cols)) (pos 0))) left)
    by false true left upper =
        let on : valid (k - cols) ≡ true = each (k - cols) (omega (arith, lt)) in
        (λ i. cond (left i && valid (k - 1)) (value (k - 1)) (cond (upper i && on i) (value (k - cols)) (last_value valid value k)))
        ∙ sym (λ i. cond (left i) (value (k - 1)) (cond (upper i) (value (k - cols)) (pos 0)))
    by false false left upper =
        let at : k ≡ 0 = first k cols some left upper in
        (λ i. cond (left i && valid (k - 1)) (value (k - 1)) (cond (upper i && valid (k - cols)) (value (k - cols)) (last_value valid value (at i))))
        ∙ last-zero valid value
        ∙ sym (λ i. cond (left i) (value (k - 1)) (cond (upper i) (value (k - cols)) (pos 0)))
      where
        first : (k cols : ℕ) → 0 < cols → nat_lt 0 (k % cols) ≡ false → nat_le cols k ≡ false → k ≡ 0
        first k cols some left upper =
            let none : k % cols ≡ 0 = low (k % cols) left in
            let below : k < cols = under cols k upper in
            small k cols none below
          where
            low : (x : ℕ) → nat_lt 0 x ≡ false → x ≡ 0
            low x e = grind (arith, nat_tests)

            under : (a b : ℕ) → nat_le a b ≡ false → b < a
            under a b e = grind (arith, nat_tests)

            small : (k cols : ℕ) → k % cols ≡ 0 → k < cols → k ≡ 0
            small k cols e lt = sym (mod-eq_of_lt lt) ∙ e
