-- Values that come one after the other from their symbols.
use Rattle.std.proofs.Common.{◌≡◌, ◌≢◌, ℕ, zero, suc, ℤ, pos, ◌+ℤ◌, ◌-ℤ◌, ◌≤ℤ◌, ◌+◌, ◌-◌, ◌*◌, ◌%◌, ◌<◌, ◌≤◌, List, length, get_or, set, refl, sym, ap, ◌∙◌, arith, add-one, below_more}
use Rattle.std.specs.Prelude.{All}
use Rattle.std.proofs.lemmas.Int.{ints}
use Rattle.std.proofs.lemmas.List.{get_or-set_same, get_or-set_other}
use Rattle.std.proofs.lemmas.List.Elements.{All-from_get_or}
use Rattle.raster_cells.specs.declared.kind.PixelType.{PixelType}
use Rattle.raster_cells.specs.declared.kind.PixelType.TheVariants.{I8, U8}
use Rattle.raster_cells.specs.PixelType.{InRange}
use Rattle.raster_cells.specs.Values.{values_above}
use Rattle.raster_cells.proofs.GivenBytes.{above_at, length-above}
use Rattle.delta_mode.specs.Symbols.{IsByteType, bias, symbol_of}
use Rattle.delta_mode.specs.inside.Pieces.{value_of_place}
use Rattle.lane_kernels.specs.Running.{AreRunning, byte_before}
use Rattle.delta_mode.specs.inside.Runs.{AreSteps, value_before}
use Rattle.delta_mode.proofs.Numbers.{by_byte, symbol-is}

-- ---- a value as a byte: how far it is above the type's least

pub lifts : (kind : PixelType) (v : ℤ) → IsByteType kind → InRange kind v → (pos 0 ≤ℤ (v +ℤ pos (bias kind))) × ((v +ℤ pos (bias kind)) ≤ℤ pos 255)
lifts kind v byte = by_byte (λ k. InRange k v → (pos 0 ≤ℤ (v +ℤ pos (bias k))) × ((v +ℤ pos (bias k)) ≤ℤ pos 255))
    (λ h. (omega (arith, ints, h.0), omega (arith, ints, h.1))) (λ h. (omega (arith, ints, h.0), omega (arith, ints, h.1))) kind byte

pub byte_fits : (kind : PixelType) (n : ℕ) (v : ℤ) → IsByteType kind → n < 256 → v ≡ pos n -ℤ pos (bias kind) → InRange kind v
byte_fits kind n v byte = by_byte (λ k. n < 256 → v ≡ pos n -ℤ pos (bias k) → InRange k v)
    (λ lt e. (omega (arith, ints, lt, e), omega (arith, ints, lt, e))) (λ lt e. (omega (arith, ints, lt, e), omega (arith, ints, lt, e))) kind byte

-- the byte of the value that has this symbol behind another
pub byte_symbol : (kind : PixelType) (a b n s : ℕ) (v q : ℤ) → IsByteType kind → a ≡ bias kind → s < 256 → b < 256 → pos b ≡ q +ℤ pos (bias kind) → n ≡ (b + (s + a) % 256) % 256 → v ≡ pos n -ℤ pos (bias kind)
    → symbol_of kind (v -ℤ q) ≡ s
byte_symbol kind a b n s v q byte =
    by_byte (λ k. a ≡ bias k → s < 256 → b < 256 → pos b ≡ q +ℤ pos (bias k) → n ≡ (b + (s + a) % 256) % 256 → v ≡ pos n -ℤ pos (bias k) → symbol_of k (v -ℤ q) ≡ s)
    (λ ea ls lb eb en ev.
    let m = n + 640 - b in
    let e : ((v -ℤ q) +ℤ pos 128) +ℤ pos (2 * 256) ≡ pos m = omega (arith, ints, lb, eb, ev) in
    symbol-is I8 (v -ℤ q) m e ∙ (let f : m % 256 ≡ s = omega (arith, ea, ls, lb, en) in f))
    (λ ea ls lb eb en ev.
    let m = n + 512 - b in
    let e : ((v -ℤ q) +ℤ pos 0) +ℤ pos (2 * 256) ≡ pos m = omega (arith, ints, lb, eb, ev) in
    symbol-is U8 (v -ℤ q) m e ∙ (let f : m % 256 ≡ s = omega (arith, ea, ls, lb, en) in f))
    kind byte

-- ---- one byte more

before_kept : (first : ℕ) (bytes : List ℕ) (i n k : ℕ) → k ≤ i → byte_before first (set bytes i n) k ≡ byte_before first bytes k
before_kept first bytes i n zero le = refl
before_kept first bytes i n (suc k) le = let ne : k ≢ i = omega (arith, le) in get_or-set_other bytes i k n 0 ne

pub step_byte : (first : ℕ) (bytes : List ℕ) (i n : ℕ) → i < length bytes → n ≡ byte_before first (set bytes i n) (i + 1)
step_byte first bytes i n room = sym (ap (byte_before first (set bytes i n)) (add-one i) ∙ get_or-set_same bytes i n 0 room)

pub step_rest : (symbols bytes : List ℕ) (i n : ℕ) → ((k : ℕ) → i ≤ k → get_or bytes k 0 ≡ get_or symbols k 0) → (k : ℕ) → i + 1 ≤ k → get_or (set bytes i n) k 0 ≡ get_or symbols k 0
step_rest symbols bytes i n h k ge = let ne : k ≢ i = omega (arith, ge) in get_or-set_other bytes i k n 0 ne ∙ h k (omega (arith, ge))

pub step_more : (added first : ℕ) (symbols bytes : List ℕ) (i n : ℕ) → i < length bytes
    → ((k : ℕ) → k < i → get_or bytes k 0 ≡ (byte_before first bytes k + (get_or symbols k 0 + added) % 256) % 256)
    → n ≡ (byte_before first bytes i + (get_or symbols i 0 + added) % 256) % 256
    → (k : ℕ) → k < i + 1 → get_or (set bytes i n) k 0 ≡ (byte_before first (set bytes i n) k + (get_or symbols k 0 + added) % 256) % 256
step_more added first symbols bytes i n room earlier here =
    let new = set bytes i n in
    let again : (k : ℕ) → k ≤ i → (byte_before first bytes k + (get_or symbols k 0 + added) % 256) % 256 ≡ (byte_before first new k + (get_or symbols k 0 + added) % 256) % 256 =
    λ (k : ℕ) (le : k ≤ i). ap (λ b. (b + (get_or symbols k 0 + added) % 256) % 256) (sym (before_kept first bytes i n k le)) in
    below_more (λ k. get_or new k 0 ≡ (byte_before first new k + (get_or symbols k 0 + added) % 256) % 256) i
    (λ k lt. let ne : k ≢ i = omega (arith, lt) in get_or-set_other bytes i k n 0 ne ∙ earlier k lt ∙ again k (omega (arith, lt)))
    (get_or-set_same bytes i n 0 room ∙ here ∙ again i (omega arith))

-- where nothing is added, the running sums
pub steps_running : (first : ℕ) (symbols bytes : List ℕ) → AreRunning first symbols bytes → AreSteps 0 first symbols bytes
steps_running first symbols bytes h i lt = omega (arith, h i lt)

-- ---- bytes as values

value_is : (kind : PixelType) (bytes : List ℕ) (i : ℕ) → i < length bytes → value_of_place (values_above (bias kind) bytes) i ≡ pos (get_or bytes i 0) -ℤ pos (bias kind)
value_is kind bytes i lt = above_at (bias kind) bytes i lt

pub bytes_fit : (kind : PixelType) (bytes : List ℕ) → IsByteType kind → ((k : ℕ) → k < length bytes → get_or bytes k 0 < 256) → All (InRange kind) (values_above (bias kind) bytes)
bytes_fit kind bytes byte low = All-from_get_or (InRange kind) (values_above (bias kind) bytes) (pos 0) (λ i below.
    let lt : i < length bytes = omega (arith, below, length-above (bias kind) bytes) in
    byte_fits kind (get_or bytes i 0) (get_or (values_above (bias kind) bytes) i (pos 0)) byte (low i lt) (value_is kind bytes i lt))

-- how far the value before one is above the type's least
before_above : (kind : PixelType) (first : ℕ) (p : ℤ) (bytes : List ℕ) (i : ℕ) → pos first ≡ p +ℤ pos (bias kind) → i ≤ length bytes
    → pos (byte_before first bytes i) ≡ value_before p (value_of_place (values_above (bias kind) bytes)) i +ℤ pos (bias kind)
before_above kind first p bytes zero e le = e
before_above kind first p bytes (suc i) e le =
    let is = value_is kind bytes i (omega (arith, le)) in
    let b = get_or bytes i 0 in
    let back : pos b ≡ (pos b -ℤ pos (bias kind)) +ℤ pos (bias kind) = omega (arith, ints) in
    back ∙ ap (λ z. z +ℤ pos (bias kind)) (sym is)

-- each value has the symbol behind the one before it
pub steps_symbols : (kind : PixelType) (first : ℕ) (p : ℤ) (symbols bytes : List ℕ) → IsByteType kind → pos first ≡ p +ℤ pos (bias kind) → first < 256 → ((k : ℕ) → get_or symbols k 0 < 256) → length bytes ≡ length symbols
    → AreSteps (bias kind) first symbols bytes
    → (i : ℕ) → i < length symbols
    → symbol_of kind (value_of_place (values_above (bias kind) bytes) i -ℤ value_before p (value_of_place (values_above (bias kind) bytes)) i) ≡ get_or symbols i 0
steps_symbols kind first p symbols bytes byte e first_low low size steps i lt =
    let inside : i < length bytes = omega (arith, lt, size) in
    let b = byte_before first bytes i in
    let b_low : b < 256 = before_low i inside in
    byte_symbol kind (bias kind) b (get_or bytes i 0) (get_or symbols i 0) (value_of_place (values_above (bias kind) bytes) i) (value_before p (value_of_place (values_above (bias kind) bytes)) i) byte refl (low i) b_low
    (before_above kind first p bytes i e (omega (arith, inside))) (steps i lt) (value_is kind bytes i inside)
  where
    before_low : (k : ℕ) → k < length bytes → byte_before first bytes k < 256
    before_low zero below = first_low
    before_low (suc k) below = (let is = steps k (omega (arith, below, size)) in omega (arith, is))

pub before_at : (first : ℤ) (now : ℕ → ℤ) (i : ℕ) → 0 < i → value_before first now i ≡ now (i - 1)
before_at first now zero lt = absurd (omega (arith, lt))
before_at first now (suc i) lt = ap now (let e : i ≡ suc i - 1 = omega arith in e)
