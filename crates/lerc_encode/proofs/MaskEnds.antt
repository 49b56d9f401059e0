-- A mask whose bits behind the last pixel are cleared.
use Rattle.std.proofs.Common.{◌≡◌, ◌≢◌, ℕ, ◌+◌, ◌-◌, ◌*◌, ◌/◌, ◌%◌, ◌^◌, ◌<◌, ◌≤◌, true, false, List, length, get_or, sym, ap, ◌∙◌, subst, ⊎_elim, arith, ◌&&◌}
use Rattle.std.specs.Prelude.{None, bit_and, is_some, min, nat_eq, nat_lt}
use Rattle.std.specs.Int.{bit_at}
use Rattle.std.proofs.lemmas.Bool.{cases_eq, cases_lt}
use Rattle.std.proofs.lemmas.Bool.Decides.{nat_tests}
use Rattle.std.proofs.lemmas.List.{get_or-set_same, get_or-set_other, get_or_past, length-set}
use Rattle.std.proofs.lemmas.Nat.Bits.{bit_at_and, bit_at_mask_inside, bit_at_mask_below, bit_at-lt, bit_at-zero, ones_shl}
use Rattle.std.proofs.Math.Nat.{mul-le-mul}
use Rattle.mask_runs.specs.Ending.{ending_with}
use Rattle.raster_values.specs.Raster.{Pixels, IsRaster}
use Rattle.raster_cells.specs.Masks.{mask_bit}
use Rattle.raster_values.specs.Flat.{marks_of}
use Rattle.lerc_encode.specs.Masks.{packed}
use Rattle.lerc_encode.proofs.Packing.{mask_packed}

-- a byte without its last bits
pub bit_kept : (byte count q : ℕ) → count < 8 → q < 8 → nat_eq (bit_and byte (255 * 2 ^ count % 256) / 2 ^ (7 - q) % 2) 1 ≡ (nat_lt q (8 - count) && nat_eq (byte / 2 ^ (7 - q) % 2) 1)
bit_kept byte count q below within =
    let shift : count ≤ 8 = omega (arith, below) in
    let mask : 255 * 2 ^ count % 256 ≡ 2 ^ 8 - 2 ^ count = ones_shl 8 count shift in
    let both : bit_at (bit_and byte (255 * 2 ^ count % 256)) (7 - q) ≡ min (bit_at byte (7 - q)) (bit_at (2 ^ 8 - 2 ^ count) (7 - q)) =
    bit_at_and byte (255 * 2 ^ count % 256) (7 - q) ∙ ap (λ m. min (bit_at byte (7 - q)) (bit_at m (7 - q))) mask in
    ⊎_elim
    (λ (lt : q < 8 - count).
    let one : bit_at (2 ^ 8 - 2 ^ count) (7 - q) ≡ 1 = bit_at_mask_inside count 8 (7 - q) (omega (arith, lt, below)) (omega arith) in
    let t : nat_lt q (8 - count) ≡ true = grind (arith, nat_tests) in
    let kept : min (bit_at byte (7 - q)) (bit_at (2 ^ 8 - 2 ^ count) (7 - q)) ≡ bit_at byte (7 - q) = omega (arith, one, bit_at-lt byte (7 - q)) in
    ap (λ n. nat_eq n 1) (both ∙ kept) ∙ ap (λ u. u && nat_eq (byte / 2 ^ (7 - q) % 2) 1) (sym t))
    (λ (ge : 8 - count ≤ q).
    let none : bit_at (2 ^ 8 - 2 ^ count) (7 - q) ≡ 0 = bit_at_mask_below count 8 (7 - q) (omega (arith, ge, below, within)) in
    let t : nat_lt q (8 - count) ≡ false = grind (arith, nat_tests) in
    let gone : min (bit_at byte (7 - q)) (bit_at (2 ^ 8 - 2 ^ count) (7 - q)) ≡ 0 = omega (arith, none) in
    ap (λ n. nat_eq n 1) (both ∙ gone) ∙ ap (λ u. u && nat_eq (byte / 2 ^ (7 - q) % 2) 1) (sym t))
    (cases_lt q (8 - count))

-- the last byte has the bits of the pixels, and no further ones
abbrev pub EndsIn : ℕ → ℕ → ℕ → Type 0
EndsIn spare byte last = (q : ℕ) → q < 8 → nat_eq (last / 2 ^ (7 - q) % 2) 1 ≡ (nat_lt q (8 - spare) && nat_eq (byte / 2 ^ (7 - q) % 2) 1)

-- bits of a mask of so many pixels whose last byte is another
bit_same : (mask : List ℕ) (last k : ℕ) → 0 < length mask → k / 8 ≡ length mask - 1 → mask_bit (ending_with mask last) k ≡ nat_eq (last / 2 ^ (7 - k % 8) % 2) 1
bit_same mask last k some e =
    ap (λ b. nat_eq (b / 2 ^ (7 - k % 8) % 2) 1) (ap (λ i. get_or (ending_with mask last) i 0) e ∙ get_or-set_same mask (length mask - 1) last 0 (omega (arith, some)))

bit_other : (mask : List ℕ) (last k : ℕ) → k / 8 ≢ length mask - 1 → mask_bit (ending_with mask last) k ≡ mask_bit mask k
bit_other mask last k ne = ap (λ b. nat_eq (b / 2 ^ (7 - k % 8) % 2) 1) (get_or-set_other mask (length mask - 1) (k / 8) last 0 ne)

bit_of_pixel : (n : ℕ) (mask : List ℕ) (last k : ℕ) → 0 < n → length mask ≡ (n + 7) / 8 → EndsIn (8 * length mask - n) (get_or mask (length mask - 1) 0) last → k < n → mask_bit (ending_with mask last) k ≡ mask_bit mask k
bit_of_pixel n mask last k some size ends low =
    ⊎_elim
    (λ (e : k / 8 ≡ length mask - 1).
    let lt : k % 8 < 8 - (8 * length mask - n) = omega (arith, e, size, low, some) in
    let t : nat_lt (k % 8) (8 - (8 * length mask - n)) ≡ true = grind (arith, nat_tests) in
    bit_same mask last k (omega (arith, size, some)) e
    ∙ ends (k % 8) (omega arith)
    ∙ ap (λ u. u && nat_eq (get_or mask (length mask - 1) 0 / 2 ^ (7 - k % 8) % 2) 1) t
    ∙ ap (λ i. nat_eq (get_or mask i 0 / 2 ^ (7 - k % 8) % 2) 1) (sym e))
    (λ (ne : k / 8 ≢ length mask - 1). bit_other mask last k ne)
    (cases_eq (k / 8) (length mask - 1))

bit_behind : (n : ℕ) (mask : List ℕ) (last k : ℕ) → 0 < n → length mask ≡ (n + 7) / 8 → EndsIn (8 * length mask - n) (get_or mask (length mask - 1) 0) last → n ≤ k → mask_bit (ending_with mask last) k ≡ false
bit_behind n mask last k some size ends past =
    ⊎_elim
    (λ (e : k / 8 ≡ length mask - 1).
    let ge : 8 - (8 * length mask - n) ≤ k % 8 = omega (arith, e, size, past, some) in
    let t : nat_lt (k % 8) (8 - (8 * length mask - n)) ≡ false = grind (arith, nat_tests) in
    bit_same mask last k (omega (arith, size, some)) e
    ∙ ends (k % 8) (omega arith)
    ∙ ap (λ u. u && nat_eq (get_or mask (length mask - 1) 0 / 2 ^ (7 - k % 8) % 2) 1) t)
    (λ (ne : k / 8 ≢ length mask - 1).
    bit_other mask last k ne
    ∙ ap (λ b. nat_eq (b / 2 ^ (7 - k % 8) % 2) 1) (get_or_past mask (k / 8) 0 (omega (arith, ne, size, past, some)))
    ∙ ap (λ b. nat_eq b 1) (bit_at-zero (7 - k % 8)))
    (cases_eq (k / 8) (length mask - 1))

byte_below : (mask : List ℕ) (last k : ℕ) → 0 < length mask → last < 256 → ((i : ℕ) → get_or mask i 0 < 256) → get_or (ending_with mask last) k 0 < 256
byte_below mask last k some small below =
    ⊎_elim
    (λ (e : k ≡ length mask - 1). subst (λ b. b < 256) (sym (ap (λ i. get_or (ending_with mask last) i 0) e ∙ get_or-set_same mask (length mask - 1) last 0 (omega (arith, some)))) small)
    (λ (ne : k ≢ length mask - 1). subst (λ b. b < 256) (sym (get_or-set_other mask (length mask - 1) k last 0 ne)) (below k))
    (cases_eq k (length mask - 1))

-- so bytes that have a raster's marks are its mask
pub ending_packed : (r : Pixels) (mask : List ℕ) (last : ℕ) → IsRaster r → length mask ≡ (r.rows * r.cols + 7) / 8 → ((i : ℕ) → get_or mask i 0 < 256)
    → ((k : ℕ) → k < r.rows * r.cols → mask_bit mask k ≡ is_some (get_or r.pixels k None)) → last < 256 → EndsIn (8 * length mask - r.rows * r.cols) (get_or mask (length mask - 1) 0) last
    → ending_with mask last ≡ packed (marks_of r)
ending_packed r mask last is size below bits small ends =
    let some : 1 * 1 ≤ r.rows * r.cols = mul-le-mul is.shape.rows_above is.shape.cols_above in
    mask_packed r (ending_with mask last) is (record {
      size = length-set mask (length mask - 1) last ∙ size;
      bytes = λ k. byte_below mask last k (omega (arith, size, some)) small below;
      bits = λ k low. bit_of_pixel (r.rows * r.cols) mask last k (omega (arith, some)) size ends low ∙ bits k low;
      spare = λ k past. bit_behind (r.rows * r.cols) mask last k (omega (arith, some)) size ends past;
    })
