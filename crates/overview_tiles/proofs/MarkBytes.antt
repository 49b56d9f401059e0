-- Marks by counts, as the bits of bytes.
use Rattle.std.proofs.Common.{◌≡◌, ◌≢◌, ℕ, ◌+◌, ◌-◌, ◌*◌, ◌/◌, ◌%◌, ◌<◌, ◌≤◌, Bool, false, List, length, get_or, sym, ap, ◌∙◌, arith, ⊎_elim}
use Rattle.std.specs.Prelude.{◌&&◌, nat_eq, nat_lt}
use Rattle.std.proofs.Math.ListN.{set}
use Rattle.std.proofs.lemmas.Bool.{cases_eq, cases_lt, le-ltb, lt-ltb}
use Rattle.std.proofs.lemmas.Nat.Bits.{bit_at-zero}
use Rattle.std.proofs.lemmas.List.{get_or-set_same, get_or-set_other, get_or_past}
use Rattle.raster_cells.specs.Masks.{mask_bit}
use Rattle.overview_tiles.specs.inside.Means.{byte_bit}

-- ---- one byte

no_bit : (p : ℕ) → byte_bit 0 p ≡ false
no_bit p = ap (λ n. nat_eq n 1) (bit_at-zero (7 - p))

pub first_bits : (counts : List ℕ) (p : ℕ) → byte_bit 0 p ≡ (nat_lt p 0 && nat_lt 0 (get_or counts p 0))
first_bits counts p = no_bit p ∙ sym (ap (λ b. b && nat_lt 0 (get_or counts p 0)) (le-ltb p 0 (omega arith)))

lt_next : (p q : ℕ) → p ≢ q → nat_lt p q ≡ nat_lt p (q + 1)
lt_next p q ne = ⊎_elim
    (λ (less : p < q). lt-ltb p q less ∙ sym (lt-ltb p (q + 1) (omega (arith, less))))
    (λ (over : q ≤ p). le-ltb p q over ∙ sym (le-ltb p (q + 1) (omega (arith, over, ne))))
    (cases_lt p q)

-- the bit of one pixel more
pub next_bits : (counts : List ℕ) (q p : ℕ) (was is : Bool) → was ≡ (nat_lt p q && nat_lt 0 (get_or counts p 0)) → (p ≡ q → is ≡ nat_lt 0 (get_or counts q 0)) → (p ≢ q → is ≡ was) → is ≡ (nat_lt p (q + 1) && nat_lt 0 (get_or counts p 0))
next_bits counts q p was is before here there = ⊎_elim
    (λ (same : p ≡ q).
    here same ∙ sym (ap (λ b. b && nat_lt 0 (get_or counts p 0)) (lt-ltb p (q + 1) (omega (arith, same))) ∙ ap (λ n. nat_lt 0 (get_or counts n 0)) same))
    (λ (ne : p ≢ q). there ne ∙ before ∙ ap (λ b. b && nat_lt 0 (get_or counts p 0)) (lt_next p q ne))
    (cases_eq p q)

-- and of all
pub last_bits : (counts : List ℕ) (p : ℕ) (is : Bool) → is ≡ (nat_lt p (length counts) && nat_lt 0 (get_or counts p 0)) → is ≡ nat_lt 0 (get_or counts p 0)
last_bits counts p is e = ⊎_elim
    (λ (less : p < length counts). e ∙ ap (λ b. b && nat_lt 0 (get_or counts p 0)) (lt-ltb p (length counts) less))
    (λ (past : length counts ≤ p). e ∙ ap (λ b. b && nat_lt 0 (get_or counts p 0)) (le-ltb p (length counts) past) ∙ sym (ap (nat_lt 0) (get_or_past counts p 0 past)))
    (cases_lt p (length counts))

-- ---- byte by byte

pub next_byte : (counts part mask : List ℕ) (i v k : ℕ) → i < length mask → k < 8 * (i + 1) → k < length counts
    → ((q : ℕ) → q < 8 → byte_bit v q ≡ nat_lt 0 (get_or part q 0))
    → ((q : ℕ) → q < 8 → 8 * i + q < length counts → get_or part q 0 ≡ get_or counts (8 * i + q) 0)
    → ((j : ℕ) → j < 8 * i → j < length counts → mask_bit mask j ≡ nat_lt 0 (get_or counts j 0))
    → mask_bit (set mask i v) k ≡ nat_lt 0 (get_or counts k 0)
next_byte counts part mask i v k inside below less bits part_is before = ⊎_elim
    (λ (same : k / 8 ≡ i).
    let there : 8 * i + k % 8 ≡ k = omega (arith, same) in
    ap (λ n. byte_bit n (k % 8)) (ap (λ j. get_or (set mask i v) j 0) same ∙ get_or-set_same mask i v 0 inside)
    ∙ bits (k % 8) (omega arith)
    ∙ ap (nat_lt 0) (part_is (k % 8) (omega arith) (omega (arith, less, there)) ∙ ap (λ n. get_or counts n 0) there))
    (λ (ne : k / 8 ≢ i).
    ap (λ n. byte_bit n (k % 8)) (get_or-set_other mask i (k / 8) v 0 ne) ∙ before k (omega (arith, below, ne)) less)
    (cases_eq (k / 8) i)
