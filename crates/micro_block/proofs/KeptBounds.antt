-- The bounds of tables that are kept, by a test of each that is computed.
use Rattle.std.proofs.Common.{◌≡◌, ℕ, zero, suc, ◌+◌, ◌^◌, ◌<◌, ◌≤◌, Bool, true, false, List, [], ◌∷◌, length, get_or, max, refl, ap, subst, arith, inl, inr}
use Rattle.std.specs.Prelude.{◌&&◌, ◌||◌, nat_le}
use Rattle.std.proofs.lemmas.Bool.{cases_lt, leb-true}
use Rattle.bit_stuff.specs.Simple.{binary_digits}
use Rattle.bit_stuff.specs.Stuffed.{stuffed_size}
use Rattle.bit_stuff.proofs.Digits.{digits-le, digits_step}
use Rattle.bit_stuff.proofs.StuffedLaws.{stuffed_size-le}
use Rattle.micro_block.specs.inside.Shorter.{IsLong}
use Rattle.micro_block.proofs.ShortTables.{digits_high, digits_low}
use Rattle.micro_block.proofs.Written.{left, right}

-- no table is shorter of more entries than the bound that have k + 1 digits
abbrev pub long_at : ℕ → ℕ → ℕ → ℕ → Bool
long_at count width bound k = nat_le (2 ^ (k + 1)) (bound + 1) || nat_le (stuffed_size count width) (1 + stuffed_size (max (2 ^ k) (bound + 1)) width + stuffed_size count (k + 1))

-- of entries with at most so many digits
abbrev pub long_up_to : ℕ → ℕ → ℕ → ℕ → Bool
long_up_to count width bound zero = true
long_up_to count width bound (suc k) = long_at count width bound k && long_up_to count width bound k

-- so it is for each bound, from a width on
abbrev pub all_long : ℕ → ℕ → List ℕ → Bool
all_long count width [] = true
all_long count width (b ∷ bounds) = long_up_to count width b 8 && all_long count (width + 1) bounds

either : (a b : Bool) → (a || b) ≡ true → (a ≡ false → b ≡ true)
either true b h e = absurd (cc)
either false b h e = h

at_digits : (count width bound k d : ℕ) → long_at count width bound k ≡ true → d ≤ 254 → binary_digits d ≡ k + 1 → bound < d → IsLong count width d
at_digits count width bound k d test few digits above = by (nat_le (2 ^ (k + 1)) (bound + 1)) refl
  where
    high : d < 2 ^ (k + 1)
    high = digits_high d (k + 1) few digits

    low : 2 ^ k ≤ d
    low = digits_low d k digits

    same : stuffed_size count (binary_digits d) ≡ stuffed_size count (k + 1)
    same = ap (stuffed_size count) digits

    more : stuffed_size (max (2 ^ k) (bound + 1)) width ≤ stuffed_size d width
    more = stuffed_size-le (max (2 ^ k) (bound + 1)) d width width (omega (arith, low, above)) (omega arith)

    by : (b : Bool) → nat_le (2 ^ (k + 1)) (bound + 1) ≡ b → IsLong count width d
    by true e = absurd (let le = leb-true (2 ^ (k + 1)) (bound + 1) e in omega (arith, le, high, above))
    by false e = let le = leb-true (stuffed_size count width) (1 + stuffed_size (max (2 ^ k) (bound + 1)) width + stuffed_size count (k + 1)) (either (nat_le (2 ^ (k + 1)) (bound + 1)) _ test e) in omega (arith, le, more, same)

up_to : (count width bound n d : ℕ) → long_up_to count width bound n ≡ true → d ≤ 254 → 0 < binary_digits d → binary_digits d ≤ n → bound < d → IsLong count width d
up_to count width bound zero d test few some le above = absurd (omega (arith, some, le))
up_to count width bound (suc n) d test few some le above = elim (cases_lt (binary_digits d) (suc n)) [
  | inl less ↦ up_to count width bound n d (right (long_at count width bound n) (long_up_to count width bound n) test) few some (omega (arith, less)) above
  | inr more ↦ at_digits count width bound n d (left (long_at count width bound n) (long_up_to count width bound n) test) few (omega (arith, le, more)) above
]

has_digits : (d : ℕ) → 0 < d → 0 < binary_digits d
has_digits d some = let step = digits_step d some in omega (arith, step)

pub all_long_at : (count width : ℕ) (bounds : List ℕ) (i d : ℕ) → all_long count width bounds ≡ true → i < length bounds → get_or bounds i 0 < d → d ≤ 254 → IsLong count (width + i) d
all_long_at count width [] i d test within above few = absurd (omega (arith, within))
all_long_at count width (b ∷ bounds) zero d test within above few =
    subst (λ (w : ℕ). IsLong count w d) (let e : width ≡ width + 0 = omega arith in e)
    (up_to count width b 8 d (left (long_up_to count width b 8) (all_long count (width + 1) bounds) test) few (has_digits d (omega (arith, above))) (digits-le 8 d (omega (arith, few))) above)
all_long_at count width (b ∷ bounds) (suc i) d test within above few =
    subst (λ (w : ℕ). IsLong count w d) (let e : width + 1 + i ≡ width + suc i = omega arith in e)
    (all_long_at count (width + 1) bounds i d (right (long_up_to count width b 8) (all_long count (width + 1) bounds) test) (omega (arith, within)) above few)

pub from_first : (count : ℕ) (bounds : List ℕ) (i d : ℕ) → all_long count 0 bounds ≡ true → i < length bounds → get_or bounds i 0 < d → d ≤ 254 → IsLong count i d
from_first count bounds i d test within above few = subst (λ (w : ℕ). IsLong count w d) (let e : 0 + i ≡ i = omega arith in e) (all_long_at count 0 bounds i d test within above few)
