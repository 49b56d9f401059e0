-- The number in front of a tile, as it is read.
use Rattle.std.proofs.Common.{◌≡◌, ◌≢◌, refl, Bool, true, false, ℕ, ◌+◌, ◌-◌, ◌<◌, ◌≤◌, ◌==◌, nat_eq, nat_lt, if◌then◌else◌, List, ◌++◌, length, get_or, take, drop, sym, ◌∙◌, ap, arith}
use mathlib.Core.Bool.{not}
use Rattle.std.proofs.lemmas.Bool.Decides.{nat_tests}
use Rattle.std.proofs.lemmas.List.{places}
use Rattle.outside_io.specs.volume.History.{ReadsAt}
use Rattle.bundle_index.specs.Numbers.{u32_at}
use Rattle.bundle_index.specs.declared.entry.Entry.{Entry}
use Rattle.bundle_index.proofs.Numbers.{SameAt, same_u32}
use Rattle.bundle_store.specs.Check.{is_bad}

-- ---- the four bytes

first_part : (c z : List ℕ) (n at i : ℕ) → n ≤ length c - at → i < n → get_or (take n (drop at c) ++ z) i 0 ≡ get_or c (at + i) 0
first_part c z n at i within lt = grind (arith, places)

read_four : (c z stored : List ℕ) (at n : ℕ) → length z ≡ 4 → at + 4 ≤ length c → ReadsAt c at n z stored → SameAt 4 stored 0 c at
read_four c z stored at n four within reads = λ i lt.
    let count = reads.count in
    ap (λ (m : ℕ). get_or stored m 0) (let e : 0 + i ≡ i = omega arith in e) ∙ ap (λ (l : List ℕ). get_or l i 0) reads.bytes
    ∙ first_part c (drop n z) n at i (omega (arith, count, four)) (omega (arith, count, four, lt))

pub read_number : (c z stored : List ℕ) (at n : ℕ) → length z ≡ 4 → at + 4 ≤ length c → ReadsAt c at n z stored → u32_at stored 0 ≡ u32_at c at
read_number c z stored at n four within reads = same_u32 stored c 0 at (read_four c z stored at n four within reads)

-- ---- the four tests of an entry

differ : (n m : ℕ) → n ≢ m → (n == m) ≡ false
differ n m differs = grind (arith, nat_tests)

less : (n m : ℕ) → n < m → nat_lt n m ≡ true
less n m lt = grind (arith, nat_tests)

not_less : (n m : ℕ) → m ≤ n → nat_lt n m ≡ false
not_less n m ge = grind (arith, nat_tests)

abbrev by_tests : Bool → Bool → Bool → Bool → Bool
by_tests a b c d = if a then false else (if b then true else (if c then true else (if d then false else true)))

tests : (bundle : List ℕ) (e : Entry) (a b c d : Bool) → (e.size == 0) ≡ a → nat_lt e.offset 131140 ≡ b → nat_lt (length bundle) (e.offset + e.size) ≡ c → (u32_at bundle (e.offset - 4) == e.size) ≡ d
    → is_bad bundle e ≡ by_tests a b c d
tests bundle e a b c d one two three four = λ i. by_tests (one i) (two i) (three i) (four i)

pub low_is_bad : (bundle : List ℕ) (e : Entry) → 0 < e.size → e.offset < 131140 → true ≡ is_bad bundle e
low_is_bad bundle e some low = sym (tests bundle e false true _ _ (differ e.size 0 (λ is. absurd (omega (arith, is, some)))) (less e.offset 131140 low) refl refl)

pub long_is_bad : (bundle : List ℕ) (e : Entry) → 0 < e.size → 131140 ≤ e.offset → length bundle < e.offset + e.size → true ≡ is_bad bundle e
long_is_bad bundle e some high past =
    sym (tests bundle e false false true _ (differ e.size 0 (λ is. absurd (omega (arith, is, some)))) (not_less e.offset 131140 high) (less (length bundle) (e.offset + e.size) past) refl)

not_if : (d : Bool) → not d ≡ (if d then false else true)
not_if true = refl
not_if false = refl

pub number_decides : (bundle : List ℕ) (e : Entry) (r : ℕ) → 0 < e.size → 131140 ≤ e.offset → e.offset + e.size ≤ length bundle → r ≡ u32_at bundle (e.offset - 4) → not (nat_eq r e.size) ≡ is_bad bundle e
number_decides bundle e r some high within is =
    ap (λ (n : ℕ). not (nat_eq n e.size)) is ∙ not_if (u32_at bundle (e.offset - 4) == e.size)
    ∙ sym (tests bundle e false false false (u32_at bundle (e.offset - 4) == e.size) (differ e.size 0 (λ is. absurd (omega (arith, is, some)))) (not_less e.offset 131140 high) (not_less (length bundle) (e.offset + e.size) within) refl)
