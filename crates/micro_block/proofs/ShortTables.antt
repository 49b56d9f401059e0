-- Where a table can be shorter, and how many different numbers there are at least.
use Rattle.std.proofs.Common.{◌≡◌, ℕ, map, zero, suc, ◌+◌, ◌-◌, ◌*◌, ◌/◌, ◌%◌, ◌^◌, ◌<◌, ◌≤◌, Bool, cond, true, false, List, [], ◌∷◌, ◌++◌, length, get_or, take, refl, sym, ap, subst, ◌∙◌, arith, inl, inr}
use Rattle.std.specs.Prelude.{set, min}
use Rattle.std.proofs.lemmas.Bool.{cases_eq, cases_lt}
use Rattle.std.proofs.lemmas.List.{get_or-set_other, get_or-set_same}
use Rattle.std.proofs.Math.Nat.{pow-le-pow_right}
use Rattle.std.proofs.lemmas.Nat.{pow-add, pow_pos}
use Rattle.bit_stuff.specs.Simple.{binary_digits}
use Rattle.bit_stuff.specs.Stuffed.{stuffed_size}
use Rattle.bit_stuff.proofs.Digits.{digits-le, digits-zero, digits_hold_below}
use Rattle.bit_stuff.proofs.StuffedLaws.{stuffed_size-le}
use Rattle.lut_stuff.specs.Tables.{distinct_above_0, entries_of}
use Rattle.lut_stuff.proofs.Rising.{Has, Rising, entries_from, entries_have, entries_rising, rising_above}
use Rattle.lut_stuff.proofs.Tabled.{distinct_is}
use Rattle.micro_block.specs.inside.Shorter.{AreLongAbove, BoundsAt, IsLong}
use Rattle.micro_block.proofs.Fast.{entries_fit}

-- ---- digits

pub digits_low : (d k : ℕ) → binary_digits d ≡ k + 1 → 2 ^ k ≤ d
digits_low d k e = elim (cases_lt d (2 ^ k)) [
  | inl low ↦ absurd (let le = digits-le k d low in omega (arith, le, e))
  | inr high ↦ high
]

pub digits_high : (d k : ℕ) → d ≤ 254 → binary_digits d ≡ k → d < 2 ^ k
digits_high d k few e = subst (λ (n : ℕ). d < 2 ^ n) e (digits_hold_below 8 d (omega (arith, few)))

pub digits_from : (d k : ℕ) → d ≤ 254 → 2 ^ k ≤ d → k < binary_digits d
digits_from d k few low = elim (cases_lt k (binary_digits d)) [
  | inl more ↦ more
  | inr less ↦ absurd (let up : 2 ^ binary_digits d ≤ 2 ^ k = pow-le-pow_right (omega arith) less in let held = digits_hold_below 8 d (omega (arith, few)) in omega (arith, up, held, low))
]

-- ---- one number of digits

pub none_shorter : (count width k : ℕ) → stuffed_size count width ≤ 1 + stuffed_size count (k + 1) + stuffed_size (2 ^ k) width → AreLongAbove count width (k + 1) 0
none_shorter count width k long d few e some =
    let more = stuffed_size-le (2 ^ k) d width width (digits_low d k e) (omega arith) in
    let same : stuffed_size count (binary_digits d) ≡ stuffed_size count (k + 1) = ap (stuffed_size count) e in
    omega (arith, long, more, same)

-- what stands above the bound, by the least number of that many digits
pub bound_at : (count width k d most : ℕ) → 0 < width → d ≤ 254 → binary_digits d ≡ k + 1
    → most ≡ min (8 * (stuffed_size count width - 1 - (1 + stuffed_size count (k + 1))) / width) (2 * 2 ^ k - 1) → most < d → IsLong count width d
bound_at count width k d most some few e is above =
    let high : d < 2 ^ (k + 1) = digits_high d (k + 1) few e in
    let power = pow-add 2 k 1 in
    let twice : 2 ^ (k + 1) ≡ 2 * 2 ^ k = omega (arith, power) in
    let fit = 8 * (stuffed_size count width - 1 - (1 + stuffed_size count (k + 1))) / width in
    let past : fit < d = omega (arith, is, above, high, twice) in
    let same : stuffed_size count (binary_digits d) ≡ stuffed_size count (k + 1) = ap (stuffed_size count) e in
    elim (cases_lt (1 + stuffed_size count (k + 1) + (d * width + 7) / 8) (stuffed_size count width)) [
      | inl shorter ↦ absurd (let both = (entries_fit d width (1 + stuffed_size count (k + 1)) (stuffed_size count width) some).0 shorter in let le = both.1 in omega (arith, le, past))
      | inr long ↦ omega (arith, long, same)
    ]

-- the least number of that many digits is not above it
pub bound_low : (count width k most : ℕ) → 0 < width → 1 + stuffed_size count (k + 1) + stuffed_size (2 ^ k) width < stuffed_size count width
    → most ≡ min (8 * (stuffed_size count width - 1 - (1 + stuffed_size count (k + 1))) / width) (2 * 2 ^ k - 1) → 2 ^ k ≤ most
bound_low count width k most some short is =
    let both = (entries_fit (2 ^ k) width (1 + stuffed_size count (k + 1)) (stuffed_size count width) some).0 short in
    let le = both.1 in
    let there : 0 < 2 ^ k = pow_pos k in
    omega (arith, le, is, there)

-- ---- all numbers of digits

-- each number of entries of at least so many digits is too many
abbrev pub AllLong : ℕ → ℕ → ℕ → Type 0
AllLong count width i = (d : ℕ) → d ≤ 254 → 9 ≤ binary_digits d + i → IsLong count width d

pub long_start : (count width : ℕ) → AllLong count width 0
long_start count width d few h = absurd (let le = digits-le 8 d (omega (arith, few)) in omega (arith, le, h))

pub long_more : (count width i : ℕ) → i < 8 → AllLong count width i → AreLongAbove count width (7 - i + 1) 0 → AllLong count width (i + 1)
long_more count width i low all here d few h = elim (cases_lt (8 - i) (binary_digits d)) [
  | inl more ↦ all d few (omega (arith, more, low))
  | inr less ↦ here d few (omega (arith, less, h, low)) (some d (omega (arith, h, low)))
]
  where
    some : (d : ℕ) → 0 < binary_digits d → 0 < d
    some zero h = absurd (let z = digits-zero in omega (arith, z, h))
    some (suc d) h = omega arith

pub long_found : (count width i most : ℕ) → i < 8 → AllLong count width i → BoundsAt count width (7 - i) most → (d : ℕ) → most < d → d ≤ 254 → IsLong count width d
long_found count width i most low all bounds d above few =
    let least = bounds.0 in
    let more : 7 - i < binary_digits d = digits_from d (7 - i) few (omega (arith, least, above)) in
    elim (cases_lt (8 - i) (binary_digits d)) [
      | inl greater ↦ all d few (omega (arith, greater, low))
      | inr less ↦ bounds.1.1 d few (omega (arith, less, more, low)) above
    ]

pub long_all : (count width i : ℕ) → 8 ≤ i → i ≤ 8 → AllLong count width i → (d : ℕ) → 0 < d → d ≤ 254 → IsLong count width d
long_all count width i low high all d some few = all d few (let more = digits_from d 0 few (omega (arith, some)) in omega (arith, more, low))

-- ---- different numbers

abbrev pub Different : List ℕ → Type 0
Different [] = Unit {0}
Different (x ∷ xs) = (Has x xs → ⊥) × Different xs

-- a list with one member of it left out
record Without (x : ℕ) (ys : List ℕ) : Type 0 where
  rest : List ℕ
  size : length ys ≡ suc (length rest)
  keeps : (z : ℕ) → Has z ys → (z ≡ x → ⊥) → Has z rest

without : (x : ℕ) (ys : List ℕ) → Has x ys → Without x ys
without x [] h = absurd h
without x (y ∷ ys) (inl e) = record { rest = ys; size = refl; keeps = keep }
  where
    keep : (z : ℕ) → Has z (y ∷ ys) → (z ≡ x → ⊥) → Has z ys
    keep z (inl f) other = absurd (other (f ∙ sym e))
    keep z (inr h) other = h
without x (y ∷ ys) (inr h) = from (without x ys h)
  where
    from : Without x ys → Without x (y ∷ ys)
    from w = record { rest = y ∷ w.rest; size = ap suc w.size; keeps = keep }
      where
        keep : (z : ℕ) → Has z (y ∷ ys) → (z ≡ x → ⊥) → Has z (y ∷ w.rest)
        keep z (inl f) other = inl f
        keep z (inr g) other = inr (w.keeps z g other)

-- different numbers, each of which is what a function gives of some member of a list, are at most as many as the list has
pub image_fit : (g : ℕ → ℕ) (xs ys : List ℕ) → Different xs → ((z : ℕ) → Has z xs → (y : ℕ) × (Has y ys × (g y ≡ z))) → length xs ≤ length ys
image_fit g [] ys d h = omega arith
image_fit g (x ∷ xs) ys d h =
    let f = h x (inl refl) in
    let w = without f.0 ys f.1.0 in
    let size = w.size in
    let le = image_fit g xs w.rest d.1 (λ z has. kept w z has (h z (inr has))) in
    omega (arith, size, le)
  where
    f : (y : ℕ) × (Has y ys × (g y ≡ x))
    f = h x (inl refl)

    kept : (w : Without f.0 ys) (z : ℕ) → Has z xs → (y : ℕ) × (Has y ys × (g y ≡ z)) → (y : ℕ) × (Has y w.rest × (g y ≡ z))
    kept w z has s = (s.0, (w.keeps s.0 s.1.0 (λ e. d.0 (subst (λ (u : ℕ). Has u xs) (sym s.1.1 ∙ ap g e ∙ f.1.1) has)), s.1.1))

-- different members of a list are at most as many as the list has
pub different_fit : (xs ys : List ℕ) → Different xs → ((z : ℕ) → Has z xs → Has z ys) → length xs ≤ length ys
different_fit xs ys d h = image_fit (λ y. y) xs ys d (λ z has. (z, (h z has, refl)))

-- so many different numbers have been seen, and their remainders modulo m are marked
pub record AreSeen (m : ℕ) (seen : List Bool) (count : ℕ) (front : List ℕ) : Type 0 where
  pub members : List ℕ
  pub size : length members ≡ count
  pub different : Different members
  pub from : (z : ℕ) → Has z members → Has z front
  pub marked : (z : ℕ) → Has z members → get_or seen (z % m) false ≡ true

pub none_seen : (m : ℕ) (seen : List Bool) → AreSeen m seen 0 []
none_seen m seen = record { members = []; size = refl; different = tt; from = λ z h. h; marked = λ z h. absurd h }

has_push : (z x : ℕ) (front : List ℕ) → Has z front → Has z (front ++ x ∷ [])
has_push z x [] h = absurd h
has_push z x (y ∷ front) (inl e) = inl e
has_push z x (y ∷ front) (inr h) = inr (has_push z x front h)

has_last : (x : ℕ) (front : List ℕ) → Has x (front ++ x ∷ [])
has_last x [] = inl refl
has_last x (y ∷ front) = inr (has_last x front)

pub seen_again : (m : ℕ) (seen : List Bool) (count : ℕ) (front : List ℕ) (x : ℕ) → AreSeen m seen count front → AreSeen m seen count (front ++ x ∷ [])
seen_again m seen count front x s = record { members = s.members; size = s.size; different = s.different; from = λ z h. has_push z x front (s.from z h); marked = s.marked }

pub seen_first : (m : ℕ) (seen : List Bool) (count : ℕ) (front : List ℕ) (x : ℕ) → x % m < length seen → get_or seen (x % m) false ≡ false → AreSeen m seen count front → AreSeen m (set seen (x % m) true) (count + 1) (front ++ x ∷ [])
seen_first m seen count front x within new s =
    record {
      members = x ∷ s.members;
      size = (let n = s.size in let e : suc (length s.members) ≡ count + 1 = omega (arith, n) in e);
      different = (λ h. (let t : true ≡ false = sym (s.marked x h) ∙ new in absurd (cc)), s.different);
      from = from_all;
      marked = marked_all;
    }
  where
    from_all : (z : ℕ) → Has z (x ∷ s.members) → Has z (front ++ x ∷ [])
    from_all z (inl e) = subst (λ (u : ℕ). Has u (front ++ x ∷ [])) (sym e) (has_last x front)
    from_all z (inr h) = has_push z x front (s.from z h)

    kept : (r : ℕ) → get_or seen r false ≡ true → get_or (set seen (x % m) true) r false ≡ true
    kept r h = elim (cases_eq r (x % m)) [
      | inl e ↦ subst (λ (u : ℕ). get_or (set seen (x % m) true) u false ≡ true) (sym e) (get_or-set_same seen (x % m) true false within)
      | inr other ↦ get_or-set_other seen (x % m) r true false other ∙ h
    ]

    marked_all : (z : ℕ) → Has z (x ∷ s.members) → get_or (set seen (x % m) true) (z % m) false ≡ true
    marked_all z (inl e) = subst (λ (u : ℕ). get_or (set seen (x % m) true) (u % m) false ≡ true) (sym e) (get_or-set_same seen (x % m) true false within)
    marked_all z (inr h) = kept (z % m) (s.marked z h)

-- as many different numbers there are, but for 0
pub seen_distinct : (m : ℕ) (seen : List Bool) (count : ℕ) (qs : List ℕ) → AreSeen m seen count qs → count ≤ 1 + distinct_above_0 qs
seen_distinct m seen count qs s =
    let le = different_fit s.members (0 ∷ entries_of qs) s.different (λ z h. placed z (s.from z h)) in
    let n = s.size in
    let d = distinct_is qs in
    omega (arith, le, n, d)
  where
    placed : (z : ℕ) → Has z qs → Has z (0 ∷ entries_of qs)
    placed zero h = inl refl
    placed (suc z) h = inr (entries_have qs (suc z) h (omega arith))

-- a power as the code shifts for it
pub shifted : (k : ℕ) → k < 8 → 1 * 2 ^ k % 18446744073709551616 ≡ 2 ^ k
shifted k low = let most : k ≤ 8 = omega (arith, low) in let high : 2 ^ k ≤ 2 ^ 8 = pow-le-pow_right (omega arith) most in omega (arith, high)

has_taken : (z i : ℕ) (xs : List ℕ) → Has z (take i xs) → Has z xs
has_taken z zero xs h = absurd h
has_taken z (suc i) [] h = absurd h
has_taken z (suc i) (x ∷ xs) (inl e) = inl e
has_taken z (suc i) (x ∷ xs) (inr h) = inr (has_taken z i xs h)

-- what is seen of a front is seen of the whole
pub seen_of_all : (m : ℕ) (seen : List Bool) (count i : ℕ) (qs : List ℕ) → AreSeen m seen count (take i qs) → AreSeen m seen count qs
seen_of_all m seen count i qs s = record { members = s.members; size = s.size; different = s.different; from = λ z h. has_taken z i qs (s.from z h); marked = s.marked }

pub few_entries : (k most n : ℕ) → k < 8 → most ≡ min n (2 * 2 ^ k - 1) → most ≤ 255
few_entries k most n low is = let small : k ≤ 7 = omega (arith, low) in let high : 2 ^ k ≤ 2 ^ 7 = pow-le-pow_right (omega arith) small in omega (arith, is, high)

-- ---- the front of a list has no more different numbers than the list

pub rising_different : (b : ℕ) (xs : List ℕ) → Rising b xs → Different xs
rising_different b [] up = tt
rising_different b (x ∷ xs) up = (λ h. (let low = rising_above x xs x up.1 h in absurd (omega (arith, low))), rising_different x xs up.1)

pub distinct_fit : (xs ys : List ℕ) → ((z : ℕ) → Has z xs → Has z ys) → distinct_above_0 xs ≤ distinct_above_0 ys
distinct_fit xs ys h =
    let le = different_fit (entries_of xs) (entries_of ys) (rising_different 0 (entries_of xs) (entries_rising xs)) (λ z has. entries_have ys z (h z (entries_from xs z has)) (rising_above 0 (entries_of xs) z (entries_rising xs) has)) in
    let a = distinct_is xs in
    let b = distinct_is ys in
    omega (arith, le, a, b)

front_has : (g : ℕ → ℕ) (ds : List ℕ) (k z : ℕ) → Has z (map g (take k ds)) → Has z (map g ds)
front_has g ds zero z h = absurd h
front_has g [] (suc k) z h = absurd h
front_has g (d ∷ ds) (suc k) z (inl e) = inl e
front_has g (d ∷ ds) (suc k) z (inr h) = inr (front_has g ds k z h)

pub front_distinct : (g : ℕ → ℕ) (ds : List ℕ) (k bound : ℕ) → bound < distinct_above_0 (map g (take k ds)) → bound < distinct_above_0 (map g ds)
front_distinct g ds k bound h = let le = distinct_fit (map g (take k ds)) (map g ds) (λ z has. front_has g ds k z has) in omega (arith, le, h)

-- a number that is marked, whether its remainder was before or not
pub seen_next : (m : ℕ) (seen : List Bool) (count : ℕ) (front : List ℕ) (x n : ℕ) → x % m < length seen → n ≡ cond (get_or seen (x % m) false) 0 1 → AreSeen m seen count front → AreSeen m (set seen (x % m) true) (count + n) (front ++ x ∷ [])
unfolding seen_again
seen_next m seen count front x n within e s = by (get_or seen (x % m) false) refl
  where
    kept : (r : ℕ) → get_or seen r false ≡ true → get_or (set seen (x % m) true) r false ≡ true
    kept r h = elim (cases_eq r (x % m)) [
      | inl same ↦ subst (λ (u : ℕ). get_or (set seen (x % m) true) u false ≡ true) (sym same) (get_or-set_same seen (x % m) true false within)
      | inr other ↦ get_or-set_other seen (x % m) r true false other ∙ h
    ]

    by : (b : Bool) → get_or seen (x % m) false ≡ b → AreSeen m (set seen (x % m) true) (count + n) (front ++ x ∷ [])
    by false new = subst (λ (k : ℕ). AreSeen m (set seen (x % m) true) (count + k) (front ++ x ∷ [])) (sym (e ∙ ap (λ (b : Bool). cond b 0 1) new)) (seen_first m seen count front x within new s)
    by true again =
        let none : n ≡ 0 = e ∙ ap (λ (b : Bool). cond b 0 1) again in
        let a = seen_again m seen count front x s in
        let size = s.size in
        record { members = s.members; size = omega (arith, size, none); different = s.different; from = a.from; marked = λ z h. kept (z % m) (s.marked z h) }
