-- Sets of remainders modulo 64, and how many different numbers they show.
use Rattle.std.proofs.Common.{◌≡◌, ℕ, map, zero, suc, ◌+◌, ◌-◌, ◌*◌, ◌/◌, ◌%◌, ◌^◌, ◌<◌, ◌≤◌, ◌⊎◌, List, [], ◌∷◌, ◌++◌, length, get_or, take, drop, refl, sym, ap, subst, ◌∙◌, arith, inl, inr}
use Rattle.std.specs.Prelude.{All}
use Rattle.std.specs.Int.{bit_at}
use Rattle.std.proofs.lemmas.Bool.{cases_eq}
use Rattle.std.proofs.lemmas.List.{map-append, take_more}
use Rattle.std.proofs.lemmas.List.Elements.{All-head, All-tail}
use Rattle.std.proofs.Math.Seq.{take-add}
use Rattle.std.proofs.lemmas.Nat.{ones_le_self}
use Rattle.std.proofs.lemmas.Nat.Bits.{bit_at-zero, bit_at_lowest, bit_at_set_other, bit_at_set_same}
use Rattle.std.proofs.Math.Nat.{div-div-eq-div-mul, pow-suc}
use lib.Bits.{bit_or}
use lib.Count.{ones, ones_step}
use mir.Syntax.{w64}
use Rattle.lut_stuff.specs.Tables.{distinct_above_0, entries_of}
use Rattle.lut_stuff.proofs.Rising.{Has, Rising, entries_from, entries_have, entries_rising, rising_above}
use Rattle.lut_stuff.proofs.Tabled.{distinct_is}
use Rattle.micro_block.specs.inside.Remainders.{AreAdded, HasRemainder}
use Rattle.micro_block.proofs.ShortTables.{Different, image_fit, rising_different}

-- ---- sets that grow

has_front : (xs ys : List ℕ) (k : ℕ) → HasRemainder xs k → HasRemainder (xs ++ ys) k
has_front [] ys k h = absurd h
has_front (x ∷ xs) ys k (inl e) = inl e
has_front (x ∷ xs) ys k (inr h) = inr (has_front xs ys k h)

has_back : (xs ys : List ℕ) (k : ℕ) → HasRemainder ys k → HasRemainder (xs ++ ys) k
has_back [] ys k h = h
has_back (x ∷ xs) ys k h = inr (has_back xs ys k h)

has_either : (xs ys : List ℕ) (k : ℕ) → HasRemainder (xs ++ ys) k → HasRemainder xs k ⊎ HasRemainder ys k
has_either [] ys k h = inr h
has_either (x ∷ xs) ys k (inl e) = inl (inl e)
has_either (x ∷ xs) ys k (inr h) = elim (has_either xs ys k h) [
  | inl front ↦ inl (inr front)
  | inr back ↦ inr back
]

pub added_none : (bits : ℕ) → AreAdded bits [] bits
added_none bits k lt = (
  λ e. inl e,
  λ h. elim h [
    | inl e ↦ e
    | inr none ↦ absurd none
  ],
)

pub added_more : (a b c : ℕ) (xs ys : List ℕ) → AreAdded a xs b → AreAdded b ys c → AreAdded a (xs ++ ys) c
added_more a b c xs ys first then k lt = (λ e. forth ((then k lt).0 e), λ h. back h)
  where
    forth : (bit_at b k ≡ 1) ⊎ HasRemainder ys k → (bit_at a k ≡ 1) ⊎ HasRemainder (xs ++ ys) k
    forth (inr h) = inr (has_back xs ys k h)
    forth (inl e) = elim ((first k lt).0 e) [
      | inl old ↦ inl old
      | inr h ↦ inr (has_front xs ys k h)
    ]

    back : (bit_at a k ≡ 1) ⊎ HasRemainder (xs ++ ys) k → bit_at c k ≡ 1
    back (inl old) = (then k lt).1 (inl ((first k lt).1 (inl old)))
    back (inr h) = elim (has_either xs ys k h) [
      | inl front ↦ (then k lt).1 (inl ((first k lt).1 (inr front)))
      | inr rest ↦ (then k lt).1 (inr rest)
    ]

-- one number
pub added_one : (bits x : ℕ) → AreAdded bits (x ∷ []) (bit_or bits (1 * 2 ^ (x % 64) % 18446744073709551616))
added_one bits x k lt = elim (cases_eq k (x % 64)) [
  | inl same ↦ (λ e. inr (inl same), λ h. subst (λ (u : ℕ). bit_at (bit_or bits (1 * 2 ^ (x % 64) % 18446744073709551616)) u ≡ 1) (sym same) (bit_at_set_same w64 bits (x % 64) within))
  | inr other ↦
      let kept : bit_at (bit_or bits (1 * 2 ^ (x % 64) % 18446744073709551616)) k ≡ bit_at bits k = bit_at_set_other w64 bits (x % 64) within k other in (
        λ e. inl (sym kept ∙ e),
        λ h. elim h [
          | inl e ↦ kept ∙ e
          | inr has ↦ elim has [
            | inl same ↦ absurd (other same)
            | inr none ↦ absurd none
          ]
        ],
      )
]
  where
    within : x % 64 < 64
    within = omega arith

-- one number more, by what is made of a list's members
pub added_next : (bits with : ℕ) (f : ℕ → ℕ) (ds : List ℕ) (i : ℕ) → i < length ds → AreAdded bits (map f (take i ds)) with → AreAdded bits (map f (take (i + 1) ds)) (bit_or with (1 * 2 ^ (f (get_or ds i 0) % 64) % 18446744073709551616))
added_next bits with f ds i lt h =
    let x = get_or ds i 0 in
    let more : map f (take (i + 1) ds) ≡ map f (take i ds) ++ f x ∷ [] = ap (map f) (take_more ds i 0 lt) ∙ map-append f (take i ds) (x ∷ []) in
    subst (λ (front : List ℕ). AreAdded bits front (bit_or with (1 * 2 ^ (f x % 64) % 18446744073709551616))) (sym more)
    (added_more bits with (bit_or with (1 * 2 ^ (f x % 64) % 18446744073709551616)) (map f (take i ds)) (f x ∷ []) h (added_one with (f x)))

-- the piece of a list between two places more
pub added_piece : (bits with more : ℕ) (f : ℕ → ℕ) (ds : List ℕ) (at n to : ℕ) → to ≡ at + n → AreAdded bits (map f (take at ds)) with → AreAdded with (map f (take n (drop at ds))) more → AreAdded bits (map f (take to ds)) more
added_piece bits with more f ds at n to e first then =
    let whole : map f (take to ds) ≡ map f (take at ds) ++ map f (take n (drop at ds)) = ap (λ (k : ℕ). map f (take k ds)) e ∙ ap (map f) (take-add at n ds) ∙ map-append f (take at ds) (take n (drop at ds)) in
    subst (λ (front : List ℕ). AreAdded bits front more) (sym whole) (added_more bits with more (map f (take at ds)) (map f (take n (drop at ds))) first then)

-- ---- the places of the bits that are set

-- a place, one more than it is, where its bit is set
abbrev place_with : ℕ → ℕ → List ℕ → List ℕ
place_with zero j rest = rest
place_with (suc d) j rest = suc j ∷ rest

-- so of each of so many bits, from place j on
abbrev places : ℕ → ℕ → ℕ → List ℕ
places zero j n = []
places (suc w) j n = place_with (n % 2) j (places w (suc j) (n / 2))

length_with : (d j : ℕ) (rest : List ℕ) → d < 2 → length (place_with d j rest) ≡ length rest + d
length_with zero j rest lt = omega arith
length_with (suc zero) j rest lt = omega arith
length_with (suc (suc d)) j rest lt = absurd (omega (arith, lt))

length_places : (w j n : ℕ) → n < 2 ^ w → length (places w j n) ≡ ones n
length_places zero j n lt = let le = ones_le_self n in omega (arith, le, lt)
length_places (suc w) j n lt =
    let twice : 2 ^ suc w ≡ 2 ^ w * 2 = pow-suc 2 w in
    let rest = length_places w (suc j) (n / 2) (omega (arith, lt, twice)) in
    let here = length_with (n % 2) j (places w (suc j) (n / 2)) (omega arith) in
    omega (arith, rest, here, ones_step n)

rising_lower : (j : ℕ) (xs : List ℕ) → Rising (suc j) xs → Rising j xs
rising_lower j [] up = tt
rising_lower j (x ∷ xs) up = (let lt = up.0 in omega (arith, lt), up.1)

rising_with : (d j : ℕ) (rest : List ℕ) → Rising (suc j) rest → Rising j (place_with d j rest)
rising_with zero j rest up = rising_lower j rest up
rising_with (suc d) j rest up = (omega arith, up)

rising_places : (w j n : ℕ) → Rising j (places w j n)
rising_places zero j n = tt
rising_places (suc w) j n = rising_with (n % 2) j (places w (suc j) (n / 2)) (rising_places w (suc j) (n / 2))

-- a higher bit is one of the half
bit_up : (n i : ℕ) → bit_at n (suc i) ≡ bit_at (n / 2) i
bit_up n i =
    let twice : 2 ^ suc i ≡ 2 ^ i * 2 = pow-suc 2 i in
    ap (λ (p : ℕ). n / p % 2) (let e : 2 ^ suc i ≡ 2 * 2 ^ i = omega (arith, twice) in e) ∙ ap (λ (q : ℕ). q % 2) (sym (div-div-eq-div-mul n 2 (2 ^ i)))

-- what a place tells
abbrev IsPlace : ℕ → ℕ → ℕ → ℕ → Type 0
IsPlace w j n z = (i : ℕ) × ((i < w) × ((z ≡ suc (j + i)) × (bit_at n i ≡ 1)))

has_with : (d j z : ℕ) (rest : List ℕ) → Has z (place_with d j rest) → ((z ≡ suc j) × (0 < d)) ⊎ Has z rest
has_with zero j z rest h = inr h
has_with (suc d) j z rest (inl e) = inl (e, omega arith)
has_with (suc d) j z rest (inr h) = inr h

place_is : (w j n z : ℕ) → Has z (places w j n) → IsPlace w j n z
place_is zero j n z h = absurd h
place_is (suc w) j n z h = elim (has_with (n % 2) j z (places w (suc j) (n / 2)) h) [
  | inl here ↦ let set = here.1 in let same = here.0 in (0, (omega arith, (omega (arith, same), bit_at_lowest n ∙ (let one : n % 2 ≡ 1 = omega (arith, set) in one))))
  | inr later ↦ let p = place_is w (suc j) (n / 2) z later in
      let same = p.1.1.0 in
      let lt = p.1.0 in
      (suc p.0, (omega (arith, lt), (omega (arith, same), bit_up n p.0 ∙ p.1.1.1)))
]

here_with : (d j : ℕ) (rest : List ℕ) → d ≡ 1 → Has (suc j) (place_with d j rest)
here_with zero j rest e = absurd (omega (arith, e))
here_with (suc d) j rest e = inl refl

later_with : (d j z : ℕ) (rest : List ℕ) → Has z rest → Has z (place_with d j rest)
later_with zero j z rest h = h
later_with (suc d) j z rest h = inr h

places_have : (w j n i : ℕ) → i < w → bit_at n i ≡ 1 → Has (suc (j + i)) (places w j n)
places_have zero j n i lt set = absurd (omega (arith, lt))
places_have (suc w) j n zero lt set =
    subst (λ (z : ℕ). Has z (places (suc w) j n)) (let e : suc j ≡ suc (j + 0) = omega arith in e)
    (here_with (n % 2) j (places w (suc j) (n / 2)) (sym (bit_at_lowest n) ∙ set))
places_have (suc w) j n (suc i) lt set =
    later_with (n % 2) j (suc (j + suc i)) (places w (suc j) (n / 2))
    (subst (λ (z : ℕ). Has z (places w (suc j) (n / 2))) (let e : suc (suc j + i) ≡ suc (j + suc i) = omega arith in e)
    (places_have w (suc j) (n / 2) i (omega (arith, lt)) (sym (bit_up n i) ∙ set)))

-- ---- how many different numbers there are

one_bit : (i : ℕ) → bit_at 1 i ≡ 1 → i ≡ 0
one_bit zero e = refl
one_bit (suc i) e = absurd (let up = bit_up 1 i in let none = bit_at-zero i in let half : bit_at (1 / 2) i ≡ bit_at 0 i = refl in omega (arith, up, none, half, e))

remainder_of : (qs : List ℕ) (k : ℕ) → HasRemainder qs k → (q : ℕ) × (Has q qs × (k ≡ q % 64))
remainder_of [] k h = absurd h
remainder_of (q ∷ qs) k (inl e) = (q, (inl refl, e))
remainder_of (q ∷ qs) k (inr h) = let r = remainder_of qs k h in (r.0, (inr r.1.0, r.1.1))

has_remainder : (qs : List ℕ) (q : ℕ) → Has q qs → HasRemainder qs (q % 64)
has_remainder [] q h = absurd h
has_remainder (x ∷ qs) q (inl e) = inl (ap (λ (n : ℕ). n % 64) e)
has_remainder (x ∷ qs) q (inr h) = inr (has_remainder qs q h)

-- the numbers above 0 and 0 itself, which all remainders are of
either_entry : (qs : List ℕ) (q : ℕ) → Has q qs → Has q (0 ∷ entries_of qs)
either_entry qs zero h = inl refl
either_entry qs (suc q) h = inr (entries_have qs (suc q) h (omega arith))

-- bits are at most as many as different numbers with 0
pub remainders_few : (bits : ℕ) (qs : List ℕ) → bits < 2 ^ 64 → AreAdded 1 qs bits → ones bits ≤ 1 + distinct_above_0 qs
remainders_few bits qs fits added =
    let le = image_fit (λ y. suc (y % 64)) (places 64 0 bits) (0 ∷ entries_of qs) (rising_different 0 (places 64 0 bits) (rising_places 64 0 bits)) (λ z h. from z (place_is 64 0 bits z h)) in
    let long = length_places 64 0 bits fits in
    let d = distinct_is qs in
    omega (arith, le, long, d)
  where
    from : (z : ℕ) → IsPlace 64 0 bits z → (y : ℕ) × (Has y (0 ∷ entries_of qs) × (suc (y % 64) ≡ z))
    from z p = elim ((added p.0 p.1.0).0 p.1.1.1) [
      | inl first ↦ let none = one_bit p.0 first in let same = p.1.1.0 in (0, (inl refl, omega (arith, none, same)))
      | inr has ↦ let r = remainder_of qs p.0 has in let rest = r.1.1 in let same = p.1.1.0 in (r.0, (either_entry qs r.0 r.1.0, omega (arith, rest, same)))
    ]

has_below : (n : ℕ) (qs : List ℕ) (z : ℕ) → All (λ q. q < n) qs → Has z qs → z < n
has_below n [] z all h = absurd h
has_below n (q ∷ qs) z all (inl e) = let lt = All-head (λ q. q < n) q qs all in omega (arith, e, lt)
has_below n (q ∷ qs) z all (inr h) = has_below n qs z (All-tail (λ q. q < n) q qs all) h

-- and as many where no number is 64 or more
pub remainders_exact : (bits : ℕ) (qs : List ℕ) → bits < 2 ^ 64 → All (λ q. q < 64) qs → AreAdded 1 qs bits → ones bits ≡ 1 + distinct_above_0 qs
remainders_exact bits qs fits small added =
    let le = image_fit (λ y. y - 1) (0 ∷ entries_of qs) (places 64 0 bits) different (λ z h. place z h) in
    let long = length_places 64 0 bits fits in
    let d = distinct_is qs in
    let most = remainders_few bits qs fits added in
    omega (arith, le, long, d, most)
  where
    different : Different (0 ∷ entries_of qs)
    different = (λ h. (let above = rising_above 0 (entries_of qs) 0 (entries_rising qs) h in absurd (omega (arith, above))), rising_different 0 (entries_of qs) (entries_rising qs))

    at : (z : ℕ) → z < 64 → bit_at bits z ≡ 1 → (y : ℕ) × (Has y (places 64 0 bits) × (y - 1 ≡ z))
    at z lt set = (suc (0 + z), (places_have 64 0 bits z lt set, omega arith))

    place : (z : ℕ) → Has z (0 ∷ entries_of qs) → (y : ℕ) × (Has y (places 64 0 bits) × (y - 1 ≡ z))
    place z (inl e) = at z (omega (arith, e)) ((added z (omega (arith, e))).1 (inl (subst (λ (u : ℕ). bit_at 1 u ≡ 1) (sym e) (bit_at_lowest 1))))
    place z (inr h) =
        let has = entries_from qs z h in
        let lt = has_below 64 qs z small has in
        at z lt ((added z lt).1 (inr (subst (HasRemainder qs) (let e : z % 64 ≡ z = omega (arith, lt) in e) (has_remainder qs z has))))
