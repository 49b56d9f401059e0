-- Bundles as they are opened.
use Rattle.std.proofs.Common.{◌≡◌, ◌≢◌, inl, inr, Bool, true, false, ℕ, ◌+◌, ◌≤◌, ◌==◌, nat_lt, List, length, take, Option, Some, None, if◌then◌else◌, sym, ◌∙◌, ap, arith}
use Rattle.std.proofs.lemmas.List.{get_or-take}
use Rattle.std.proofs.lemmas.Bool.{cases_eq}
use Rattle.std.proofs.lemmas.Bool.Decides.{nat_tests}
use Rattle.bundle_index.specs.Header.{HasHeader, header_fault}
use Rattle.bundle_index.specs.Numbers.{u32_at}
use Rattle.bundle_index.specs.declared.header.HeaderFault.{HeaderFault}
use Rattle.bundle_index.proofs.Numbers.{same_u32}
use Rattle.bundle_store.specs.Session.{open_fault}
use Rattle.bundle_store.specs.Tiles.{HasIndex}

test_same : (n m : ℕ) → n ≡ m → (n == m) ≡ true
test_same n m is = grind (arith, nat_tests)

test_differ : (n m : ℕ) → n ≢ m → (n == m) ≡ false
test_differ n m differs = grind (arith, nat_tests)

test_ge : (n m : ℕ) → m ≤ n → nat_lt n m ≡ false
test_ge n m ge = grind (arith, nat_tests)

-- the three tests of a header
three : (a b c : ℕ) (x y z : HeaderFault) → (if a == 3 then (if b == 16384 then (if c == 5 then None else Some x) else Some y) else Some z) ≡ None → (a ≡ 3) × (b ≡ 16384) × (c ≡ 5)
three a b c x y z is = elim (cases_eq a 3) [
  | inr not ↦ absurd (let f : Some z ≡ None = sym (ap (λ (t : Bool). if t then (if b == 16384 then (if c == 5 then None else Some x) else Some y) else Some z) (test_differ a 3 not)) ∙ is in cc)
  | inl one ↦
      let is_1 : (if b == 16384 then (if c == 5 then None else Some x) else Some y) ≡ None = sym (ap (λ (t : Bool). if t then (if b == 16384 then (if c == 5 then None else Some x) else Some y) else Some z) (test_same a 3 one)) ∙ is in
      elim (cases_eq b 16384) [
        | inr not ↦ absurd (let f : Some y ≡ None = sym (ap (λ (t : Bool). if t then (if c == 5 then None else Some x) else Some y) (test_differ b 16384 not)) ∙ is_1 in cc)
        | inl two ↦
            let is_2 : (if c == 5 then None else Some x) ≡ None = sym (ap (λ (t : Bool). if t then (if c == 5 then None else Some x) else Some y) (test_same b 16384 two)) ∙ is_1 in
            elim (cases_eq c 5) [
              | inr not ↦ absurd (let f : Some x ≡ None = sym (ap (λ (t : Bool). if t then None else Some x) (test_differ c 5 not)) ∙ is_2 in cc)
              | inl last ↦ (one, two, last)
            ]
      ]
]

pub has_by : (b : List ℕ) → header_fault b ≡ None → HasHeader b
has_by b is = let t = three (u32_at b 0) (u32_at b 4) (u32_at b 12) _ _ _ is in record { version = t.0; records = t.1; offset_bytes = t.2 }

-- the front of a bundle has its header
field : (b : List ℕ) (place : ℕ) → place + 4 ≤ 64 → u32_at (take 64 b) place ≡ u32_at b place
field b place within = same_u32 (take 64 b) b place place (λ i lt. get_or-take 64 b (place + i) 0 (omega arith))

pub front_fault : (b : List ℕ) → header_fault (take 64 b) ≡ header_fault b
front_fault b =
    let zero = field b 0 (omega arith) in
    let four = field b 4 (omega arith) in
    let twelve = field b 12 (omega arith) in
    λ i. if zero i == 3
    then (if four i == 16384
    then (if twelve i == 5 then None else Some (let r : HeaderFault = record { place = 12; found = twelve i } in r))
    else Some (let r : HeaderFault = record { place = 4; found = four i } in r))
    else Some (let r : HeaderFault = record { place = 0; found = zero i } in r)

-- past the tests of the length, a header decides
pub open_by : (b : List ℕ) → 131136 ≤ length b → open_fault b ≡ header_fault b
open_by b long =
    let fault : Option HeaderFault = Some (record { place = length b; found = length b }) in
    ap (λ (t : Bool). if t then None else (if nat_lt (length b) 131136 then fault else header_fault b)) (test_differ (length b) 0 (λ is. absurd (omega (arith, is))))
    ∙ ap (λ (t : Bool). if t then fault else header_fault b) (test_ge (length b) 131136 long)

-- the header that was read decides
pub opened_fault : (b header : List ℕ) (o : Option HeaderFault) → 131136 ≤ length b → header ≡ take 64 b → o ≡ header_fault header → o ≡ open_fault b
opened_fault b header o long is decides = decides ∙ ap header_fault is ∙ front_fault b ∙ sym (open_by b long)

pub opened_index : (b header : List ℕ) → 131136 ≤ length b → header ≡ take 64 b → header_fault header ≡ None → HasIndex b
opened_index b header long is none = record { long = long; header = has_by b (sym (front_fault b) ∙ ap header_fault (sym is) ∙ none) }
