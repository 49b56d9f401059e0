-- Equal bytes at the front of a mask, and the place of the next repeat.
use Rattle.std.proofs.Common.{◌≡◌, ℕ, ◌+◌, ◌-◌, ◌<◌, ◌≤◌, zero, suc, min, List, [], ◌∷◌, length, get_or, drop, inl, inr, true, false, cond, ◌==◌, refl, sym, ap, ◌∙◌, subst, arith, eq-eqb}
use Rattle.std.proofs.lemmas.Bool.{cases_lt, le-leb, lt-leb}
use Rattle.std.proofs.lemmas.Bool.Decides.{nat_tests}
use Rattle.std.proofs.lemmas.List.{length-drop, drop-drop, get_or-drop}
use Rattle.std.proofs.lemmas.List.Sums.{prefix_len_is, prefix_len_stops, prefix_len-le-length}
use Rattle.mask_runs.specs.Chosen.{equal_bytes, before_repeat}

-- n bytes are equal, and the next one differs
pub equal_is : (xs : List ℕ) (n : ℕ) → n ≤ length xs → ((k : ℕ) → k < n → get_or xs k 0 ≡ get_or xs 0 0) → (n < length xs → get_or xs n 0 ≡ get_or xs 0 0 → ⊥) → equal_bytes xs ≡ n
equal_is xs n within same other =
    prefix_len_is (λ byte. byte == get_or xs 0 0) xs n 0 within (λ k h. eq-eqb _ _ (same k h)) (λ h. let differs = other h in grind (arith, nat_tests))

-- at least n bytes are equal
pub equal_least : (xs : List ℕ) (n : ℕ) → n ≤ length xs → ((k : ℕ) → k < n → get_or xs k 0 ≡ get_or xs 0 0) → n ≤ equal_bytes xs
equal_least xs n within same = elim (cases_lt (equal_bytes xs) n) as (λ _. n ≤ equal_bytes xs) [
  | inl fewer ↦
      let stop : (get_or xs (equal_bytes xs) 0 == get_or xs 0 0) ≡ false = prefix_len_stops (λ byte. byte == get_or xs 0 0) xs 0 (omega arith) in
      let go : (get_or xs (equal_bytes xs) 0 == get_or xs 0 0) ≡ true = eq-eqb _ _ (same (equal_bytes xs) fewer) in
      absurd (cc)
  | inr h ↦ h
]

pub equal_most : (xs : List ℕ) → equal_bytes xs ≤ length xs
equal_most xs = prefix_len-le-length (λ byte. byte == get_or xs 0 0) xs

-- what a count of equal bytes finds that stops at a limit
pub equal_capped : (xs : List ℕ) (n : ℕ) → n ≡ min (length xs) 32767 → ((k : ℕ) → k < n → get_or xs k 0 ≡ get_or xs 0 0) → n ≡ min (equal_bytes xs) 32767
equal_capped xs n is same =
    let least = equal_least xs n (omega arith) same in
    let most = equal_most xs in
    omega arith

-- no repeat comes first
step_on : (x : ℕ) (xs : List ℕ) → equal_bytes (x ∷ xs) < 5 → before_repeat (x ∷ xs) ≡ 1 + before_repeat xs
step_on x xs few = ap (λ b. cond b 0 (1 + before_repeat xs)) (lt-leb 5 (equal_bytes (x ∷ xs)) few)

-- a repeat comes first
pub at_repeat : (xs : List ℕ) → 5 ≤ equal_bytes xs → before_repeat xs ≡ 0
at_repeat [] many = absurd (omega arith)
at_repeat (x ∷ xs) many = ap (λ b. cond b 0 (1 + before_repeat xs)) (le-leb 5 (equal_bytes (x ∷ xs)) many)

pub before_some : (xs : List ℕ) → 0 < length xs → equal_bytes xs < 5 → 1 ≤ before_repeat xs
before_some [] some few = absurd (omega arith)
before_some (x ∷ xs) some few = let e = step_on x xs few in omega arith

pub before_most : (xs : List ℕ) → before_repeat xs ≤ length xs
before_most [] = omega arith
before_most (x ∷ xs) = elim (cases_lt (equal_bytes (x ∷ xs)) 5) as (λ _. before_repeat (x ∷ xs) ≤ length (x ∷ xs)) [
  | inl few ↦ let e = step_on x xs few in let rest = before_most xs in omega arith
  | inr many ↦ let e = at_repeat (x ∷ xs) many in omega arith
]

-- fewer than five bytes have no repeat
pub before_short : (xs : List ℕ) → length xs < 5 → before_repeat xs ≡ length xs
before_short [] short = refl
before_short (x ∷ xs) short =
    let most = equal_most (x ∷ xs) in
    let e = step_on x xs (omega arith) in
    let rest = before_short xs (omega arith) in
    omega arith

-- fewer than five equal bytes, and then another one
pub before_past : (xs : List ℕ) (n : ℕ) → 0 < n → n < 5 → n < length xs → ((k : ℕ) → k < n → get_or xs k 0 ≡ get_or xs 0 0) → (get_or xs n 0 ≡ get_or xs 0 0 → ⊥)
    → before_repeat xs ≡ n + before_repeat (drop n xs)
before_past [] n some few long same other = absurd (omega arith)
before_past (x ∷ xs) zero some few long same other = absurd (omega arith)
before_past (x ∷ xs) (suc zero) some few long same other =
    let equal = equal_is (x ∷ xs) 1 (omega arith) same (λ _. other) in
    step_on x xs (omega arith)
before_past (x ∷ xs) (suc (suc m)) some few long same other =
    let equal = equal_is (x ∷ xs) (suc (suc m)) (omega arith) same (λ _. other) in
    let first : get_or xs 0 0 ≡ x = same 1 (omega arith) in
    let rest = before_past xs (suc m) (omega arith) (omega arith) (omega arith) (λ k h. same (suc k) (omega arith) ∙ sym first) (λ e. other (e ∙ first)) in
    let e = step_on x xs (omega arith) in
    omega arith

-- What a search for the next repeat knows at a place: the bytes from `start` on are equal up to the place.
pub record Searching (mask : List ℕ) (start place : ℕ) : Type 0 where
  pub ordered : start ≤ place
  pub near : place ≤ start + 4
  pub same : (k : ℕ) → start ≤ k → k < place → get_or mask k 0 ≡ get_or mask start 0
  pub told : before_repeat mask ≡ start + before_repeat (drop start mask)

-- the same of the bytes from `start` on
same_from : (mask : List ℕ) (start place n k : ℕ) → Searching mask start place → start + n ≤ place → k < n → get_or (drop start mask) k 0 ≡ get_or (drop start mask) 0 0
same_from mask start place n k s within h =
    let here : start + 0 ≡ start = omega arith in
    get_or-drop start mask k 0 ∙ s.same (start + k) (omega arith) (omega arith) ∙ ap (λ m. get_or mask m 0) (sym here) ∙ sym (get_or-drop start mask 0 0)

-- one byte more that is equal
pub searching_same : (mask : List ℕ) (start place : ℕ) → Searching mask start place → get_or mask place 0 ≡ get_or mask start 0 → (place - start ≡ 4 → ⊥) → Searching mask start (place + 1)
searching_same mask start place s e few = record {
  ordered = let h = s.ordered in omega arith;
  near = let h = s.near in omega arith;
  same = λ k from below. elim (cases_lt k place) as (λ _. get_or mask k 0 ≡ get_or mask start 0) [
    | inl before ↦ s.same k from before
    | inr here ↦ let at : k ≡ place = omega arith in ap (λ n. get_or mask n 0) at ∙ e
  ];
  told = s.told;
}

-- one byte more that differs
pub searching_other : (mask : List ℕ) (start place : ℕ) → Searching mask start place → place < length mask → (get_or mask place 0 ≡ get_or mask start 0 → ⊥) → Searching mask place (place + 1)
searching_other mask start place s within differs =
    let h = s.ordered in
    let near = s.near in
    let some : start < place = elim (cases_lt start place) as (λ _. start < place) [ inl h ↦ h | inr h ↦ let at : place ≡ start = omega arith in absurd (differs (ap (λ n. get_or mask n 0) at)) ] in
    let there : start + (place - start) ≡ place = omega arith in
    let here : start + 0 ≡ start = omega arith in
    let past = before_past (drop start mask) (place - start) (omega arith) (omega arith) (omega (arith, length-drop start mask))
    (λ k h. same_from mask start place (place - start) k s (omega arith) h)
    (λ e. differs (ap (λ n. get_or mask n 0) (sym there) ∙ sym (get_or-drop start mask (place - start) 0) ∙ e ∙ get_or-drop start mask 0 0 ∙ ap (λ n. get_or mask n 0) here)) in
    let rest : drop (place - start) (drop start mask) ≡ drop place mask = drop-drop (place - start) start mask ∙ ap (λ n. drop n mask) there in
    record {
      ordered = omega arith;
      near = omega arith;
      same = λ k from below. let at : k ≡ place = omega arith in ap (λ n. get_or mask n 0) at;
      told = s.told ∙ ap (λ n. start + n) (past ∙ ap (λ ys. place - start + before_repeat ys) rest) ∙ omega arith;
    }

-- five equal bytes are found
pub search_found : (mask : List ℕ) (start place : ℕ) → Searching mask start place → place < length mask → place < 32771 → get_or mask place 0 ≡ get_or mask start 0 → place - start ≡ 4 → start ≡ min (before_repeat mask) 32767
search_found mask start place s within low e five =
    let last : start + 4 ≡ place = omega arith in
    let here : start + 0 ≡ start = omega arith in
    let same : (k : ℕ) → k < 5 → get_or (drop start mask) k 0 ≡ get_or (drop start mask) 0 0 = λ k h. elim (cases_lt k 4) as (λ _. get_or (drop start mask) k 0 ≡ get_or (drop start mask) 0 0) [
      | inl before ↦ same_from mask start place 4 k s (omega arith) before
      | inr at ↦ let is : start + k ≡ place = omega arith in
          get_or-drop start mask k 0 ∙ ap (λ n. get_or mask n 0) is ∙ e ∙ ap (λ n. get_or mask n 0) (sym here) ∙ sym (get_or-drop start mask 0 0)
    ] in
    let none = at_repeat (drop start mask) (equal_least (drop start mask) 5 (omega (arith, length-drop start mask)) same) in
    omega (arith, s.told, none)

-- the search ends at the mask's end, or at its limit
pub search_ended : (mask : List ℕ) (start place : ℕ) → Searching mask start place → place ≡ min (length mask) 32771 → min (length mask) 32767 ≡ min (before_repeat mask) 32767
search_ended mask start place s is =
    let ordered = s.ordered in
    let near = s.near in
    let told = s.told in
    let most = before_most mask in
    elim (cases_lt place 32771) as (λ _. min (length mask) 32767 ≡ min (before_repeat mask) 32767) [
      | inl short ↦ let rest = before_short (drop start mask) (omega (arith, length-drop start mask)) in omega (arith, length-drop start mask)
      | inr long ↦ omega arith
    ]

-- before the next repeat there is none
pub before_none : (mask : List ℕ) (k : ℕ) → k < before_repeat mask → equal_bytes (drop k mask) < 5
before_none [] k h = absurd (omega arith)
before_none (x ∷ xs) zero h = elim (cases_lt (equal_bytes (x ∷ xs)) 5) as (λ _. equal_bytes (x ∷ xs) < 5) [
  | inl few ↦ few
  | inr many ↦ let e = at_repeat (x ∷ xs) many in absurd (omega arith)
]
before_none (x ∷ xs) (suc k) h = elim (cases_lt (equal_bytes (x ∷ xs)) 5) as (λ _. equal_bytes (drop k xs) < 5) [
  | inl few ↦ let e = step_on x xs few in before_none xs k (omega arith)
  | inr many ↦ let e = at_repeat (x ∷ xs) many in absurd (omega arith)
]

-- at the next repeat there is one
pub before_there : (mask : List ℕ) → before_repeat mask < length mask → 5 ≤ equal_bytes (drop (before_repeat mask) mask)
before_there [] h = absurd (omega arith)
before_there (x ∷ xs) h = elim (cases_lt (equal_bytes (x ∷ xs)) 5) as (λ _. 5 ≤ equal_bytes (drop (before_repeat (x ∷ xs)) (x ∷ xs))) [
  | inl few ↦
      let e : before_repeat (x ∷ xs) ≡ suc (before_repeat xs) = step_on x xs few ∙ omega arith in
      subst (λ n. 5 ≤ equal_bytes (drop n (x ∷ xs))) (sym e) (before_there xs (omega arith))
  | inr many ↦ subst (λ n. 5 ≤ equal_bytes (drop n (x ∷ xs))) (sym (at_repeat (x ∷ xs) many)) many
]
