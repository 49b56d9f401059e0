-- Fields of which bytes are missing.
use Rattle.std.proofs.Common.{◌≡◌, inl, inr, refl, ℕ, zero, suc, ◌+◌, ◌-◌, ◌<◌, ◌≤◌, List, [], ◌∷◌, ◌++◌, length, get_or, replicate, take, drop, sym, ◌∙◌, ap, arith}
use Rattle.std.proofs.lemmas.List.{places, get_or_past, get_or-replicate, length-replicate}
use Rattle.std.proofs.lemmas.Bool.{cases_lt}
use Rattle.outside_io.specs.volume.History.{ReadsAt}
use Rattle.bundle_index.proofs.Numbers.{SameAt}

first_part : (c z : List ℕ) (n at i : ℕ) → n ≤ length c - at → i < n → get_or (take n (drop at c) ++ z) i 0 ≡ get_or c (at + i) 0
first_part c z n at i within lt = grind (arith, places)

last_part : (c z : List ℕ) (n at i : ℕ) → n ≤ length c - at → n ≤ i → get_or (take n (drop at c) ++ drop n z) i 0 ≡ get_or z i 0
last_part c z n at i within ge = grind (arith, places)

-- what was read in front of zeros, and beyond the end of the file nothing
pub padded : (c z buf : List ℕ) (at n k : ℕ) → ((i : ℕ) → get_or z i 0 ≡ 0) → length z ≡ k → ReadsAt c at n z buf → SameAt k buf 0 c at
padded c z buf at n k zeros size reads = λ i lt.
    let is : get_or buf (0 + i) 0 ≡ get_or (take n (drop at c) ++ drop n z) i 0 = ap (λ (m : ℕ). get_or buf m 0) (let e : 0 + i ≡ i = omega arith in e) ∙ ap (λ (l : List ℕ). get_or l i 0) reads.bytes in
    let count = reads.count in
    elim (cases_lt i n) [
      | inl inside ↦ is ∙ first_part c (drop n z) n at i (omega arith) inside
      | inr past ↦ is ∙ last_part c z n at i (omega arith) past ∙ zeros i ∙ sym (get_or_past c (at + i) 0 (omega arith))
    ]

abbrev pub eight : List ℕ
eight = 0 ∷ 0 ∷ 0 ∷ 0 ∷ 0 ∷ 0 ∷ 0 ∷ 0 ∷ []

pub zeros_8 : (i : ℕ) → ◌≡◌ {A = ℕ} (get_or eight i 0) 0
zeros_8 i = elim (cases_lt i 8) [ inl lt ↦ by_case i lt | inr ge ↦ get_or_past eight i 0 ge ]
  where
    by_case : (i : ℕ) → i < 8 → ◌≡◌ {A = ℕ} (get_or eight i 0) 0
    by_case zero lt = refl
    by_case (suc zero) lt = refl
    by_case (suc (suc zero)) lt = refl
    by_case (suc (suc (suc zero))) lt = refl
    by_case (suc (suc (suc (suc zero)))) lt = refl
    by_case (suc (suc (suc (suc (suc zero))))) lt = refl
    by_case (suc (suc (suc (suc (suc (suc zero)))))) lt = refl
    by_case (suc (suc (suc (suc (suc (suc (suc zero))))))) lt = refl
    by_case (suc (suc (suc (suc (suc (suc (suc (suc i)))))))) lt = absurd (omega arith)

abbrev pub four : List ℕ
four = 0 ∷ 0 ∷ 0 ∷ 0 ∷ []

pub zeros_4 : (i : ℕ) → ◌≡◌ {A = ℕ} (get_or four i 0) 0
zeros_4 i = elim (cases_lt i 4) [ inl lt ↦ by_case i lt | inr ge ↦ get_or_past four i 0 ge ]
  where
    by_case : (i : ℕ) → i < 4 → ◌≡◌ {A = ℕ} (get_or four i 0) 0
    by_case zero lt = refl
    by_case (suc zero) lt = refl
    by_case (suc (suc zero)) lt = refl
    by_case (suc (suc (suc zero))) lt = refl
    by_case (suc (suc (suc (suc i)))) lt = absurd (omega arith)

-- a buffer of zeros of any length
abbrev pub zero_byte : ℕ
zero_byte = 0

pub zeros_of : (n i : ℕ) → get_or (replicate n zero_byte) i zero_byte ≡ zero_byte
zeros_of n i = elim (cases_lt i n) [ inl lt ↦ get_or-replicate n i zero_byte zero_byte lt | inr ge ↦ get_or_past (replicate n zero_byte) i zero_byte (omega (arith, length-replicate n zero_byte)) ]
