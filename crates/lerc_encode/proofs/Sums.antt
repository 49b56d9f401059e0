-- The checksum of bytes fits its field.
use Rattle.std.proofs.Common.{ℕ, ◌≡◌, ◌+◌, ◌-◌, ◌*◌, ◌/◌, ◌%◌, ◌^◌, ◌<◌, ◌≤◌, zero, suc, Bool, true, false, List, [], ◌∷◌, length, take, drop, sum, arith}
use Rattle.std.specs.Prelude.{slice_index, nat_eq, if◌then◌else◌}
use Rattle.std.proofs.lemmas.List.Sums.{sum_by-cons}
use Rattle.std.proofs.lemmas.Nat.{or_of_32}
use Rattle.raster_cells.proofs.Every.{Every}
use Rattle.lerc_header.specs.Checksum.{Sums, words, folded, after_group, after_groups, after_last, groups_of, sum_of}

abbrev pub AreBelow : List ℕ → Type 0
AreBelow bytes = Every (λ b. b < 256) bytes

index_below : (bytes : List ℕ) (i : ℕ) → AreBelow bytes → slice_index bytes i < 256
index_below [] i h = omega arith
index_below (b ∷ bytes) zero h = h.0
index_below (b ∷ bytes) (suc i) h = index_below bytes i h.1

abbrev AreLow : List ℕ → Type 0
AreLow ws = Every (λ w. w < 65536) ws

words_low : (bytes : List ℕ) → AreBelow bytes → AreLow (words bytes)
words_low [] h = tt
words_low (a ∷ []) h = tt
words_low (a ∷ b ∷ bytes) h = (let high = h.0 in let low = h.1.0 in omega (arith, high, low), words_low bytes h.1.1)

low_drop : (n : ℕ) (ws : List ℕ) → AreLow ws → AreLow (drop n ws)
low_drop zero ws h = h
low_drop (suc n) [] h = tt
low_drop (suc n) (w ∷ ws) h = low_drop n ws h.1

sum_low : (n : ℕ) (ws : List ℕ) → AreLow ws → sum (take n ws) ≤ 65535 * n
sum_low zero ws h = omega arith
sum_low (suc n) [] h = omega arith
sum_low (suc n) (w ∷ ws) h =
    let total : sum (w ∷ take n ws) ≡ w + sum (take n ws) = sum_by-cons (λ x. x) w (take n ws) in
    let here = h.0 in
    let rest = sum_low n ws h.1 in
    omega (arith, total, here, rest)

groups_low : (n : ℕ) (s : Sums) (ws : List ℕ) → s.first ≤ 131070 → AreLow ws → (after_groups n s ws).first ≤ 131070
groups_low zero s ws low h = low
groups_low (suc n) s ws low h =
    let total = sum_low 359 ws h in
    groups_low n (after_group s (take 359 ws)) (drop 359 ws) (omega (arith, low, total)) (low_drop 359 ws h)

-- the sums after an odd last byte
abbrev added : Sums → List ℕ → Sums
added s bytes = record {
  first = s.first + 256 * slice_index bytes (length bytes - 1);
  second = s.second + (s.first + 256 * slice_index bytes (length bytes - 1));
}

last_low : (s : Sums) (bytes : List ℕ) → s.first ≤ 131070 → AreBelow bytes → (after_last s bytes).first ≤ 196350
last_low s bytes low h = by (nat_eq (length bytes % 2) 0)
  where
    by : (even : Bool) → (if even then s else added s bytes).first ≤ 196350
    by true = omega (arith, low)
    by false = let byte = index_below bytes (length bytes - 1) h in omega (arith, low, byte)

cut : (x : ℕ) → x % 2 ^ 32 < 2 ^ 32
cut x = omega arith

folded_low : (x : ℕ) → x ≤ 196350 → folded x < 2 ^ 32
folded_low x low = omega (arith, low)

pub sum_below : (bytes : List ℕ) → AreBelow bytes → sum_of bytes < 2 ^ 32
sum_below bytes h =
    let s = after_last (groups_of bytes) bytes in
    let first = last_low (groups_of bytes) bytes (groups_low ((length bytes / 2 + 358) / 359) (record { first = 65535; second = 65535 }) (words bytes) (omega arith) (words_low bytes h)) h in
    or_of_32 ((folded s.second * 65536) % 2 ^ 32) (folded s.first) (cut (folded s.second * 65536)) (folded_low s.first first)
