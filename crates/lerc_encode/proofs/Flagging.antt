-- Flags: in words that are 0 none is set; and where one is set, no other changes. And how many words
-- the flags of groups take.
use Rattle.std.proofs.Common.{◌≡◌, ◌⊎◌, ℕ, zero, suc, ◌+◌, ◌-◌, ◌*◌, ◌/◌, ◌%◌, ◌^◌, ◌<◌, ◌≤◌, List, length, get_or, replicate, inl, inr, bit_or, ap, sym, ◌∙◌, subst, arith}
use Rattle.std.specs.Prelude.{set}
use Rattle.std.specs.Int.{bit_at, w64}
use Rattle.std.proofs.lemmas.Bool.{cases_eq, cases_lt}
use Rattle.std.proofs.lemmas.List.{get_or-replicate, get_or-set_same, get_or-set_other, get_or_past, length-replicate}
use Rattle.std.proofs.lemmas.Nat.{div-add-mod', div_below, mod_below}
use Rattle.std.proofs.lemmas.Nat.Bits.{bit_at-zero, bit_at_set_same, bit_at_set_other}
use Rattle.std.proofs.Math.Nat.{mul-le-mul_left, mul-le-mul_right}
use Rattle.lerc_encode.specs.declared.blocks.flags.Flags.{Flags}
use Rattle.lerc_encode.specs.inside.Flags.{IsFlagged, room_of}

-- ---- none

abbrev zeros : ℕ → List ℕ
zeros m = replicate m 0

-- in words that are 0 no flag is set
pub none_set : (m k : ℕ) → IsFlagged (zeros m) k → ⊥
none_set m k is =
    let unset : bit_at (get_or (zeros m) (k / 64) 0) (k % 64) ≡ 0 = ap (λ n. bit_at n (k % 64)) (word (cases_lt (k / 64) m)) ∙ bit_at-zero (k % 64) in
    omega (arith, unset, is)
  where
    word : (k / 64 < m) ⊎ (m ≤ k / 64) → get_or (zeros m) (k / 64) 0 ≡ 0
    word (inl low) = get_or-replicate m (k / 64) 0 0 low
    word (inr past) = get_or_past (zeros m) (k / 64) 0 (let long = length-replicate {A = ℕ} m 0 in omega (arith, long, past))

-- ---- one

-- the word of flag number k, with that flag
abbrev pub with_flag : List ℕ → ℕ → ℕ
with_flag flags k = bit_or (get_or flags (k / 64) 0) (1 * 2 ^ (k % 64) % 18446744073709551616)

word_within : (k n : ℕ) → k < 64 * n → k / 64 < n
word_within k n low = omega (arith, low)

pub set_this : (flags : List ℕ) (k : ℕ) → k < 64 * length flags → IsFlagged (set flags (k / 64) (with_flag flags k)) k
set_this flags k low =
    ap (λ n. bit_at n (k % 64)) (get_or-set_same flags (k / 64) (with_flag flags k) 0 (word_within k (length flags) low))
    ∙ bit_at_set_same w64 (get_or flags (k / 64) 0) (k % 64) (omega arith)

pub set_other : (flags : List ℕ) (k : ℕ) → k < 64 * length flags → (i : ℕ) → (i ≡ k → ⊥)
    → bit_at (get_or (set flags (k / 64) (with_flag flags k)) (i / 64) 0) (i % 64) ≡ bit_at (get_or flags (i / 64) 0) (i % 64)
set_other flags k low i other = by (cases_eq (i / 64) (k / 64))
  where
    apart : i / 64 ≡ k / 64 → i % 64 ≡ k % 64 → i ≡ k
    apart word bit = omega (arith, word, bit)

    by : (i / 64 ≡ k / 64) ⊎ (i / 64 ≡ k / 64 → ⊥) → bit_at (get_or (set flags (k / 64) (with_flag flags k)) (i / 64) 0) (i % 64) ≡ bit_at (get_or flags (i / 64) 0) (i % 64)
    by (inl word) =
        ap (λ n. bit_at (get_or (set flags (k / 64) (with_flag flags k)) n 0) (i % 64)) word
        ∙ ap (λ n. bit_at n (i % 64)) (get_or-set_same flags (k / 64) (with_flag flags k) 0 (word_within k (length flags) low))
        ∙ bit_at_set_other w64 (get_or flags (k / 64) 0) (k % 64) (omega arith) (i % 64) (λ bit. other (apart word bit))
        ∙ ap (λ n. bit_at (get_or flags n 0) (i % 64)) (sym word)
    by (inr word) = ap (λ n. bit_at n (i % 64)) (get_or-set_other flags (k / 64) (i / 64) (with_flag flags k) 0 word)

-- ---- groups

some_group : (m group k : ℕ) → k < m * group → 0 < group
some_group m zero k low = absurd (let t : m * 0 ≡ 0 = omega arith in omega (arith, t, low))
some_group m (suc n) k low = omega arith

pub in_room : (flags : Flags) (k : ℕ) → k < room_of flags → (0 < flags.group) × (k / flags.group < 64 * length flags.words.items)
unfolding room_of
in_room flags k low =
    let some : 0 < flags.group = some_group (64 * length flags.words.items) flags.group k low in
    (some, div_below k flags.group (64 * length flags.words.items) some low)

pub alone_in_room : (flags : Flags) (k : ℕ) → flags.group ≡ 1 → k < room_of flags → k < 64 * length flags.words.items
alone_in_room flags k one low =
    let there : k / 1 < 64 * length flags.words.items = subst (λ n. k / n < 64 * length flags.words.items) one (in_room flags k low).1 in
    omega (arith, there)

-- the flags of so many numbers
abbrev pub words_for : ℕ → ℕ → ℕ
words_for count group = ((count + group - 1) / group + 63) / 64

pub has_room : (flags : Flags) (count : ℕ) → 0 < flags.group → length flags.words.items ≡ words_for count flags.group → count ≤ room_of flags
unfolding room_of
has_room flags count some is = by flags.group (length flags.words.items) some is
  where
    by : (group words : ℕ) → 0 < group → words ≡ words_for count group → count ≤ 64 * words * group
    by group words above long =
        let n = (count + group - 1) / group in
        let all : n ≤ 64 * words = omega (arith, long) in
        let more : n * group ≤ 64 * words * group = mul-le-mul_right group all in
        let parts = div-add-mod' (count + group - 1) group in
        let rest = mod_below (count + group - 1) group above in
        omega (arith, more, parts, rest, above)

-- of so many rows of blocks, each of so many
pub few_words : (down row group count : ℕ) → 0 < group → group ≡ (row + 1023) / 1024 → count ≡ down * row → words_for count group ≤ 16 * down
few_words down row group count some is all =
    let most : row ≤ 1024 * group = omega (arith, is) in
    let wide : down * row ≤ down * (1024 * group) = mul-le-mul_left down most in
    let whole : (1024 * down + 1) * group ≡ down * (1024 * group) + group = omega arith in
    let few : (count + group - 1) / group < 1024 * down + 1 = div_below (count + group - 1) group (1024 * down + 1) some (omega (arith, wide, all, whole, some)) in
    omega (arith, few)
