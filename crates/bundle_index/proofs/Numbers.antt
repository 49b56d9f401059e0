-- Numbers at a place, in lists that are made of others.
use Rattle.std.proofs.Common.{◌≡◌, refl, ℕ, zero, suc, ◌+◌, ◌*◌, ◌^◌, ◌/◌, ◌%◌, ◌<◌, List, ◌++◌, length, get_or, drop, sym, ◌∙◌, ap, arith}
use Rattle.std.proofs.lemmas.List.{get_or-drop, drop_at}
use Rattle.byteorder.specs.Endian.{little_from, little_number, little_bytes}
use Rattle.byteorder.specs.Numbers.{little_number-reads_back}
use Rattle.bundle_index.specs.Numbers.{u16_at, u32_at, u64_at}
use Rattle.bundle_index.specs.Entry.{IsEntry, entry_bytes, entry_of, word_of}
use Rattle.bundle_index.specs.declared.entry.Entry.{Entry}

-- the same bytes at both places
abbrev pub SameAt : ℕ → List ℕ → ℕ → List ℕ → ℕ → Type 0
SameAt n xs p ys q = (i : ℕ) → i < n → get_or xs (p + i) 0 ≡ get_or ys (q + i) 0

same_from : (n k : ℕ) (xs ys : List ℕ) → ((i : ℕ) → i < n → get_or xs (k + i) 0 ≡ get_or ys (k + i) 0) → little_from k n xs ≡ little_from k n ys
same_from zero k xs ys same = refl
same_from (suc n) k xs ys same =
    let first : get_or xs k 0 ≡ get_or ys k 0 = ap (λ (m : ℕ). get_or xs m 0) (let e : k ≡ k + 0 = omega arith in e) ∙ same 0 (omega arith) ∙ ap (λ (m : ℕ). get_or ys m 0) (let e : k + 0 ≡ k = omega arith in e) in
    let rest : little_from (suc k) n xs ≡ little_from (suc k) n ys = same_from n (suc k) xs ys (λ i lt.
    ap (λ (m : ℕ). get_or xs m 0) (let e : suc k + i ≡ k + suc i = omega arith in e) ∙ same (suc i) (omega arith) ∙ ap (λ (m : ℕ). get_or ys m 0) (let e : k + suc i ≡ suc k + i = omega arith in e)) in
    λ i. first i + 256 * rest i

same_number : (n : ℕ) (xs ys : List ℕ) (p q : ℕ) → SameAt n xs p ys q → little_number n (drop p xs) ≡ little_number n (drop q ys)
same_number n xs ys p q same = same_from n 0 (drop p xs) (drop q ys) (λ i lt. get_or-drop p xs (0 + i) 0 ∙ ap (λ (m : ℕ). get_or xs m 0) (let e : p + (0 + i) ≡ p + i = omega arith in e) ∙ same i lt ∙ ap (λ (m : ℕ). get_or ys m 0) (let e : q + i ≡ q + (0 + i) = omega arith in e) ∙ sym (get_or-drop q ys (0 + i) 0))

pub same_u16 : (xs ys : List ℕ) (p q : ℕ) → SameAt 2 xs p ys q → u16_at xs p ≡ u16_at ys q
unfolding u16_at
same_u16 xs ys p q same = same_number 2 xs ys p q same

pub same_u32 : (xs ys : List ℕ) (p q : ℕ) → SameAt 4 xs p ys q → u32_at xs p ≡ u32_at ys q
unfolding u32_at
same_u32 xs ys p q same = same_number 4 xs ys p q same

pub same_u64 : (xs ys : List ℕ) (p q : ℕ) → SameAt 8 xs p ys q → u64_at xs p ≡ u64_at ys q
unfolding u64_at
same_u64 xs ys p q same = same_number 8 xs ys p q same

-- a number is read back from its bytes
back : (n : ℕ) (a c : List ℕ) (x place : ℕ) → length a ≡ place → x < 256 ^ n → little_number n (drop place (a ++ (little_bytes n x ++ c))) ≡ x
back n a c x place is fits = ap (little_number n) (drop_at a (little_bytes n x ++ c) place is) ∙ little_number-reads_back n x c fits

pub u16_back : (a c : List ℕ) (x place : ℕ) → length a ≡ place → x < 2 ^ 16 → u16_at (a ++ (little_bytes 2 x ++ c)) place ≡ x
unfolding u16_at
u16_back a c x place is fits = back 2 a c x place is (omega arith)

pub u32_back : (a c : List ℕ) (x place : ℕ) → length a ≡ place → x < 2 ^ 32 → u32_at (a ++ (little_bytes 4 x ++ c)) place ≡ x
unfolding u32_at
u32_back a c x place is fits = back 4 a c x place is (omega arith)

pub u64_back : (a c : List ℕ) (x place : ℕ) → length a ≡ place → x < 2 ^ 64 → u64_at (a ++ (little_bytes 8 x ++ c)) place ≡ x
unfolding u64_at
u64_back a c x place is fits = back 8 a c x place is (omega arith)

pub length-entry_bytes : (e : Entry) → length (entry_bytes e) ≡ 8
unfolding entry_bytes
length-entry_bytes e = refl

-- an entry is read back from its word
pub entry_back : (e : Entry) → IsEntry e → entry_of (word_of e) ≡ e
entry_back e fits = λ i. let r : Entry = record { offset = offset i; size = size i } in r
  where
    offset : word_of e % 2 ^ 40 ≡ e.offset
    offset = let o = fits.offset in omega arith

    size : word_of e / 2 ^ 40 ≡ e.size
    size = let o = fits.offset in omega arith

-- an entry is read back from its bytes
pub entry_read : (a c : List ℕ) (e : Entry) (place : ℕ) → length a ≡ place → IsEntry e → entry_of (u64_at (a ++ (entry_bytes e ++ c)) place) ≡ e
unfolding entry_bytes
entry_read a c e place is fits = ap entry_of (u64_back a c (word_of e) place is (let o = fits.offset in let s = fits.size in omega arith)) ∙ entry_back e fits
