-- A head is a part: it is read in one way, and it stands or has one first fault.
use Rattle.std.proofs.Common.{◌≡◌, ℕ, zero, suc, ◌+◌, ◌<◌, ◌≤◌, ◌↔◌, ◌⊎◌, Bool, true, false, IsTrue, List, ◌++◌, length, take, drop, refl, sym, ap, ◌∙◌, subst, inl, inr, arith}
use Rattle.std.proofs.lemmas.Bool.{cases_lt, false≢true}
use Rattle.std.proofs.lemmas.List.{length-take-le, take-append-drop, take_at}
use Rattle.first_fault.specs.Faults.{none, wrong, unless}
use Rattle.first_fault.specs.Parts.{IsSingle, IsPart, IsDecided, InFront}
use Rattle.first_fault.proofs.Parts.{single-none, single-unless, passed}
use Rattle.first_fault.proofs.Decided.{decided_unless}
use Rattle.bit_stuff.specs.declared.heads.ListHead.{ListHead}
use Rattle.bit_stuff.specs.declared.heads.ListReason.{ListReason}
use Rattle.bit_stuff.specs.declared.heads.ListReason.TheVariants.{Cut, BadHead, BadCount, BadTable}
use Rattle.bit_stuff.specs.Head.{IsListHead, IsListHeadOf, HasForm, count_at, count_size, list_count_faults, list_form_faults, list_head_faults, size_code, table_bit, width_bits}
use Rattle.bit_stuff.proofs.HeadLaws.{head-append, head-take, one_head}

-- ---- once

-- two fronts of one length in equal joins are equal
pub same_front : (a b s t : List ℕ) → length a ≡ length b → a ++ s ≡ b ++ t → a ≡ b
same_front a b s t size joined =
    sym (take_at a s (length a) refl) ∙ ap (take (length a)) joined ∙ ap (λ (n : ℕ). take n (b ++ t)) size ∙ take_at b t (length b) refl

pub head_once : (a b s t : List ℕ) (g h : ListHead) → IsListHead a g (length a) → IsListHead b h (length b) → a ++ s ≡ b ++ t → (a ≡ b) × (g ≡ h)
head_once a b s t g h p q joined =
    let other : IsListHead (a ++ s) h (length b) = subst (λ (u : List ℕ). IsListHead u h (length b)) (sym joined) (head-append b t h (length b) q) in
    let same = one_head (a ++ s) g h (length a) (length b) (head-append a s g (length a) p) other in
    (same_front a b s t same.1 joined, same.0)

-- ---- either

pub head_no_fault : (n : ℕ) (bytes : List ℕ) (head : ListHead) (used : ℕ) → IsListHead bytes head used → head.count ≡ n → (p : ℕ) (r : ListReason) → list_head_faults n bytes p r → ⊥
head_no_fault n bytes head used h counted p r w =
    let w1 = passed (0 < length bytes) (list_form_faults n bytes) (wrong Cut 0) h.form.there p r w in
    let w2 = passed (size_code bytes < 3) (unless (table_bit bytes ≡ 1 → 0 < width_bits bytes) (wrong BadTable 0) (list_count_faults n bytes)) (wrong BadHead 0) h.form.code p r w1 in
    let w3 = passed (table_bit bytes ≡ 1 → 0 < width_bits bytes) (list_count_faults n bytes) (wrong BadTable 0) h.form.table p r w2 in
    let size : 1 + count_size (size_code bytes) ≤ length bytes = omega (arith, h.size, h.within) in
    let w4 = passed (1 + count_size (size_code bytes) ≤ length bytes) (unless (count_at bytes ≡ n) (wrong BadCount 1) none) (wrong Cut 1) size p r w3 in
    let w5 = passed (count_at bytes ≡ n) none (wrong BadCount 1) (sym h.count ∙ counted) p r w4 in
    w5

-- ---- single

pub head_single : (n : ℕ) (bytes : List ℕ) → IsSingle (list_head_faults n bytes)
head_single n bytes =
    single-unless (0 < length bytes) Cut 0 (list_form_faults n bytes)
    (single-unless (size_code bytes < 3) BadHead 0 (unless (table_bit bytes ≡ 1 → 0 < width_bits bytes) (wrong BadTable 0) (list_count_faults n bytes))
    (single-unless (table_bit bytes ≡ 1 → 0 < width_bits bytes) BadTable 0 (list_count_faults n bytes)
    (single-unless (1 + count_size (size_code bytes) ≤ length bytes) Cut 1 (unless (count_at bytes ≡ n) (wrong BadCount 1) none)
    (single-unless (count_at bytes ≡ n) BadCount 1 none single-none))))

pub head_part : (n : ℕ) → IsPart (IsListHeadOf n) (list_head_faults n)
head_part n = record {
  once = λ a b s t g h p q joined. head_once a b s t g h p.0 q.0 joined;
  either = λ a s h p r stands w. head_no_fault n (a ++ s) h (length a) (head-append a s h (length a) stands.0) stands.1 p r w;
  single = λ bytes. head_single n bytes;
}

-- ---- decided

tests_lt : (m n : ℕ) → (m < n) ⊎ (¬ (m < n))
tests_lt m n = elim (cases_lt m n) [ inl below ↦ inl below | inr past ↦ inr (λ below. omega (arith, below, past)) ]

tests_le : (m n : ℕ) → (m ≤ n) ⊎ (¬ (m ≤ n))
tests_le m n = elim (cases_lt n m) [ inl past ↦ inr (λ below. omega (arith, below, past)) | inr below ↦ inl below ]

tests_same : (m n : ℕ) → (m ≡ n) ⊎ (¬ (m ≡ n))
tests_same m n = elim (cases_lt m n) [
  | inl below ↦ inr (λ e. omega (arith, below, e))
  | inr past ↦ elim (cases_lt n m) [
    | inl above ↦ inr (λ e. omega (arith, above, e))
    | inr le ↦ inl (omega (arith, past, le))
  ]
]

tests_table : (bytes : List ℕ) → (table_bit bytes ≡ 1 → 0 < width_bits bytes) ⊎ (¬ (table_bit bytes ≡ 1 → 0 < width_bits bytes))
tests_table bytes = elim (tests_same (table_bit bytes) 1) [
  | inl set ↦ elim (tests_lt 0 (width_bits bytes)) [ inl wide ↦ inl (λ _. wide) | inr no_width ↦ inr (λ f. no_width (f set)) ]
  | inr clear ↦ inl (λ set. absurd (clear set))
]

flag_is : (n : ℕ) → n < 2 → (b : Bool) × (IsTrue b ↔ (n ≡ 1))
flag_is zero h = (false, (λ e. absurd (false≢true e), λ e. absurd (omega (arith, e))))
flag_is (suc zero) h = (true, (λ _. refl, λ _. refl))
flag_is (suc (suc n)) h = absurd (omega (arith, h))

-- a head stands in front of bytes that pass the tests
head_front : (n : ℕ) (bytes : List ℕ) → HasForm bytes → 1 + count_size (size_code bytes) ≤ length bytes → count_at bytes ≡ n → InFront (IsListHeadOf n) bytes
head_front n bytes form room counted =
    let used = 1 + count_size (size_code bytes) in
    let flag = flag_is (table_bit bytes) (omega arith) in
    let head : ListHead = record { width = width_bits bytes; table = flag.0; count = count_at bytes } in
    let whole : IsListHead bytes head used = record { form = form; width = refl; table = flag.1; count = refl; size = refl; within = room } in
    let size : length (take used bytes) ≡ used = length-take-le used bytes room in record {
      front = take used bytes;
      rest = drop used bytes;
      value = head;
      joined = sym (take-append-drop used bytes);
      stands = (subst (λ (k : ℕ). IsListHead (take used bytes) head k) (sym size) (head-take bytes used head used whole (omega arith)), counted);
    }

pub head_decided : (n : ℕ) → IsDecided (IsListHeadOf n) (list_head_faults n)
head_decided n bytes are =
    decided_unless (0 < length bytes) (wrong Cut 0) (list_form_faults n bytes) (tests_lt 0 (length bytes)) (record { place = 0; reason = Cut; fault = (refl, refl) }) (λ there.
    decided_unless (size_code bytes < 3) (wrong BadHead 0) (unless (table_bit bytes ≡ 1 → 0 < width_bits bytes) (wrong BadTable 0) (list_count_faults n bytes)) (tests_lt (size_code bytes) 3) (record { place = 0; reason = BadHead; fault = (refl, refl) }) (λ code.
    decided_unless (table_bit bytes ≡ 1 → 0 < width_bits bytes) (wrong BadTable 0) (list_count_faults n bytes) (tests_table bytes) (record { place = 0; reason = BadTable; fault = (refl, refl) }) (λ wide.
    decided_unless (1 + count_size (size_code bytes) ≤ length bytes) (wrong Cut 1) (unless (count_at bytes ≡ n) (wrong BadCount 1) none) (tests_le (1 + count_size (size_code bytes)) (length bytes)) (record { place = 1; reason = Cut; fault = (refl, refl) }) (λ room.
    decided_unless (count_at bytes ≡ n) (wrong BadCount 1) none (tests_same (count_at bytes) n) (record { place = 1; reason = BadCount; fault = (refl, refl) }) (λ counted.
    inl (head_front n bytes (record { there = there; code = code; table = wide }) room counted))))))
