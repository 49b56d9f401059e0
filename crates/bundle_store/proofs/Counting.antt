-- What a check counts.
use Rattle.std.proofs.Common.{◌≡◌, ◌≢◌, inl, inr, refl, Bool, true, false, ℕ, zero, suc, ◌+◌, ◌-◌, ◌<◌, ◌≤◌, ◌==◌, nat_eq, nat_lt, if◌then◌else◌, List, length, get_or, take, drop, Option, Some, None, sym, ◌∙◌, ap, subst, arith}
use mathlib.Core.Bool.{not}
use Rattle.std.proofs.lemmas.Bool.{cases_eq, cases_lt}
use Rattle.std.proofs.lemmas.Bool.Decides.{nat_tests}
use Rattle.std.proofs.lemmas.List.{places}
use Rattle.bundle_index.specs.Entry.{entry_at}
use Rattle.bundle_index.specs.Numbers.{u32_at, u64_at}
use Rattle.bundle_index.specs.declared.entry.Entry.{Entry}
use Rattle.bundle_index.proofs.Numbers.{same_u64}
use Rattle.bundle_store.specs.declared.check.CheckReport.{CheckReport}
use Rattle.bundle_store.specs.Check.{IsFirstBad, Reports, bad_count, byte_count, is_bad, tile_count}
use Rattle.bundle_store.specs.Tiles.{IsReadable, IsWithin, Opens}
use Rattle.bundle_store.specs.inside.Checking.{NextReport, first_bad_with}

test_same : (n m : ℕ) → n ≡ m → (n == m) ≡ true
test_same n m is = grind (arith, nat_tests)

test_differ : (n m : ℕ) → n ≢ m → (n == m) ≡ false
test_differ n m differs = grind (arith, nat_tests)

test_lt : (n m : ℕ) → n < m → nat_lt n m ≡ true
test_lt n m lt = grind (arith, nat_tests)

test_ge : (n m : ℕ) → m ≤ n → nat_lt n m ≡ false
test_ge n m ge = grind (arith, nat_tests)

-- the four tests of an entry
abbrev by_tests : Bool → Bool → Bool → Bool → Bool
by_tests a b c d = if a then false else (if b then true else (if c then true else (if d then false else true)))

tests : (bundle : List ℕ) (e : Entry) (a b c d : Bool) → (e.size == 0) ≡ a → nat_lt e.offset 131140 ≡ b → nat_lt (length bundle) (e.offset + e.size) ≡ c → (u32_at bundle (e.offset - 4) == e.size) ≡ d
    → is_bad bundle e ≡ by_tests a b c d
tests bundle e a b c d one two three four = λ i. by_tests (one i) (two i) (three i) (four i)

pub no_tile_is_good : (bundle : List ℕ) (e : Entry) → e.size ≡ 0 → is_bad bundle e ≡ false
no_tile_is_good bundle e is = tests bundle e true _ _ _ (test_same e.size 0 is) refl refl refl

pub low_is_bad : (bundle : List ℕ) (e : Entry) → e.size ≢ 0 → e.offset < 131140 → is_bad bundle e ≡ true
low_is_bad bundle e some low = tests bundle e false true _ _ (test_differ e.size 0 some) (test_lt e.offset 131140 low) refl refl

pub long_is_bad : (bundle : List ℕ) (e : Entry) → e.size ≢ 0 → 131140 ≤ e.offset → length bundle < e.offset + e.size → is_bad bundle e ≡ true
long_is_bad bundle e some high past = tests bundle e false false true _ (test_differ e.size 0 some) (test_ge e.offset 131140 high) (test_lt (length bundle) (e.offset + e.size) past) refl

pub size_decides : (bundle : List ℕ) (e : Entry) (d : Bool) → e.size ≢ 0 → 131140 ≤ e.offset → e.offset + e.size ≤ length bundle → (u32_at bundle (e.offset - 4) == e.size) ≡ d → is_bad bundle e ≡ (if d then false else true)
size_decides bundle e d some high within is = tests bundle e false false false d (test_differ e.size 0 some) (test_ge e.offset 131140 high) (test_ge (length bundle) (e.offset + e.size) within) is

pub other_size_is_bad : (bundle : List ℕ) (e : Entry) → e.size ≢ 0 → 131140 ≤ e.offset → e.offset + e.size ≤ length bundle → u32_at bundle (e.offset - 4) ≢ e.size → is_bad bundle e ≡ true
other_size_is_bad bundle e some high within differs = size_decides bundle e false some high within (test_differ (u32_at bundle (e.offset - 4)) e.size differs)

pub own_size_is_good : (bundle : List ℕ) (e : Entry) → e.size ≢ 0 → 131140 ≤ e.offset → e.offset + e.size ≤ length bundle → u32_at bundle (e.offset - 4) ≡ e.size → is_bad bundle e ≡ false
own_size_is_good bundle e some high within same = size_decides bundle e true some high within (test_same (u32_at bundle (e.offset - 4)) e.size same)

not_if : (d : Bool) → not d ≡ (if d then false else true)
not_if true = refl
not_if false = refl

-- the number in front of a tile decides
pub size_told : (bundle : List ℕ) (e : Entry) (r : ℕ) → e.size ≢ 0 → 131140 ≤ e.offset → e.offset + e.size ≤ length bundle → r ≡ u32_at bundle (e.offset - 4) → not (nat_eq r e.size) ≡ is_bad bundle e
size_told bundle e r some high within is = ap (λ (n : ℕ). not (nat_eq n e.size)) is ∙ not_if (u32_at bundle (e.offset - 4) == e.size) ∙ sym (size_decides bundle e (u32_at bundle (e.offset - 4) == e.size) some high within refl)

-- one slot more
tile_more : (b : List ℕ) (n : ℕ) → tile_count b (n + 1) ≡ tile_count b n + (if (entry_at b n).size == 0 then 0 else 1)
unfolding tile_count
tile_more b n = ap (tile_count b) (let e : n + 1 ≡ suc n = omega arith in e)

byte_more : (b : List ℕ) (n : ℕ) → byte_count b (n + 1) ≡ byte_count b n + (entry_at b n).size
unfolding byte_count
byte_more b n = ap (byte_count b) (let e : n + 1 ≡ suc n = omega arith in e)

bad_more : (b : List ℕ) (n : ℕ) → bad_count b (n + 1) ≡ bad_count b n + (if is_bad b (entry_at b n) then 1 else 0)
unfolding bad_count
bad_more b n = ap (bad_count b) (let e : n + 1 ≡ suc n = omega arith in e)

first_more : (b : List ℕ) (n : ℕ) (o : Option ℕ) (t : Bool) → t ≡ is_bad b (entry_at b n) → IsFirstBad b n o → IsFirstBad b (n + 1) (first_bad_with o n t)
first_more b n (Some first) t is found = (omega (arith, found.0), found.1, found.2)
first_more b n None true is none = (omega arith, sym is, none)
first_more b n None false is none = λ slot lt. elim (cases_eq slot n) [
  | inl same ↦ ap (λ (m : ℕ). is_bad b (entry_at b m)) same ∙ sym is
  | inr differs ↦ none slot (omega (arith, differs))
]

pub reports_none : (b : List ℕ) (r : CheckReport) → r.tiles ≡ 0 → r.bytes ≡ 0 → r.bad ≡ 0 → r.first_bad ≡ None → Reports b 0 r
unfolding tile_count byte_count bad_count
reports_none b r tiles bytes bad first = record { tiles = tiles; bytes = bytes; bad = bad; first_bad = subst (IsFirstBad b 0) (sym first) (λ slot lt. absurd (omega arith)) }

pub reports_more : (b : List ℕ) (n size : ℕ) (t : Bool) (old now : CheckReport) → size ≡ (entry_at b n).size → t ≡ is_bad b (entry_at b n) → NextReport n size t old now → Reports b n old → Reports b (n + 1) now
reports_more b n size t old now size_is bad_is next was = record {
  tiles = next.tiles ∙ (λ i. was.tiles i + (if size_is i == 0 then 0 else 1)) ∙ sym (tile_more b n);
  bytes = next.bytes ∙ (λ i. was.bytes i + size_is i) ∙ sym (byte_more b n);
  bad = next.bad ∙ (λ i. was.bad i + (if bad_is i then 1 else 0)) ∙ sym (bad_more b n);
  first_bad = subst (IsFirstBad b (n + 1)) (sym next.first_bad) (first_more b n old.first_bad t bad_is was.first_bad);
}

-- where none is bad
none_bad : (b : List ℕ) (n slot : ℕ) → bad_count b n ≡ 0 → slot < n → is_bad b (entry_at b slot) ≡ false
unfolding bad_count
none_bad b zero slot is lt = absurd (omega arith)
none_bad b (suc n) slot is lt =
    let both : bad_count b n + (if is_bad b (entry_at b n) then 1 else 0) ≡ 0 = is in
    elim (cases_eq slot n) [
      | inl same ↦ ap (λ (m : ℕ). is_bad b (entry_at b m)) same ∙ by_test (is_bad b (entry_at b n)) (omega (arith, both))
      | inr differs ↦ none_bad b n slot (omega (arith, both)) (omega (arith, differs))
    ]
  where
    by_test : (t : Bool) → ◌≡◌ {A = ℕ} (if t then 1 else 0) 0 → t ≡ false
    by_test true e = absurd (omega arith)
    by_test false e = refl

within_by : (b : List ℕ) (e : Entry) → is_bad b e ≡ false → IsWithin b e
within_by b e good = λ some.
    let not : e.size ≢ 0 = λ is. absurd (omega arith) in
    elim (cases_lt e.offset 131140) [
      | inl low ↦ absurd (let f : true ≡ false = sym (low_is_bad b e not low) ∙ good in cc)
      | inr high ↦ elim (cases_lt (length b) (e.offset + e.size)) [
        | inl past ↦ absurd (let f : true ≡ false = sym (long_is_bad b e not high past) ∙ good in cc)
        | inr within ↦ (omega (arith, high), within)
      ]
    ]

pub good_is_readable : (b : List ℕ) → Opens b → bad_count b 16384 ≡ 0 → IsReadable b
good_is_readable b opens none = elim opens [
  | inl empty ↦ inl empty
  | inr index ↦ inr (record { index = index; entries = λ slot lt. within_by b (entry_at b slot) (none_bad b 16384 slot none lt) })
]

-- a word of a part
cut_at : (n at i d : ℕ) (c : List ℕ) → i < n → get_or (take n (drop at c)) i d ≡ get_or c (at + i) d
cut_at n at i d c lt = grind (arith, places)

pub part_word : (part : List ℕ) (at k : ℕ) → 8 ≤ k → u64_at (take k (drop at part)) 0 ≡ u64_at part at
part_word part at k enough = same_u64 (take k (drop at part)) part 0 at (λ i lt. cut_at k at (0 + i) 0 part (omega arith) ∙ ap (λ (m : ℕ). get_or part m 0) (let e : at + (0 + i) ≡ at + i = omega arith in e))
