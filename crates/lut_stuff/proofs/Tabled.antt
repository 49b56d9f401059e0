-- The chosen list in the table form is a list of its values.
use Rattle.std.proofs.Common.{◌≡◌, ℕ, suc, ◌+◌, ◌-◌, ◌^◌, ◌<◌, ◌≤◌, ◌↔◌, true, List, [], ◌∷◌, ◌++◌, length, get_or, drop, map, refl, sym, ap, ◌∙◌, subst, arith}
use Rattle.std.specs.Prelude.{All, Contains, max, IsNone, Option, None, Some, set, ◌⊎◌}
use Rattle.std.proofs.Common.{inl, inr}
use Rattle.std.proofs.lemmas.Bool.{cases_lt, le-leb, lt-ltb, true≢false}
use Rattle.std.proofs.lemmas.Bool.Decides.{leb_tells}
use borrow.Rule.Slice.PartMut.{put_mid}
use Rattle.std.proofs.lemmas.List.{append-nil, length-append, length-map}
use Rattle.std.proofs.lemmas.List.Elements.{All-from_get_or, All-map}
use Rattle.bit_stuff.specs.Head.{IsListHead, IsListHeadOf, list_head_bytes, head_size}
use Rattle.bit_stuff.specs.Simple.{binary_digits, greatest_number, width_of}
use Rattle.bit_stuff.specs.Stuffed.{IsStuffed, stuffed_bytes, stuffed_size}
use Rattle.bit_stuff.proofs.Buffers.{end_written}
use Rattle.bit_stuff.proofs.Digits.{below_width, digits_hold_below, digits_step, width_of-le}
use Rattle.bit_stuff.proofs.HeadLaws.{head_bytes-head, length-head_bytes}
use Rattle.bit_stuff.proofs.StuffedLaws.{length-stuffed_bytes, stuffed_bytes-stuffed}
use Rattle.lut_stuff.specs.Lists.{IsList, IsTabled, entry_at}
use Rattle.lut_stuff.specs.Tables.{distinct_above_0, entries_of, index_in, table_bytes, table_size}
use Rattle.lut_stuff.specs.inside.Indexes.IsBody.{tabled}
use Rattle.lut_stuff.proofs.Lists.{body_list}
use Rattle.lut_stuff.proofs.Rising.{entries_from, entries_have, entries_rising, entry_named, has_all, has_at, has_below_greatest, index_within, rising_above, contains_from_has, has_from_contains, Has}

pub distinct_is : (values : List ℕ) → distinct_above_0 values ≡ length (entries_of values)
unfolding distinct_above_0
distinct_is values = refl

-- some value is above 0 where there is an entry, and back
pub some_distinct : (values : List ℕ) → 0 < distinct_above_0 values → 0 < greatest_number values
some_distinct values some =
    let there : 0 < length (entries_of values) = omega (arith, some, distinct_is values) in
    let first = has_at (entries_of values) 0 there in
    let above = rising_above 0 (entries_of values) (get_or (entries_of values) 0 0) (entries_rising values) first in
    omega (arith, above, has_below_greatest values (get_or (entries_of values) 0 0) (entries_from values (get_or (entries_of values) 0 0) first))

digits_some : (n : ℕ) → 0 < n → 0 < binary_digits n
digits_some n some = omega (arith, digits_step n some)

map_named : (es vs : List ℕ) → ((i : ℕ) → i < length vs → entry_at es (index_in es (get_or vs i 0)) ≡ get_or vs i 0) → vs ≡ map (entry_at es) (map (index_in es) vs)
map_named es [] h = refl
map_named es (v ∷ vs) h = (λ i. sym (h 0 (omega arith)) i ∷ map_named es vs (λ k lt. h (suc k) (omega (arith, lt))) i)

-- the bytes of the table and the indexes
abbrev pub tabled_bytes : List ℕ → List ℕ
tabled_bytes values =
    (distinct_above_0 values + 1)
    ∷ (stuffed_bytes (width_of values) (entries_of values)
    ++ stuffed_bytes (binary_digits (distinct_above_0 values)) (map (index_in (entries_of values)) values))

pub indexes_fit : (values : List ℕ) → distinct_above_0 values < 2 ^ 32 → All (λ i. i < 2 ^ binary_digits (distinct_above_0 values)) (map (index_in (entries_of values)) values)
indexes_fit values few =
    All-map (λ i. i < 2 ^ binary_digits (distinct_above_0 values)) (index_in (entries_of values)) values
    (All-from_get_or (λ v. index_in (entries_of values) v < 2 ^ binary_digits (distinct_above_0 values)) values 0
    (λ i lt. omega (arith, index_within (entries_of values) (get_or values i 0), distinct_is values, digits_hold_below 32 (distinct_above_0 values) few)))

pub entries_fit : (values : List ℕ) → All (λ v. v < 2 ^ 31) values → All (λ v. v < 2 ^ width_of values) (entries_of values)
entries_fit values below =
    let whole : All (λ v. v < 2 ^ width_of values) values = below_width 31 values below in
    All-from_get_or (λ v. v < 2 ^ width_of values) (entries_of values) 0
    (has_all (λ v. v < 2 ^ width_of values) (entries_of values)
    (λ z h. fits values (width_of values) z whole (entries_from values z h)))
  where
    fits : (xs : List ℕ) (w z : ℕ) → All (λ v. v < 2 ^ w) xs → Has z xs → z < 2 ^ w
    fits xs w z all h = let c = contains_from_has xs z h in subst (λ (u : ℕ). u < 2 ^ w) c.2 (all c.0 z c.1)

pub tabled_is : (values : List ℕ) → All (λ v. v < 2 ^ 31) values → 0 < distinct_above_0 values → distinct_above_0 values < 2 ^ 32 → IsTabled (width_of values) (tabled_bytes values) values
tabled_is values below some few = record {
  entries = entries_of values;
  indexes = map (index_in (entries_of values)) values;
  entry_bytes = stuffed_bytes (width_of values) (entries_of values);
  index_bytes = stuffed_bytes (binary_digits (distinct_above_0 values)) (map (index_in (entries_of values)) values);
  joined = ap (λ (k : ℕ). (k + 1) ∷ (stuffed_bytes (width_of values) (entries_of values) ++ stuffed_bytes (binary_digits (distinct_above_0 values)) (map (index_in (entries_of values)) values))) (distinct_is values);
  some = omega (arith, some, distinct_is values);
  stuffed_entries = stuffed_bytes-stuffed (width_of values) (entries_of values) (entries_fit values below);
  stuffed_indexes = subst (λ (k : ℕ). IsStuffed (stuffed_bytes (binary_digits (distinct_above_0 values)) (map (index_in (entries_of values)) values)) (binary_digits k) (map (index_in (entries_of values)) values)) (distinct_is values)
      (stuffed_bytes-stuffed (binary_digits (distinct_above_0 values)) (map (index_in (entries_of values)) values) (indexes_fit values few));
  within = All-map (λ i. i < length (entries_of values) + 1) (index_in (entries_of values)) values
      (All-from_get_or (λ v. index_in (entries_of values) v < length (entries_of values) + 1) values 0 (λ i lt. omega (arith, index_within (entries_of values) (get_or values i 0))));
  named = map_named (entries_of values) values (λ i lt. entry_named (entries_of values) (get_or values i 0) (entries_rising values) (entries_have values (get_or values i 0) (has_at values i lt)));
}

pub table_is : (values : List ℕ) → table_bytes values ≡ list_head_bytes (width_of values) true (length values) ++ tabled_bytes values
unfolding table_bytes
table_is values = refl

-- the chosen bytes are a list of the values
pub table_list : (values : List ℕ) → length values < 2 ^ 32 → All (λ v. v < 2 ^ 31) values → 0 < distinct_above_0 values → distinct_above_0 values < 2 ^ 32 → IsList (table_bytes values) values
table_list values small below some few =
    let n = length values in
    let w = width_of values in
    let narrow : w < 32 = omega (arith, width_of-le 31 values below) in
    let wide : 0 < w = digits_some (greatest_number values) (some_distinct values some) in
    let front = list_head_bytes w true n in
    let whole : IsListHead (front ++ []) (record { width = w; table = true; count = n }) (head_size n) = head_bytes-head w true n [] narrow small (λ _. wide) in
    let head : IsListHeadOf n front (record { width = w; table = true; count = n }) =
    (subst (λ (k : ℕ). IsListHead front (record { width = w; table = true; count = n }) k) (sym (length-head_bytes w true n)) (subst (λ (u : List ℕ). IsListHead u (record { width = w; table = true; count = n }) (head_size n)) (append-nil front) whole), refl) in
    subst (λ (u : List ℕ). IsList u values) (sym (table_is values)) (body_list front (tabled_bytes values) values (record { width = w; table = true; count = n }) head (tabled refl (tabled_is values below some few)))

pub length-tabled_bytes : (values : List ℕ) → length (tabled_bytes values) ≡ 1 + stuffed_size (distinct_above_0 values) (width_of values) + stuffed_size (length values) (binary_digits (distinct_above_0 values))
length-tabled_bytes values =
    let es = entries_of values in
    let is = map (index_in es) values in
    let a : length (stuffed_bytes (width_of values) es) ≡ stuffed_size (distinct_above_0 values) (width_of values) = length-stuffed_bytes (width_of values) es ∙ ap (λ (k : ℕ). stuffed_size k (width_of values)) (sym (distinct_is values)) in
    let b : length (stuffed_bytes (binary_digits (distinct_above_0 values)) is) ≡ stuffed_size (length values) (binary_digits (distinct_above_0 values)) =
    length-stuffed_bytes (binary_digits (distinct_above_0 values)) is ∙ ap (λ (k : ℕ). stuffed_size k (binary_digits (distinct_above_0 values))) (length-map values (index_in es)) in
    omega (arith, a, b, length-append (stuffed_bytes (width_of values) es) (stuffed_bytes (binary_digits (distinct_above_0 values)) is))

pub length-table_bytes : (values : List ℕ) → length (table_bytes values) ≡ head_size (length values) + (1 + stuffed_size (distinct_above_0 values) (width_of values) + stuffed_size (length values) (binary_digits (distinct_above_0 values)))
length-table_bytes values =
    ap length (table_is values) ∙ length-append (list_head_bytes (width_of values) true (length values)) (tabled_bytes values)
    ∙ omega (arith, length-head_bytes (width_of values) true (length values), length-tabled_bytes values)

-- ---- where there is a table

pub table_size_some : (values : List ℕ) → 0 < distinct_above_0 values → distinct_above_0 values ≤ 254 → table_size values ≡ Some (length (table_bytes values))
table_size_some values some few = rw (lt-ltb 0 (distinct_above_0 values) some, le-leb (distinct_above_0 values) 254 few) refl

pub table_size_none : (values : List ℕ) → (distinct_above_0 values ≡ 0) ⊎ (254 < distinct_above_0 values) → table_size values ≡ None
table_size_none values (inl none) = elim (leb_tells 1 (distinct_above_0 values)) [
  | inl some ↦ absurd (omega (arith, some.1, none))
  | inr no_entry ↦ rw (no_entry.0) refl
]
table_size_none values (inr many) = elim (leb_tells 1 (distinct_above_0 values)) [
  | inl some ↦ elim (leb_tells (distinct_above_0 values) 254) [
    | inl few ↦ absurd (omega (arith, few.1, many))
    | inr past ↦ rw (some.0, past.0) refl
  ]
  | inr no_entry ↦ rw (no_entry.0) refl
]

-- what a length tells
pub has_size : (values : List ℕ) (n : ℕ) → table_size values ≡ Some n → (0 < distinct_above_0 values) × ((distinct_above_0 values ≤ 254) × (n ≡ length (table_bytes values)))
has_size values n e = elim (cases_lt 0 (distinct_above_0 values)) [
  | inl some ↦ elim (cases_lt 254 (distinct_above_0 values)) [
    | inl many ↦ absurd (none_some n (sym (table_size_none values (inr many)) ∙ e))
    | inr few ↦ (some, (few, same_some n (length (table_bytes values)) (sym e ∙ table_size_some values some few)))
  ]
  | inr none ↦ absurd (none_some n (sym (table_size_none values (inl (omega (arith, none)))) ∙ e))
]
  where
    none_some : (n : ℕ) → None ≡ Some n → ⊥
    none_some n e = cc

    same_some : (n m : ℕ) → Some n ≡ Some m → n ≡ m
    same_some n m e = cc

pub zeros_have_none : (values : List ℕ) → All (λ v. v ≡ 0) values → distinct_above_0 values ≡ 0
zeros_have_none values zeros = elim (cases_lt 0 (distinct_above_0 values)) [
  | inl some ↦ absurd (there (omega (arith, some, distinct_is values)))
  | inr none ↦ omega (arith, none)
]
  where
    there : 0 < length (entries_of values) → ⊥
    there some =
        let first = has_at (entries_of values) 0 some in
        let above = rising_above 0 (entries_of values) (get_or (entries_of values) 0 0) (entries_rising values) first in
        let at = contains_from_has values (get_or (entries_of values) 0 0) (entries_from values (get_or (entries_of values) 0 0) first) in
        let zero_ = zeros at.0 (get_or (entries_of values) 0 0) at.1 in
        omega (arith, above, zero_, at.2)

pub none_are_zeros : (values : List ℕ) → distinct_above_0 values ≡ 0 → All (λ v. v ≡ 0) values
none_are_zeros values none = All-from_get_or (λ v. v ≡ 0) values 0 (λ i lt. elim (cases_lt 0 (get_or values i 0)) [
  | inl some ↦ absurd (empty (entries_of values) (get_or values i 0) (sym (distinct_is values) ∙ none) (entries_have values (get_or values i 0) (has_at values i lt) some))
  | inr zero_ ↦ omega (arith, zero_)
])
  where
    empty : (es : List ℕ) (z : ℕ) → length es ≡ 0 → Has z es → ⊥
    empty [] z e h = h
    empty (x ∷ es) z e h = omega (arith, e)

pub no_table : (values : List ℕ) (r : Option ℕ) → r ≡ table_size values → IsNone r ↔ (All (λ v. v ≡ 0) values ⊎ (254 < distinct_above_0 values))
no_table values r e = (
  λ none. elim (cases_lt 254 (distinct_above_0 values)) [
    | inl many ↦ inr many
    | inr few ↦ elim (cases_lt 0 (distinct_above_0 values)) [
      | inl some ↦ absurd (some_none (length (table_bytes values)) (subst IsNone (e ∙ table_size_some values some few) none))
      | inr zero_ ↦ inl (none_are_zeros values (omega (arith, zero_)))
    ]
  ],
  λ reason. subst IsNone (sym (e ∙ table_size_none values (why reason))) none_is,
)
  where
    some_none : (n : ℕ) → IsNone (Some n) → ⊥
    some_none n h = true≢false h

    none_is : IsNone {T = ℕ} None
    none_is = refl

    why : All (λ v. v ≡ 0) values ⊎ (254 < distinct_above_0 values) → (distinct_above_0 values ≡ 0) ⊎ (254 < distinct_above_0 values)
    why (inl zeros) = inl (zeros_have_none values zeros)
    why (inr many) = inr many

-- ---- what is written

-- a first byte, and what was written behind it
pub cons_written : (x : ℕ) (out old new : List ℕ) (k : ℕ) → 0 < length old → out ≡ set old 0 x → length old ≤ 1 + k → put_mid 1 k out new ≡ x ∷ new
cons_written x out [] new k there e room = absurd (omega (arith, there))
cons_written x out (y ∷ ys) new k there e room = ap (λ (u : List ℕ). put_mid 1 k u new) e ∙ end_written (x ∷ []) ys new 1 k refl (omega (arith, room))

-- what `write_list` leaves
pub list_written : (values es is old out new : List ℕ) (w used : ℕ) → w ≡ width_of values → used ≡ head_size (length values) → es ≡ entries_of values → is ≡ map (index_in (entries_of values)) values
    → out ≡ list_head_bytes w true (length values) ++ drop (head_size (length values)) old
    → new ≡ (length es + 1) ∷ (stuffed_bytes w es ++ stuffed_bytes (binary_digits (length es)) is)
    → put_mid used (length out - used) out new ≡ table_bytes values
list_written values es is old out new w used chosen size entries indexes head e =
    let n = length values in
    let front = list_head_bytes w true n in
    let rest = drop (head_size n) old in
    let len : length front ≡ used = length-head_bytes w true n ∙ sym size in
    let tail : new ≡ tabled_bytes values =
    e ∙ (λ i. (length (entries i) + 1) ∷ (stuffed_bytes (chosen i) (entries i) ++ stuffed_bytes (binary_digits (length (entries i))) (indexes i)))
    ∙ ap (λ (k : ℕ). (k + 1) ∷ (stuffed_bytes (width_of values) (entries_of values) ++ stuffed_bytes (binary_digits k) (map (index_in (entries_of values)) values))) (sym (distinct_is values)) in
    ap (λ (xs : List ℕ). put_mid used (length xs - used) xs new) head
    ∙ end_written front rest new used (length (front ++ rest) - used) len (omega (arith, length-append front rest, len))
    ∙ (λ i. list_head_bytes (chosen i) true n ++ tail i) ∙ sym (table_is values)

greatest_has : (xs : List ℕ) → 0 < greatest_number xs → Has (greatest_number xs) xs
greatest_has [] some = absurd (omega (arith, some))
greatest_has (x ∷ xs) some = elim (cases_lt x (greatest_number xs)) [
  | inl less ↦ let e : max x (greatest_number xs) ≡ greatest_number xs = omega (arith, less) in inr (subst (λ (k : ℕ). Has k xs) (sym e) (greatest_has xs (omega (arith, less))))
  | inr more ↦ let e : max x (greatest_number xs) ≡ x = omega (arith, more) in inl e
]

-- some value is above 0: there is an entry
pub distinct_some : (values : List ℕ) → 0 < greatest_number values → 0 < distinct_above_0 values
distinct_some values some = omega (arith, distinct_is values, there (entries_of values) (greatest_number values) (entries_have values (greatest_number values) (greatest_has values some) some))
  where
    there : (es : List ℕ) (z : ℕ) → Has z es → 0 < length es
    there [] z h = absurd h
    there (x ∷ es) z h = omega arith

pub entries_contain : (values : List ℕ) (v : ℕ) → Contains (entries_of values) v ↔ ((0 < v) × Contains values v)
entries_contain values v = (
  λ c. let h = has_from_contains (entries_of values) v c.0 c.1 c.2 in (rising_above 0 (entries_of values) v (entries_rising values) h, contains_from_has values v (entries_from values v h)),
  λ p. contains_from_has (entries_of values) v (entries_have values v (has_from_contains values v p.1.0 p.1.1 p.1.2) p.0),
)
