-- The different values of a list by those of its ranks.
use Rattle.std.proofs.Common.{◌≡◌, ℕ, zero, suc, ◌+◌, ◌-◌, ◌<◌, ◌≤◌, ◌⊎◌, Bool, true, false, cond, List, [], ◌∷◌, ◌++◌, length, get_or, take, drop, map, append_assoc, length-append, refl, sym, ap, ◌∙◌, subst, inl, inr, arith}
use Rattle.std.specs.Prelude.{nat_le}
use Rattle.std.specs.List.{filter, range_with_len}
use Rattle.std.proofs.lemmas.Bool.{cases_eq, cases_lt, true≢false}
use Rattle.std.proofs.lemmas.Bool.Decides.{leb_tells}
use Rattle.std.proofs.lemmas.List.{drop-drop, drop_at, get_or-map, length-map, map-append, take_all, take_at, take_more}
use borrow.Rule.Slice.PartMut.{put_mid}
use Rattle.bit_stuff.specs.Head.{head_size, list_head_bytes}
use Rattle.bit_stuff.specs.Simple.{binary_digits, width_of}
use Rattle.bit_stuff.specs.Stuffed.{stuffed_bytes, stuffed_size}
use Rattle.bit_stuff.proofs.HeadLaws.{length-head_bytes}
use Rattle.bit_stuff.proofs.StuffedLaws.{length-stuffed_bytes}
use Rattle.lut_stuff.specs.Facts.{Rises}
use Rattle.lut_stuff.specs.Ranked.{AreRanks, RanksTell, above_first, known_bytes}
use Rattle.lut_stuff.specs.Tables.{distinct_above_0, entries_of, index_in, occurs, table_bytes}
use Rattle.lut_stuff.proofs.Tabled.{length-table_bytes}
use Rattle.lut_stuff.proofs.Rising.{Has, Rising, entries_from, entries_have, entries_rising, has_filter, has_filtered, has_occurs, has_range, occurs_has, range_rising, rising_above, rising_filter, rising_same, has_at}
use Rattle.lut_stuff.proofs.Marked.{distinct_known, distinct_new}

-- ---- rising together

-- below n the numbers that a function gives rise, from 0 on
pub record Lifts (f : ℕ → ℕ) (n : ℕ) : Type 0 where
  pub first : f 0 ≡ 0
  pub up : (i j : ℕ) → i < j → j < n → f i < f j

pub has_map : (f : ℕ → ℕ) (xs : List ℕ) (z : ℕ) → Has z (map f xs) → (x : ℕ) × (Has x xs × (z ≡ f x))
has_map f [] z h = absurd h
has_map f (x ∷ xs) z (inl e) = (x, (inl refl, e))
has_map f (x ∷ xs) z (inr h) = let w = has_map f xs z h in (w.0, (inr w.1.0, w.1.1))

pub map_has : (f : ℕ → ℕ) (xs : List ℕ) (x : ℕ) → Has x xs → Has (f x) (map f xs)
map_has f [] x h = absurd h
map_has f (y ∷ xs) x (inl e) = inl (ap f e)
map_has f (y ∷ xs) x (inr h) = inr (map_has f xs x h)

rising_map : (f : ℕ → ℕ) (n b : ℕ) (xs : List ℕ) → Lifts f n → Rising b xs → ((z : ℕ) → Has z xs → z < n) → Rising (f b) (map f xs)
rising_map f n b [] l r below = tt
rising_map f n b (x ∷ xs) l r below = (l.up b x r.0 (below x (inl refl)), rising_map f n x xs l r.1 (λ z h. below z (inr h)))

some_of : (f : ℕ → ℕ) (n x : ℕ) → Lifts f n → 0 < f x → 0 < x
some_of f n x l above = by (cases_lt 0 x)
  where
    by : (0 < x) ⊎ (x ≤ 0) → 0 < x
    by (inl some) = some
    by (inr none) = absurd (let e : f x ≡ 0 = ap f (let z : x ≡ 0 = omega (arith, none) in z) ∙ l.first in let no : ⊥ = omega (arith, above, e) in no)

-- ---- the different values and their places

pub entries_map : (f : ℕ → ℕ) (n : ℕ) (ds : List ℕ) → Lifts f n → ((z : ℕ) → Has z ds → z < n) → entries_of (map f ds) ≡ map f (entries_of ds)
entries_map f n ds l below =
    let inner : (z : ℕ) → Has z (entries_of ds) → z < n = λ z h. below z (entries_from ds z h) in
    let rises : Rising 0 (map f (entries_of ds)) = subst (λ (b : ℕ). Rising b (map f (entries_of ds))) l.first (rising_map f n 0 (entries_of ds) l (entries_rising ds) inner) in
    rising_same 0 0 (entries_of (map f ds)) (map f (entries_of ds)) (entries_rising (map f ds)) rises
    (λ z h.
    let w = has_map f ds z (entries_from (map f ds) z h) in
    let above = rising_above 0 (entries_of (map f ds)) z (entries_rising (map f ds)) h in
    let some = some_of f n w.0 l (subst (λ (u : ℕ). 0 < u) w.1.1 above) in
    subst (λ (u : ℕ). Has u (map f (entries_of ds))) (sym w.1.1) (map_has f (entries_of ds) w.0 (entries_have ds w.0 w.1.0 some)))
    (λ z h.
    let w = has_map f (entries_of ds) z h in
    let some = rising_above 0 (entries_of ds) w.0 (entries_rising ds) w.1.0 in
    let more = l.up 0 w.0 some (inner w.0 w.1.0) in
    let first = l.first in
    subst (λ (u : ℕ). Has u (entries_of (map f ds))) (sym w.1.1) (entries_have (map f ds) (f w.0) (map_has f ds w.0 (entries_from ds w.0 w.1.0)) (omega (arith, more, first))))

le_same : (f : ℕ → ℕ) (n e d : ℕ) → Lifts f n → e < n → d < n → nat_le (f e) (f d) ≡ nat_le e d
le_same f n e d l below_e below_d = elim (leb_tells e d) [
  | inl low ↦ elim (leb_tells (f e) (f d)) [
    | inl same ↦ same.0 ∙ sym low.0
    | inr other ↦ absurd (elim (cases_eq e d) [
      | inl is ↦ (let t : f e ≡ f d = ap f is in let more = other.1 in let no : ⊥ = omega (arith, t, more) in no)
      | inr ne ↦ (let up = l.up e d (let less = low.1 in omega (arith, less, ne)) below_d in let more = other.1 in let no : ⊥ = omega (arith, up, more) in no)
    ])
  ]
  | inr high ↦ elim (leb_tells (f e) (f d)) [
    | inl same ↦ absurd (let up = l.up d e (let more = high.1 in omega (arith, more)) below_e in let less = same.1 in let no : ⊥ = omega (arith, up, less) in no)
    | inr other ↦ other.0 ∙ sym high.0
  ]
]

pub index_map : (f : ℕ → ℕ) (n : ℕ) (es : List ℕ) (d : ℕ) → Lifts f n → ((z : ℕ) → Has z es → z < n) → d < n → index_in (map f es) (f d) ≡ index_in es d
index_map f n [] d l below here = refl
index_map f n (e ∷ es) d l below here =
    ap (λ b. length (cond b (f e ∷ filter (λ x. nat_le x (f d)) (map f es)) (filter (λ x. nat_le x (f d)) (map f es)))) (le_same f n e d l (below e (inl refl)) here)
    ∙ by (nat_le e d) (index_map f n es d l (λ z h. below z (inr h)) here)
  where
    by : (b : Bool) → length (filter (λ x. nat_le x (f d)) (map f es)) ≡ length (filter (λ x. nat_le x d) es)
        → length (cond b (f e ∷ filter (λ x. nat_le x (f d)) (map f es)) (filter (λ x. nat_le x (f d)) (map f es))) ≡ length (cond b (e ∷ filter (λ x. nat_le x d) es) (filter (λ x. nat_le x d) es))
    by true rest = ap suc rest
    by false rest = rest

indexes_map : (f : ℕ → ℕ) (n : ℕ) (es ds : List ℕ) → Lifts f n → ((z : ℕ) → Has z es → z < n) → ((z : ℕ) → Has z ds → z < n) → map (index_in (map f es)) (map f ds) ≡ map (index_in es) ds
indexes_map f n es [] l below here = refl
indexes_map f n es (d ∷ ds) l below here = (λ t. index_map f n es d l below (here d (inl refl)) t ∷ indexes_map f n es ds l below (λ z h. here z (inr h)) t)

pub indexes_ranked : (f : ℕ → ℕ) (n : ℕ) (ds : List ℕ) → Lifts f n → ((z : ℕ) → Has z ds → z < n) → map (index_in (entries_of (map f ds))) (map f ds) ≡ map (index_in (entries_of ds)) ds
indexes_ranked f n ds l below =
    ap (λ (es : List ℕ). map (index_in es) (map f ds)) (entries_map f n ds l below)
    ∙ indexes_map f n (entries_of ds) ds l (λ z h. below z (entries_from ds z h)) below

pub distinct_ranked : (f : ℕ → ℕ) (n : ℕ) (ds : List ℕ) → Lifts f n → ((z : ℕ) → Has z ds → z < n) → distinct_above_0 (map f ds) ≡ distinct_above_0 ds
unfolding distinct_above_0
distinct_ranked f n ds l below = ap length (entries_map f n ds l below) ∙ length-map (entries_of ds) f

-- ---- a table's values lift its ranks

pub table_lifts : (table : List ℕ) → 0 < length table → Rises table → Lifts (above_first table) (length table)
table_lifts table some rises = record {
  first = (let e : get_or table 0 0 - get_or table 0 0 ≡ 0 = omega arith in e);
  up = λ i j less below. let more = rises i j less below in let low = first_least table i rises (omega (arith, less, below)) in omega (arith, more, low);
}
  where
    first_least : (table : List ℕ) (i : ℕ) → Rises table → i < length table → get_or table 0 0 ≤ get_or table i 0
    first_least table i rises below = by (cases_lt 0 i)
      where
        by : (0 < i) ⊎ (i ≤ 0) → get_or table 0 0 ≤ get_or table i 0
        by (inl some) = (let more = rises 0 i some below in omega (arith, more))
        by (inr none) = (let same : get_or table 0 0 ≡ get_or table i 0 = ap (λ k. get_or table k 0) (let z : 0 ≡ i = omega (arith, none) in z) in omega (arith, same))

-- ---- equal values have equal ranks, and ranks rise with values

pub ranks_rise : (table values ranks : List ℕ) → AreRanks table values ranks → RanksTell values ranks
ranks_rise table values ranks are = record {
  count = count;
  equal = λ i j low high. (λ e. same i j low high e, λ e. value i low ∙ ap (λ r. get_or table r 0) e ∙ sym (value j high));
  less = λ i j low high. (λ lt. less_back i j low high lt, λ lt. less_on i j low high lt);
}
  where
    count : length ranks ≡ length values
    count = sym (length-map ranks (λ r. get_or table r 0)) ∙ ap length are.named

    value : (i : ℕ) → i < length values → get_or values i 0 ≡ get_or table (get_or ranks i 0) 0
    value i low = ap (λ (vs : List ℕ). get_or vs i 0) (sym are.named) ∙ get_or-map (λ r. get_or table r 0) ranks i 0 0 (omega (arith, low, count))

    rank : (i : ℕ) → i < length values → get_or ranks i 0 < length table
    rank i low = are.within i 0 (omega (arith, low, count))

    less_on : (i j : ℕ) → i < length values → j < length values → get_or ranks i 0 < get_or ranks j 0 → get_or values i 0 < get_or values j 0
    less_on i j low high lt = let up = are.rises (get_or ranks i 0) (get_or ranks j 0) lt (rank j high) in omega (arith, up, value i low, value j high)

    less_back : (i j : ℕ) → i < length values → j < length values → get_or values i 0 < get_or values j 0 → get_or ranks i 0 < get_or ranks j 0
    less_back i j low high lt = elim (cases_lt (get_or ranks i 0) (get_or ranks j 0)) [
      | inl is ↦ is
      | inr not ↦ absurd (elim (cases_eq (get_or ranks i 0) (get_or ranks j 0)) [
        | inl e ↦ (let t : get_or values i 0 ≡ get_or values j 0 = value i low ∙ ap (λ r. get_or table r 0) e ∙ sym (value j high) in let no : ⊥ = omega (arith, t, lt) in no)
        | inr ne ↦ (let back = less_on j i high low (omega (arith, not, ne)) in let no : ⊥ = omega (arith, back, lt) in no)
      ])
    ]

    same : (i j : ℕ) → i < length values → j < length values → get_or values i 0 ≡ get_or values j 0 → get_or ranks i 0 ≡ get_or ranks j 0
    same i j low high e = elim (cases_eq (get_or ranks i 0) (get_or ranks j 0)) [
      | inl is ↦ is
      | inr ne ↦ absurd (elim (cases_lt (get_or ranks i 0) (get_or ranks j 0)) [
        | inl lt ↦ (let up = less_on i j low high lt in let no : ⊥ = omega (arith, up, e) in no)
        | inr ge ↦ (let up = less_on j i high low (omega (arith, ge, ne)) in let no : ⊥ = omega (arith, up, e) in no)
      ])
    ]

-- ---- lists whose entries and indexes are known

pub known_table : (values es is : List ℕ) (w : ℕ) → w ≡ width_of values → es ≡ entries_of values → is ≡ map (index_in (entries_of values)) values → known_bytes w es is ≡ table_bytes values
unfolding known_bytes table_bytes distinct_above_0
known_table values es is w chosen entries indexes =
    (λ t. known_bytes (chosen t) (entries t) (indexes t))
    ∙ ap (λ n. list_head_bytes (width_of values) true n ++ (length (entries_of values) + 1) ∷ (stuffed_bytes (width_of values) (entries_of values) ++ stuffed_bytes (binary_digits (length (entries_of values))) (map (index_in (entries_of values)) values))) (length-map values (index_in (entries_of values)))

pub length-known : (w : ℕ) (es is : List ℕ) → length (known_bytes w es is) ≡ head_size (length is) + (1 + stuffed_size (length es) w + stuffed_size (length is) (binary_digits (length es)))
unfolding known_bytes
length-known w es is =
    let a = length-stuffed_bytes w es in
    let b = length-stuffed_bytes (binary_digits (length es)) is in
    length-append (list_head_bytes w true (length is)) ((length es + 1) ∷ (stuffed_bytes w es ++ stuffed_bytes (binary_digits (length es)) is))
    ∙ omega (arith, length-head_bytes w true (length is), a, b, length-append (stuffed_bytes w es) (stuffed_bytes (binary_digits (length es)) is))

pub known_size : (values : List ℕ) (n w d : ℕ) → length values ≡ n → width_of values ≡ w → distinct_above_0 values ≡ d → length (table_bytes values) ≡ head_size n + (1 + stuffed_size d w + stuffed_size n (binary_digits d))
known_size values n w d count width different = length-table_bytes values ∙ (λ t. head_size (count t) + (1 + stuffed_size (different t) (width t) + stuffed_size (count t) (binary_digits (different t))))

-- the head, and what stands behind it
pub known_written : (es is old out new : List ℕ) (w used rest : ℕ) → used ≡ head_size (length is) → rest ≡ stuffed_size (length es) w + stuffed_size (length is) (binary_digits (length es))
    → out ≡ list_head_bytes w true (length is) ++ drop (head_size (length is)) old
    → new ≡ (length es + 1) ∷ (stuffed_bytes w es ++ stuffed_bytes (binary_digits (length es)) is)
    → put_mid used (used + 1 + rest - used) out new ≡ known_bytes w es is ++ drop (used + 1 + rest) old
unfolding known_bytes
known_written es is old out new w used more size long_is head e =
    let front = list_head_bytes w true (length is) in
    let len : length front ≡ used = length-head_bytes w true (length is) ∙ sym size in
    let a = length-stuffed_bytes w es in
    let b = length-stuffed_bytes (binary_digits (length es)) is in
    let joined = length-append (stuffed_bytes w es) (stuffed_bytes (binary_digits (length es)) is) in
    let long : length new ≡ 1 + more = ap length e ∙ omega (arith, long_is, a, b, joined) in
    let first : take used out ≡ front = ap (take used) head ∙ take_at front (drop (head_size (length is)) old) used len in
    let behind : drop (used + 1 + more - used) (drop used out) ≡ drop (used + 1 + more) old =
    drop-drop (used + 1 + more - used) used out ∙ ap (λ k. drop k out) (let k : used + (used + 1 + more - used) ≡ used + (1 + more) = omega arith in k)
    ∙ ap (drop (used + (1 + more))) head ∙ sym (drop-drop (1 + more) used (front ++ drop (head_size (length is)) old))
    ∙ ap (drop (1 + more)) (drop_at front (drop (head_size (length is)) old) used len) ∙ drop-drop (1 + more) (head_size (length is)) old
    ∙ ap (λ k. drop k old) (let k : head_size (length is) + (1 + more) ≡ used + 1 + more = omega (arith, size) in k) in
    (λ t. first t ++ (e t ++ behind t)) ∙ sym (append_assoc front ((length es + 1) ∷ (stuffed_bytes w es ++ stuffed_bytes (binary_digits (length es)) is)) (drop (used + 1 + more) old))

-- ---- ranks as a set

-- the members of a set above one of them, by how far they are above it
abbrev pub members_above : (ℕ → Bool) → ℕ → ℕ → List ℕ
members_above p least n = filter p (range_with_len (least + 1) (n - (least + 1)))

pub in_range : (a n z : ℕ) → Has z (range_with_len a n) → (a ≤ z) × (z < a + n)
in_range a zero z h = absurd h
in_range a (suc n) z (inl e) = (omega (arith, e), omega (arith, e))
in_range a (suc n) z (inr h) = let w = in_range (a + 1) n z h in (omega (arith, w.0), omega (arith, w.1))

pub members_are : (p : ℕ → Bool) (least n : ℕ) (ranks : List ℕ) → ((r : ℕ) → r < n → p r ≡ occurs ranks r) → ((r : ℕ) → Has r ranks → (least ≤ r) × (r < n))
    → members_above p least n ≡ map (λ e. least + e) (entries_of (map (λ r. r - least) ranks))
members_are p least n ranks set within =
    let ds = map (λ r. r - least) ranks in
    rising_same least least (members_above p least n) (map (λ e. least + e) (entries_of ds))
    (rising_filter p least (range_with_len (least + 1) (n - (least + 1))) (range_rising least (n - (least + 1))))
    (subst (λ (b : ℕ). Rising b (map (λ e. least + e) (entries_of ds))) (let z : least + 0 ≡ least = omega arith in z) (shifted (entries_of ds) 0 (entries_rising ds)))
    (λ z h.
    let w = has_filtered p (range_with_len (least + 1) (n - (least + 1))) z h in
    let r = in_range (least + 1) (n - (least + 1)) z w.0 in
    let below : z < n = (let low = r.0 in let high = r.1 in omega (arith, low, high)) in
    let there = occurs_has ranks z (sym (set z below) ∙ w.1) in
    let more : 0 < z - least = (let low = r.0 in omega (arith, low)) in
    let back : least + (z - least) ≡ z = (let low = r.0 in omega (arith, low)) in
    subst (λ (u : ℕ). Has u (map (λ e. least + e) (entries_of ds))) back (map_has (λ e. least + e) (entries_of ds) (z - least) (entries_have ds (z - least) (map_has (λ r. r - least) ranks z there) more)))
    (λ z h.
    let w = has_map (λ e. least + e) (entries_of ds) z h in
    let some = rising_above 0 (entries_of ds) w.0 (entries_rising ds) w.1.0 in
    let v = has_map (λ r. r - least) ranks w.0 (entries_from ds w.0 w.1.0) in
    let far = within v.0 v.1.0 in
    let is : z ≡ v.0 = (let a = w.1.1 in let b = v.1.1 in let low = far.0 in omega (arith, a, b, low)) in
    let above : least + 1 ≤ v.0 = (let b = v.1.1 in omega (arith, some, b)) in
    let below : v.0 < n = far.1 in
    subst (λ (u : ℕ). Has u (members_above p least n)) (sym is)
    (has_filter p (range_with_len (least + 1) (n - (least + 1))) v.0 (has_range (least + 1) (n - (least + 1)) v.0 above (omega (arith, above, below))) (set v.0 below ∙ has_occurs ranks v.0 v.1.0)))
  where
    shifted : (xs : List ℕ) (b : ℕ) → Rising b xs → Rising (least + b) (map (λ e. least + e) xs)
    shifted [] b r = tt
    shifted (x ∷ xs) b r = (let more = r.0 in omega (arith, more), shifted xs x r.1)

-- so many members are above it as different ranks are
pub members_count : (p : ℕ → Bool) (least n : ℕ) (ranks : List ℕ) → ((r : ℕ) → r < n → p r ≡ occurs ranks r) → ((r : ℕ) → Has r ranks → (least ≤ r) × (r < n))
    → length (members_above p least n) ≡ distinct_above_0 (map (λ r. r - least) ranks)
unfolding distinct_above_0
members_count p least n ranks set within =
    ap length (members_are p least n ranks set within) ∙ length-map (entries_of (map (λ r. r - least) ranks)) (λ e. least + e)

-- ---- numbers that stand for values, in any order

shift_rises : (m : ℕ) (xs : List ℕ) (b : ℕ) → Rising b xs → Rising (m + b) (map (λ e. m + e) xs)
shift_rises m [] b r = tt
shift_rises m (x ∷ xs) b r = (let more = r.0 in omega (arith, more), shift_rises m xs x r.1)

-- the different values are those above the least, and the least
pub distinct_shift : (m : ℕ) (xs : List ℕ) → Has m xs → ((x : ℕ) → Has x xs → m ≤ x) → distinct_above_0 (map (λ x. x - m) xs) + 1 ≡ distinct_above_0 (map suc xs)
unfolding distinct_above_0
distinct_shift m xs there least =
    let ds = map (λ x. x - m) xs in
    let es = entries_of ds in
    let same : entries_of (map suc xs) ≡ suc m ∷ map (λ e. suc m + e) es =
    rising_same 0 0 (entries_of (map suc xs)) (suc m ∷ map (λ e. suc m + e) es) (entries_rising (map suc xs))
    (omega arith, subst (λ (b : ℕ). Rising b (map (λ e. suc m + e) es)) (let z : suc m + 0 ≡ suc m = omega arith in z) (shift_rises (suc m) es 0 (entries_rising ds)))
    (λ z h.
    let w = has_map suc xs z (entries_from (map suc xs) z h) in
    let low = least w.0 w.1.0 in
    elim (cases_eq w.0 m) [
      | inl is ↦ inl (w.1.1 ∙ ap suc is)
      | inr ne ↦ (let e : suc m + (w.0 - m) ≡ z = (let a = w.1.1 in omega (arith, a, low)) in
          inr (subst (λ (u : ℕ). Has u (map (λ e. suc m + e) es)) e (map_has (λ e. suc m + e) es (w.0 - m) (entries_have ds (w.0 - m) (map_has (λ x. x - m) xs w.0 w.1.0) (omega (arith, low, ne))))))
    ])
    (λ z h. back z h)
    in
    let count = length-map es (λ e. suc m + e) in
    let all = ap length same in
    omega (arith, count, all)
  where
    back : (z : ℕ) → Has z (suc m ∷ map (λ e. suc m + e) (entries_of (map (λ x. x - m) xs))) → Has z (entries_of (map suc xs))
    back z (inl e) = subst (λ (u : ℕ). Has u (entries_of (map suc xs))) (sym e) (entries_have (map suc xs) (suc m) (map_has suc xs m there) (omega arith))
    back z (inr h) =
        let w = has_map (λ e. suc m + e) (entries_of (map (λ x. x - m) xs)) z h in
        let v = has_map (λ x. x - m) xs w.0 (entries_from (map (λ x. x - m) xs) w.0 w.1.0) in
        let low = least v.0 v.1.0 in
        let is : suc v.0 ≡ z = (let a = w.1.1 in let b = v.1.1 in omega (arith, a, b, low)) in
        subst (λ (u : ℕ). Has u (entries_of (map suc xs))) is (entries_have (map suc xs) (suc v.0) (map_has suc xs v.0 v.1.0) (omega arith))

-- numbers above 0 that are equal where others are have as many different ones
pub record Alike (f g : ℕ → ℕ) (xs : List ℕ) : Type 0 where
  pub some : (x : ℕ) → Has x xs → (0 < f x) × (0 < g x)
  pub on : (x y : ℕ) → Has x xs → Has y xs → f x ≡ f y → g x ≡ g y
  pub back : (x y : ℕ) → Has x xs → Has y xs → g x ≡ g y → f x ≡ f y

has_front : (n : ℕ) (xs : List ℕ) (x : ℕ) → Has x (take n xs) → Has x xs
has_front zero xs x h = absurd h
has_front (suc n) [] x h = absurd h
has_front (suc n) (y ∷ xs) x (inl e) = inl e
has_front (suc n) (y ∷ xs) x (inr h) = inr (has_front n xs x h)

occurs_alike : (f g : ℕ → ℕ) (xs ys : List ℕ) (x : ℕ) → Alike f g xs → Has x xs → ((y : ℕ) → Has y ys → Has y xs) → occurs (map f ys) (f x) ≡ true → occurs (map g ys) (g x) ≡ true
occurs_alike f g xs ys x a h within e =
    let w = has_map f ys (f x) (occurs_has (map f ys) (f x) e) in
    let same = a.on x w.0 h (within w.0 w.1.0) w.1.1 in
    has_occurs (map g ys) (g x) (subst (λ (u : ℕ). Has u (map g ys)) (sym same) (map_has g ys w.0 w.1.0))

turned : (f g : ℕ → ℕ) (xs : List ℕ) → Alike f g xs → Alike g f xs
turned f g xs a = record { some = λ x h. ((a.some x h).1, (a.some x h).0); on = a.back; back = a.on }

alike_more : (f g : ℕ → ℕ) (xs ys : List ℕ) (x : ℕ) → Alike f g xs → Has x xs → ((y : ℕ) → Has y ys → Has y xs) → distinct_above_0 (map f ys) ≡ distinct_above_0 (map g ys) → distinct_above_0 (map f ys ++ f x ∷ []) ≡ distinct_above_0 (map g ys ++ g x ∷ [])
alike_more f g xs ys x a h within so_far = by (occurs (map f ys) (f x)) (occurs (map g ys) (g x)) refl refl
  where
    by : (b c : Bool) → occurs (map f ys) (f x) ≡ b → occurs (map g ys) (g x) ≡ c → distinct_above_0 (map f ys ++ f x ∷ []) ≡ distinct_above_0 (map g ys ++ g x ∷ [])
    by true true p q = distinct_known (map f ys) (f x) (λ _. p) ∙ so_far ∙ sym (distinct_known (map g ys) (g x) (λ _. q))
    by false false p q = distinct_new (map f ys) (f x) (a.some x h).0 p ∙ ap (λ n. n + 1) so_far ∙ sym (distinct_new (map g ys) (g x) (a.some x h).1 q)
    by true false p q = absurd (true≢false (sym (occurs_alike f g xs ys x a h within p) ∙ q))
    by false true p q = absurd (true≢false (sym (occurs_alike g f xs ys x (turned f g xs a) h within q) ∙ p))

alike_to : (f g : ℕ → ℕ) (xs : List ℕ) → Alike f g xs → (n : ℕ) → n ≤ length xs → distinct_above_0 (map f (take n xs)) ≡ distinct_above_0 (map g (take n xs))
alike_to f g xs a zero low = refl
alike_to f g xs a (suc n) low =
    let x = get_or xs n 0 in
    let ys = take n xs in
    let more : take (suc n) xs ≡ ys ++ x ∷ [] = ap (λ k. take k xs) (let e : suc n ≡ n + 1 = omega arith in e) ∙ take_more xs n 0 (omega (arith, low)) in
    let before = alike_to f g xs a n (omega (arith, low)) in
    ap (λ us. distinct_above_0 (map f us)) more ∙ ap distinct_above_0 (map-append f ys (x ∷ []))
    ∙ alike_more f g xs ys x a (has_at xs n (omega (arith, low))) (λ y. has_front n xs y) before
    ∙ sym (ap (λ us. distinct_above_0 (map g us)) more ∙ ap distinct_above_0 (map-append g ys (x ∷ [])))

pub distinct_alike : (f g : ℕ → ℕ) (xs : List ℕ) → Alike f g xs → distinct_above_0 (map f xs) ≡ distinct_above_0 (map g xs)
distinct_alike f g xs a =
    sym (ap (λ us. distinct_above_0 (map f us)) (take_all (length xs) xs (omega arith))) ∙ alike_to f g xs a (length xs) (omega arith)
    ∙ ap (λ us. distinct_above_0 (map g us)) (take_all (length xs) xs (omega arith))
