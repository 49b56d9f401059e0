-- A header and some entries laid over a bundle.
use Rattle.std.proofs.Common.{◌≡◌, ◌⊎◌, inl, inr, refl, ℕ, ◌+◌, ◌<◌, ◌≤◌, List, [], ◌∷◌, ◌++◌, length, get_or, sym, ◌∙◌, ap, arith}
use Rattle.std.proofs.lemmas.Bool.{cases_lt}
use Rattle.std.proofs.lemmas.List.{places, same_lists}
use Rattle.outside_io.specs.volume.Disk.{laid}
use Rattle.outside_io.proofs.VolumeLemmas.Laid.{length-laid, laid_before, laid_in, laid_after}
use Rattle.bundle_index.specs.Entry.{entry_bytes, place_of}
use Rattle.bundle_index.proofs.Numbers.{length-entry_bytes}
use Rattle.bundle_store.specs.GroupPuts.{AreSlots, lay_entries, with_entries}
use Rattle.side_journal.specs.Groups.{NewEntry}

-- ---- one list over another

-- over a part, and what stands behind it
pub laid_append : (at : ℕ) (bytes b rest : List ℕ) → at + length bytes ≤ length b → laid at bytes (b ++ rest) ≡ laid at bytes b ++ rest
laid_append at bytes b rest within = same_lists _ _ (grind (arith, places)) (λ i d lt. grind (arith, places))

-- two that lie apart, in either order
pub laid_apart : (p q : ℕ) (xs ys b : List ℕ) → p + length xs ≤ q → q + length ys ≤ length b → laid p xs (laid q ys b) ≡ laid q ys (laid p xs b)
laid_apart p q xs ys b apart within =
    let one = length-laid p xs b (omega arith) in
    let two = length-laid q ys b (omega arith) in
    let left = length-laid p xs (laid q ys b) (omega (arith, two)) in
    let right = length-laid q ys (laid p xs b) (omega (arith, one)) in
    same_lists _ _ (omega (arith, one, two, left, right)) (λ i d lt. elim (cases_lt i p) [
      | inl low ↦ laid_before p xs (laid q ys b) i d (omega (arith, two)) low ∙ laid_before q ys b i d (omega arith) (omega arith)
          ∙ sym (laid_before q ys (laid p xs b) i d (omega (arith, one)) (omega arith) ∙ laid_before p xs b i d (omega arith) low)
      | inr above ↦ elim (cases_lt i (p + length xs)) [
        | inl inside ↦ laid_in p xs (laid q ys b) i d (omega (arith, two)) above inside
            ∙ sym (laid_before q ys (laid p xs b) i d (omega (arith, one)) (omega arith) ∙ laid_in p xs b i d (omega arith) above inside)
        | inr past ↦ laid_after p xs (laid q ys b) i d (omega (arith, two)) past ∙ elim (cases_lt i q) [
          | inl between ↦ laid_before q ys b i d (omega arith) between
              ∙ sym (laid_before q ys (laid p xs b) i d (omega (arith, one)) between ∙ laid_after p xs b i d (omega arith) past)
          | inr high ↦ elim (cases_lt i (q + length ys)) [
            | inl in_second ↦ laid_in q ys b i d (omega arith) high in_second
                ∙ sym (laid_in q ys (laid p xs b) i d (omega (arith, one)) high in_second)
            | inr behind ↦ laid_after q ys b i d (omega arith) behind
                ∙ sym (laid_after q ys (laid p xs b) i d (omega (arith, one)) behind ∙ laid_after p xs b i d (omega arith) past)
          ]
        ]
      ]
    ])

-- one that hides another
pub laid_again : (xs ys b : List ℕ) → length xs ≡ length ys → length xs ≤ length b → laid 0 xs (laid 0 ys b) ≡ laid 0 xs b
laid_again xs ys b same within =
    let one = length-laid 0 ys b (omega arith) in
    let left = length-laid 0 xs (laid 0 ys b) (omega arith) in
    let right = length-laid 0 xs b (omega arith) in
    same_lists _ _ (omega (arith, one, left, right, same)) (λ i d lt. elim (cases_lt i (length xs)) [
      | inl inside ↦ laid_in 0 xs (laid 0 ys b) i d (omega arith) (omega arith) (omega arith) ∙ sym (laid_in 0 xs b i d (omega arith) (omega arith) (omega arith))
      | inr behind ↦ laid_after 0 xs (laid 0 ys b) i d (omega arith) (omega arith) ∙ laid_after 0 ys b i d (omega arith) (omega (arith, same)) ∙ sym (laid_after 0 xs b i d (omega arith) (omega arith))
    ])

-- ---- entries

-- in none of the entries
abbrev pub Off : List NewEntry → ℕ → Type 0
Off [] i = Unit {0}
Off (e ∷ es) i = ((i < place_of e.0) ⊎ (place_of e.0 + 8 ≤ i)) × Off es i

-- behind the header, and in none of the entries
abbrev pub OutsideAll : List NewEntry → ℕ → Type 0
OutsideAll es i = (64 ≤ i) × Off es i

entry_long : (e : NewEntry) (b : List ℕ) → e.0 < 16384 → 131136 ≤ length b → length (laid (place_of e.0) (entry_bytes e.1) b) ≡ length b
entry_long e b below long = length-laid (place_of e.0) (entry_bytes e.1) b (omega arith) ∙ omega (arith, length-entry_bytes e.1)

pub length-lay_entries : (es : List NewEntry) (b : List ℕ) → AreSlots es → 131136 ≤ length b → length (lay_entries es b) ≡ length b
length-lay_entries [] b are long = refl
length-lay_entries (e ∷ es) b are long =
    let one = entry_long e b are.0 long in
    length-lay_entries es (laid (place_of e.0) (entry_bytes e.1) b) are.1 (omega (arith, one)) ∙ one

-- off them all is as it was
pub lay_off : (es : List NewEntry) (b : List ℕ) (i d : ℕ) → AreSlots es → 131136 ≤ length b → Off es i → get_or (lay_entries es b) i d ≡ get_or b i d
lay_off [] b i d are long off = refl
lay_off (e ∷ es) b i d are long off =
    let one = entry_long e b are.0 long in
    lay_off es (laid (place_of e.0) (entry_bytes e.1) b) i d are.1 (omega (arith, one)) off.1
    ∙ elim off.0 [
      | inl before ↦ laid_before (place_of e.0) (entry_bytes e.1) b i d (omega arith) before
      | inr behind ↦ laid_after (place_of e.0) (entry_bytes e.1) b i d (omega arith) (omega (arith, length-entry_bytes e.1))
    ]

-- what is the same off them all is the same under them
pub lay_same : (es : List NewEntry) (b c : List ℕ) → AreSlots es → 131136 ≤ length b → length c ≡ length b → ((i d : ℕ) → i < length b → Off es i → get_or c i d ≡ get_or b i d) → lay_entries es c ≡ lay_entries es b
lay_same [] b c are long size same = same_lists c b size (λ i d lt. same i d (omega (arith, lt, size)) tt)
lay_same (e ∷ es) b c are long size same =
    let place = place_of e.0 in
    let word = entry_bytes e.1 in
    let in_b = entry_long e b are.0 long in
    let in_c = entry_long e c are.0 (omega (arith, size)) in
    lay_same es (laid place word b) (laid place word c) are.1 (omega (arith, in_b)) (in_c ∙ size ∙ sym in_b) (λ i d lt off. elim (cases_lt i place) [
      | inl before ↦ laid_before place word c i d (omega (arith, size)) before ∙ same i d (omega (arith, lt, in_b)) (inl before, off) ∙ sym (laid_before place word b i d (omega arith) before)
      | inr above ↦ elim (cases_lt i (place + 8)) [
        | inl inside ↦ laid_in place word c i d (omega (arith, size)) above (omega (arith, length-entry_bytes e.1)) ∙ sym (laid_in place word b i d (omega arith) above (omega (arith, length-entry_bytes e.1)))
        | inr behind ↦ laid_after place word c i d (omega (arith, size)) (omega (arith, length-entry_bytes e.1)) ∙ same i d (omega (arith, lt, in_b)) (inr behind, off) ∙ sym (laid_after place word b i d (omega arith) (omega (arith, length-entry_bytes e.1)))
      ]
    ])

pub lay_append : (es : List NewEntry) (b rest : List ℕ) → AreSlots es → 131136 ≤ length b → lay_entries es (b ++ rest) ≡ lay_entries es b ++ rest
lay_append [] b rest are long = refl
lay_append (e ∷ es) b rest are long =
    let one = entry_long e b are.0 long in
    ap (lay_entries es) (laid_append (place_of e.0) (entry_bytes e.1) b rest (omega (arith, length-entry_bytes e.1)))
    ∙ lay_append es (laid (place_of e.0) (entry_bytes e.1) b) rest are.1 (omega (arith, one))

pub lay_join : (xs ys : List NewEntry) (b : List ℕ) → lay_entries (xs ++ ys) b ≡ lay_entries ys (lay_entries xs b)
lay_join [] ys b = refl
lay_join (x ∷ xs) ys b = lay_join xs ys (laid (place_of x.0) (entry_bytes x.1) b)

pub slots_join : (xs ys : List NewEntry) → AreSlots xs → AreSlots ys → AreSlots (xs ++ ys)
slots_join [] ys are more = more
slots_join (x ∷ xs) ys are more = (are.0, slots_join xs ys are.1 more)

-- a header over entries, and entries over a header
pub header_under : (header : List ℕ) (es : List NewEntry) (b : List ℕ) → length header ≡ 64 → AreSlots es → 131136 ≤ length b → laid 0 header (lay_entries es b) ≡ lay_entries es (laid 0 header b)
header_under header [] b size are long = refl
header_under header (e ∷ es) b size are long =
    let one = entry_long e b are.0 long in
    header_under header es (laid (place_of e.0) (entry_bytes e.1) b) size are.1 (omega (arith, one))
    ∙ ap (lay_entries es) (laid_apart 0 (place_of e.0) header (entry_bytes e.1) b (omega (arith, size)) (omega (arith, length-entry_bytes e.1)))

-- ---- a header and entries

module _ (header : List ℕ) (es : List NewEntry) (size : length header ≡ 64) (are : AreSlots es) where
  headed : (b : List ℕ) → 131136 ≤ length b → length (laid 0 header b) ≡ length b
  headed b long = length-laid 0 header b (omega arith) ∙ omega (arith, size)

  pub length-with_entries : (b : List ℕ) → 131136 ≤ length b → length (with_entries header es b) ≡ length b
  length-with_entries b long = length-lay_entries es (laid 0 header b) are (omega (arith, headed b long)) ∙ headed b long

  -- off the header and the entries all is as it was
  pub over_off : (b : List ℕ) (i d : ℕ) → 131136 ≤ length b → OutsideAll es i → get_or (with_entries header es b) i d ≡ get_or b i d
  over_off b i d long outside =
      lay_off es (laid 0 header b) i d are (omega (arith, headed b long)) outside.1 ∙ laid_after 0 header b i d (omega arith) (omega (arith, size, outside.0))

  -- what is the same outside of all is the same under all
  pub same_under_all : (old c : List ℕ) → 131136 ≤ length old → length c ≡ length old → ((i d : ℕ) → i < length old → OutsideAll es i → get_or c i d ≡ get_or old i d) → with_entries header es c ≡ with_entries header es old
  same_under_all old c long whole same =
      let in_old = headed old long in
      let in_c = headed c (omega (arith, whole)) in
      lay_same es (laid 0 header old) (laid 0 header c) are (omega (arith, in_old)) (in_c ∙ whole ∙ sym in_old) (λ i d lt off. elim (cases_lt i 64) [
        | inl front ↦ laid_in 0 header c i d (omega arith) (omega arith) (omega (arith, size)) ∙ sym (laid_in 0 header old i d (omega arith) (omega arith) (omega (arith, size)))
        | inr behind ↦ laid_after 0 header c i d (omega arith) (omega (arith, size)) ∙ same i d (omega (arith, lt, in_old)) (behind, off) ∙ sym (laid_after 0 header old i d (omega arith) (omega (arith, size)))
      ])

  -- a second time they change nothing
  pub all_twice : (old : List ℕ) → 131136 ≤ length old → with_entries header es (with_entries header es old) ≡ with_entries header es old
  all_twice old long = same_under_all old (with_entries header es old) long (length-with_entries old long) (λ i d lt outside. over_off old i d long outside)
