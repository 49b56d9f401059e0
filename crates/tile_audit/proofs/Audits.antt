-- A bundle has one audit, and a clean one says that its tiles are whole.
use Rattle.std.proofs.Common.{◌≡◌, ◌≢◌, ◌⊎◌, inl, inr, ℕ, zero, suc, ◌+◌, ◌-◌, ◌<◌, ◌≤◌, ◌==◌, nat_lt, if◌then◌else◌, Bool, true, false, List, [], ◌∷◌, All, Some, None, length, take, drop, refl, sym, ap, subst, ◌∙◌, arith}
use Rattle.std.specs.Prelude.{IfSome, cond, filter}
use Rattle.std.specs.List.{AllZip, range_with_len}
use Rattle.std.proofs.lemmas.Bool.{cases_eq, cases_lt}
use Rattle.std.proofs.lemmas.Bool.Decides.{nat_tests}
use Rattle.std.proofs.lemmas.List.Sums.{sum_by-cons}
use Rattle.first_fault.specs.Parts.{AreBytes}
use Rattle.lerc_header.specs.Checksum.{sum_of}
use Rattle.lerc_grammar.proofs.Bytes.{bytes_in_drop, bytes_in_take}
use Rattle.bundle_index.specs.Entry.{entry_at}
use Rattle.bundle_index.specs.Numbers.{u32_at}
use Rattle.bundle_index.specs.Sizes.{index_end, slot_count}
use Rattle.bundle_index.specs.declared.entry.Entry.{Entry}
use Rattle.bundle_store.specs.Check.{is_bad}
use Rattle.bundle_store.specs.Session.{GetGives}
use Rattle.bundle_store.specs.Tiles.{HasIndex, tile_in, tiles}
use Rattle.tile_audit.specs.declared.judged.Judged.TheVariants.{Whole, Summed, Foreign, Unread, Damaged}
use Rattle.tile_audit.specs.declared.told.AuditedTile.{AuditedTile}
use Rattle.tile_audit.specs.declared.told.Finding.{Finding}
use Rattle.tile_audit.specs.declared.told.Finding.TheVariants.{Failed, Beyond, Read}
use Rattle.tile_audit.specs.Audit.{IsAudit, IsAudited, IsFinding, count_of, is_damaged, is_failed}
use Rattle.tile_audit.specs.Laws.{IsClean, IsWholeTile}
use Rattle.tile_audit.specs.Verdicts.{IsJudged}
use Rattle.tile_audit.proofs.OneVerdict.{one_judged}
use Rattle.tile_audit.proofs.SomeVerdict.{some_judged}

-- ---- one audit at most

finding_once : (bundle : List ℕ) (slot : ℕ) (f g : Finding) → IsFinding bundle slot f → IsFinding bundle slot g → is_failed f ≡ false → is_failed g ≡ false → f ≡ g
finding_once bundle slot Failed g x y one two = absurd (let bad : true ≡ false = one in cc)
finding_once bundle slot (Beyond m) Failed x y one two = absurd (let bad : true ≡ false = two in cc)
finding_once bundle slot (Beyond m) (Beyond n) x y one two = ap Beyond (x.0 ∙ sym y.0)
finding_once bundle slot (Beyond m) (Read j sum bad) x (tile, (gives, rest)) one two = absurd (omega (arith, x.0, x.1, gives.within))
finding_once bundle slot (Read j sum bad) Failed x y one two = absurd (let bad : true ≡ false = two in cc)
finding_once bundle slot (Read j sum bad) (Beyond n) (tile, (gives, rest)) y one two = absurd (omega (arith, y.0, y.1, gives.within))
finding_once bundle slot (Read j m a) (Read k n b) (t, (g, (is, (s, c)))) (u, (h, (so, (r, d)))) one two =
    let same : t ≡ u = g.bytes ∙ sym h.bytes in
    let judged : j ≡ k = one_judged t j k is (subst (λ l. IsJudged l k) (sym same) so) in
    let sum : m ≡ n = s ∙ ap (λ l. sum_of (drop 14 l)) same ∙ sym r in λ i. Read (judged i) (sum i) ((c ∙ sym d) i)

tile_once : (bundle : List ℕ) (slot : ℕ) (t u : AuditedTile) → IsAudited bundle slot t → IsAudited bundle slot u → is_failed t.finding ≡ false → is_failed u.finding ≡ false → t ≡ u
tile_once bundle slot t u x y one two =
    let found = finding_once bundle slot t.finding u.finding x.finding y.finding one two in
    λ i. record { slot = (x.slot_is ∙ sym y.slot_is) i; entry = (x.entry_is ∙ sym y.entry_is) i; finding = found i }

none_first : (b : Bool) (n m : ℕ) → n ≡ cond b 1 0 + m → n ≡ 0 → (b ≡ false) × (m ≡ 0)
none_first true n m is none = absurd (omega (arith, is, none))
none_first false n m is none = (refl, omega (arith, is, none))

none_failed : (t : AuditedTile) (ts : List AuditedTile) → count_of is_failed (t ∷ ts) ≡ 0 → (is_failed t.finding ≡ false) × (count_of is_failed ts ≡ 0)
none_failed t ts none = none_first (is_failed t.finding) (count_of is_failed (t ∷ ts)) (count_of is_failed ts) (sum_by-cons (λ (u : AuditedTile). cond (is_failed u.finding) 1 0) t ts) none

pub audits_same : (bundle : List ℕ) (slots : List ℕ) (some others : List AuditedTile) → AllZip (IsAudited bundle) slots some → AllZip (IsAudited bundle) slots others → count_of is_failed some ≡ 0 → count_of is_failed others ≡ 0 → some ≡ others
audits_same bundle [] [] [] x y one two = refl
audits_same bundle [] [] (u ∷ us) x y one two = absurd y
audits_same bundle [] (t ∷ ts) others x y one two = absurd x
audits_same bundle (slot ∷ slots) [] others x y one two = absurd x
audits_same bundle (slot ∷ slots) (t ∷ ts) [] x y one two = absurd y
audits_same bundle (slot ∷ slots) (t ∷ ts) (u ∷ us) x y one two =
    let a = none_failed t ts one in
    let b = none_failed u us two in
    let first = tile_once bundle slot t u x.0 y.0 a.0 b.0 in
    let rest = audits_same bundle slots ts us x.1 y.1 a.1 b.1 in λ i. first i ∷ rest i

-- ---- an audit

abbrev pub has_tile : List ℕ → ℕ → Bool
has_tile bundle slot = nat_lt 0 (entry_at bundle slot).size

read_so : (bundle : List ℕ) (slot : ℕ) → AreBytes bundle → 0 < (entry_at bundle slot).size → (f : Finding) × (IsFinding bundle slot f × (is_failed f ≡ false))
read_so bundle slot are some = by (cases_lt (length bundle) ((entry_at bundle slot).offset + (entry_at bundle slot).size))
  where
    by : (length bundle < (entry_at bundle slot).offset + (entry_at bundle slot).size) ⊎ ((entry_at bundle slot).offset + (entry_at bundle slot).size ≤ length bundle) → (f : Finding) × (IsFinding bundle slot f × (is_failed f ≡ false))
    by (inl short) = (Beyond (length bundle - (entry_at bundle slot).offset), ((refl, omega (arith, short, some)), refl))
    by (inr within) =
        let e = entry_at bundle slot in
        let tile = take e.size (drop e.offset bundle) in
        let (v, is) = some_judged tile (bytes_in_take e.size (drop e.offset bundle) (bytes_in_drop e.offset bundle are)) in
        (Read v (sum_of (drop 14 tile)) (is_bad bundle e), ((tile, (record { some = some; within = within; bytes = refl }, (is, (refl, refl)))), refl))

test_lt : (n m : ℕ) → n < m → nat_lt n m ≡ true
test_lt n m lt = grind (arith, nat_tests)

test_ge : (n m : ℕ) → m ≤ n → nat_lt n m ≡ false
test_ge n m ge = grind (arith, nat_tests)

tile_there : (n : ℕ) → nat_lt 0 n ≡ true → 0 < n
tile_there n is = by (cases_lt 0 n)
  where
    by : (0 < n) ⊎ (n ≤ 0) → 0 < n
    by (inl some) = some
    by (inr none) = absurd (let bad : false ≡ true = sym (test_ge 0 n none) ∙ is in cc)

-- the tiles of some of these slots
abbrev Audited : List ℕ → List ℕ → Type 0
Audited bundle slots = (all : List AuditedTile) × (AllZip (IsAudited bundle) slots all × (count_of is_failed all ≡ 0))

no_more : (b : Bool) (n m : ℕ) → n ≡ cond b 1 0 + m → b ≡ false → m ≡ 0 → n ≡ 0
no_more true n m is good none = absurd (let bad : true ≡ false = good in cc)
no_more false n m is good none = omega (arith, is, none)

one_more : (bundle : List ℕ) (slot : ℕ) (slots : List ℕ) → ((f : Finding) × (IsFinding bundle slot f × (is_failed f ≡ false))) → Audited bundle slots → Audited bundle (slot ∷ slots)
one_more bundle slot slots (f, (is, good)) (all, (zip, none)) =
    let t : AuditedTile = record { slot = slot; entry = entry_at bundle slot; finding = f } in
    let sum : count_of is_failed (t ∷ all) ≡ cond (is_failed f) 1 0 + count_of is_failed all = sum_by-cons (λ (u : AuditedTile). cond (is_failed u.finding) 1 0) t all in
    (t ∷ all, ((record { slot_is = refl; entry_is = refl; finding = is }, zip), no_more (is_failed f) (count_of is_failed (t ∷ all)) (count_of is_failed all) sum good none))

some_of : (bundle : List ℕ) (b : Bool) (slot : ℕ) (rest : List ℕ) → AreBytes bundle → has_tile bundle slot ≡ b → Audited bundle rest → Audited bundle (cond b (slot ∷ rest) rest)
some_of bundle false slot rest are is all = all
some_of bundle true slot rest are is all = one_more bundle slot rest (read_so bundle slot are (tile_there (entry_at bundle slot).size is)) all

pub some_audit : (bundle : List ℕ) (slots : List ℕ) → AreBytes bundle → Audited bundle (filter (has_tile bundle) slots)
some_audit bundle [] are = ([], (tt, refl))
some_audit bundle (slot ∷ slots) are = some_of bundle (has_tile bundle slot) slot (filter (has_tile bundle) slots) are refl (some_audit bundle slots are)

-- ---- a clean audit

low_is_bad : (bundle : List ℕ) (e : Entry) → e.size ≢ 0 → e.offset < index_end + 4 → is_bad bundle e ≡ true
low_is_bad bundle e some low =
    let one : (e.size == 0) ≡ false = grind (arith, nat_tests) in
    let two : nat_lt e.offset (index_end + 4) ≡ true = grind (arith, nat_tests) in
    λ i. if one i then false else (if two i then true else (if nat_lt (length bundle) (e.offset + e.size) then true else (if u32_at bundle (e.offset - 4) == e.size then false else true)))

-- what a clean audit says of a slot that has a tile
record Good (bundle : List ℕ) (slot : ℕ) : Type 0 where
  pub tile : List ℕ
  pub gives : GetGives bundle slot tile
  pub whole : IsWholeTile tile
  pub behind : index_end ≤ (entry_at bundle slot).offset

good_place : (bundle : List ℕ) (e : Entry) → 0 < e.size → is_bad bundle e ≡ false → index_end ≤ e.offset
good_place bundle e some good = by (cases_lt e.offset (index_end + 4))
  where
    by : (e.offset < index_end + 4) ⊎ (index_end + 4 ≤ e.offset) → index_end ≤ e.offset
    by (inl low) = absurd (let bad : true ≡ false = sym (low_is_bad bundle e (λ none. omega (arith, some, none)) low) ∙ good in cc)
    by (inr high) = omega (arith, high)

good_finding : (bundle : List ℕ) (slot : ℕ) (f : Finding) → IsFinding bundle slot f → is_damaged true f ≡ false → Good bundle slot
good_finding bundle slot Failed is good = absurd (let bad : true ≡ false = good in cc)
good_finding bundle slot (Beyond got) is good = absurd (let bad : true ≡ false = good in cc)
good_finding bundle slot (Read j sum true) is good = absurd (let bad : true ≡ false = good in cc)
good_finding bundle slot (Read (Whole s) sum false) (tile, (gives, (is, (sums, place)))) good =
    record { tile = tile; gives = gives; whole = inl (is.0, is.1.0); behind = good_place bundle (entry_at bundle slot) gives.some (sym place) }
good_finding bundle slot (Read Summed sum false) (tile, (gives, (is, (sums, place)))) good =
    record { tile = tile; gives = gives; whole = inr is; behind = good_place bundle (entry_at bundle slot) gives.some (sym place) }
good_finding bundle slot (Read Foreign sum false) is good = absurd (let bad : true ≡ false = good in cc)
good_finding bundle slot (Read Unread sum false) is good = absurd (let bad : true ≡ false = good in cc)
good_finding bundle slot (Read (Damaged f) sum false) is good = absurd (let bad : true ≡ false = good in cc)

-- a slot among others
abbrev Clean : List AuditedTile → Type 0
Clean all = All (λ t. is_damaged true t.finding ≡ false) all

clean_rest : (t : AuditedTile) (ts : List AuditedTile) → Clean (t ∷ ts) → Clean ts
clean_rest t ts all = λ k d less. all (suc k) d (omega (arith, less))

here : (bundle : List ℕ) (a : ℕ) (rest : List ℕ) (all : List AuditedTile) → AllZip (IsAudited bundle) (a ∷ rest) all → Clean all → Good bundle a
here bundle a rest [] zip clean = absurd zip
here bundle a rest (t ∷ ts) zip clean = good_finding bundle a t.finding zip.0.finding (clean 0 t (omega arith))

find : (bundle : List ℕ) (n a slot : ℕ) (all : List AuditedTile) → AllZip (IsAudited bundle) (filter (has_tile bundle) (range_with_len a n)) all → Clean all → a ≤ slot → slot < a + n → 0 < (entry_at bundle slot).size → Good bundle slot
find bundle zero a slot all zip clean low high some = absurd (omega (arith, low, high))
find bundle (suc n) a slot all zip clean low high some = by (has_tile bundle a) refl all zip clean (cases_eq a slot) (λ ts z c up. find bundle n (a + 1) slot ts z c up (omega (arith, high)) some)
  where
    by : (b : Bool) → has_tile bundle a ≡ b → (all : List AuditedTile) → AllZip (IsAudited bundle) (cond b (a ∷ filter (has_tile bundle) (range_with_len (a + 1) n)) (filter (has_tile bundle) (range_with_len (a + 1) n))) all → Clean all
        → (a ≡ slot) ⊎ (a ≢ slot) → ((ts : List AuditedTile) → AllZip (IsAudited bundle) (filter (has_tile bundle) (range_with_len (a + 1) n)) ts → Clean ts → a + 1 ≤ slot → Good bundle slot) → Good bundle slot
    by false is all zip clean (inl same) go = absurd (let none : nat_lt 0 (entry_at bundle a).size ≡ false = is in let there : nat_lt 0 (entry_at bundle a).size ≡ true = test_lt 0 (entry_at bundle a).size (subst (λ s. 0 < (entry_at bundle s).size) (sym same) some) in let bad : true ≡ false = sym there ∙ none in cc)
    by false is all zip clean (inr other) go = go all zip clean (omega (arith, low, other))
    by true is all zip clean (inl same) go = subst (Good bundle) same (here bundle a (filter (has_tile bundle) (range_with_len (a + 1) n)) all zip clean)
    by true is [] zip clean (inr other) go = absurd zip
    by true is (t ∷ ts) zip clean (inr other) go = go ts zip.1 (clean_rest t ts clean) (omega (arith, low, other))

good_at : (bundle : List ℕ) (all : List AuditedTile) → IsAudit bundle all → Clean all → (slot : ℕ) → slot < slot_count → 0 < (entry_at bundle slot).size → Good bundle slot
good_at bundle all audit clean slot below some = find bundle 16384 0 slot all audit clean (omega arith) (omega (arith, below)) some

tiles_at : (bundle : List ℕ) (slot : ℕ) → slot < 16384 → tiles bundle slot ≡ tile_in bundle (entry_at bundle slot)
unfolding tiles
tiles_at bundle slot below = let is : nat_lt slot 16384 ≡ true = grind (arith, nat_tests) in ap (λ (b : Bool). if b then tile_in bundle (entry_at bundle slot) else None) is

tile_so : (bundle : List ℕ) (e : Entry) (P : List ℕ → Type 0) → (0 < e.size → P (take e.size (drop e.offset bundle))) → IfSome (tile_in bundle e) P
tile_so bundle e P go = by (cases_eq e.size 0)
  where
    by : (e.size ≡ 0) ⊎ (e.size ≢ 0) → IfSome (tile_in bundle e) P
    by (inl none) =
        let is : (e.size == 0) ≡ true = grind (arith, nat_tests) in
        subst (λ (b : Bool). IfSome (if b then None else Some (take e.size (drop e.offset bundle))) P) (sym is) tt
    by (inr some) =
        let is : (e.size == 0) ≡ false = grind (arith, nat_tests) in
        subst (λ (b : Bool). IfSome (if b then None else Some (take e.size (drop e.offset bundle))) P) (sym is) (go (omega (arith, some)))

pub clean_audit : (bundle : List ℕ) (all : List AuditedTile) → HasIndex bundle → IsAudit bundle all → Clean all → IsClean bundle
clean_audit bundle all index audit clean = record {
  readable = inr (record {
    index = index;
    entries = λ slot below some. (let good = good_at bundle all audit clean slot below some in (good.behind, good.gives.within));
  });
  each = λ slot below.
      subst (λ o. IfSome o IsWholeTile) (sym (tiles_at bundle slot below))
      (tile_so bundle (entry_at bundle slot) IsWholeTile (λ some. let good = good_at bundle all audit clean slot below some in subst IsWholeTile good.gives.bytes good.whole));
}
