-- The fields of an `LGA1` are parts: each is read in one way, and stands or has one first fault.
use Rattle.std.proofs.Common.{◌≡◌, ℕ, ℤ, zero, suc, ◌+◌, ◌<◌, ◌≤◌, Bool, true, false, List, [], ◌∷◌, ◌++◌, length, get_or, take, drop, All, refl, sym, ap, ◌∙◌, subst, arith, ◌⊎◌, inl, inr, length-append}
use Rattle.std.specs.Prelude.{codes, unsigned_abs}
use Rattle.std.proofs.lemmas.List.{take-append-drop, take_at, length-take-le}
use Rattle.first_fault.specs.Faults.{none, unless, wrong}
use Rattle.first_fault.specs.Parts.{HasFault, InFront, IsDecided, IsPart, IsSingle}
use Rattle.first_fault.proofs.Parts.{passed, single-none, single-unless}
use Rattle.first_fault.proofs.Decided.{decided_unless}
use Rattle.raster_grids.specs.ReadGrid.{IsGrid, grid_faults}
use Rattle.raster_grids.proofs.GridDecided.{grids_are_decided}
use Rattle.raster_grids.proofs.GridLaws.{grids_are_parts}
use Rattle.raster_values.proofs.OneGrid.{split_front}
use Rattle.ascii_grid.specs.declared.fault.AsciiReason.{AsciiReason}
use Rattle.ascii_grid.specs.declared.fault.AsciiReason.TheVariants.{BadFlags, BadMagic, BadNumber, BadText, Grid, Truncated}
use Rattle.ascii_grid.specs.declared.lga.fields.Centres.{Centres}
use Rattle.ascii_grid.specs.Head.{IsText, IsTextByte}
use Rattle.ascii_grid.specs.Lga.{IsFlags, IsMagic, IsNodataField, IsTextField, IsTextLength, cut, field_faults, flag_faults, flags_of, magic_faults, nodata_faults, nodata_in, raster_faults, text_field_faults}
use Rattle.ascii_grid.proofs.Tests.{Tested, same_list, test_all, test_both, test_less, test_most, test_text_byte, this_wrong}

-- ---- a field of so many bytes

pub field_part : {X : Type 0} (n : ℕ) (P : List ℕ → Type 0) (why : AsciiReason) (part : List ℕ → X → Type 0) → ((a : List ℕ) (x : X) → part a x → (length a ≡ n) × P a) → ((a : List ℕ) (x y : X) → part a x → part a y → x ≡ y)
    → IsPart part (field_faults n P why)
field_part n P why part has one = record {
  once = λ a b s t x y pa pb e.
      let same : a ≡ b = split_front a b s t n (has a x pa).0 (has b y pb).0 e in
      (same, one b x y (subst (λ (u : List ℕ). part u x) same pa) pb);
  either = λ a s x p r pa w.
      let h = has a x pa in
      let later = passed (n ≤ length (a ++ s)) (unless (P (take n (a ++ s))) (wrong why 0) none) (cut (a ++ s)) (omega (arith, length-append a s, h.0)) p r w in
      passed (P (take n (a ++ s))) none (wrong why 0) (subst P (sym (take_at a s n h.0)) h.1) p r later;
  single = λ bytes. single-unless (n ≤ length bytes) Truncated (length bytes) (unless (P (take n bytes)) (wrong why 0) none) (single-unless (P (take n bytes)) why 0 none single-none);
}

in_front : {X : Type 0} (n : ℕ) (part : List ℕ → X → Type 0) (bytes : List ℕ) → (x : X) × part (take n bytes) x → InFront part bytes
in_front n part bytes (x, is) = record { front = take n bytes; rest = drop n bytes; value = x; joined = sym (take-append-drop n bytes); stands = is }

pub field_decided : {X : Type 0} (n : ℕ) (P : List ℕ → Type 0) (why : AsciiReason) (part : List ℕ → X → Type 0) → ((a : List ℕ) → Tested (P a)) → ((a : List ℕ) → length a ≡ n → P a → (x : X) × part a x) → IsDecided part (field_faults n P why)
field_decided n P why part test made bytes are =
    decided_unless (n ≤ length bytes) (cut bytes) (unless (P (take n bytes)) (wrong why 0) none) (test_most n (length bytes)) (this_wrong Truncated (length bytes))
    (λ long. decided_unless (P (take n bytes)) (wrong why 0) none (test (take n bytes)) (this_wrong why 0)
    (λ holds. inl (in_front n part bytes (made (take n bytes) (length-take-le n bytes long) holds))))

-- ---- the magic and the flags

pub magic_part : IsPart IsMagic magic_faults
magic_part = field_part 4 (λ (field : List ℕ). field ≡ codes "LGA1") BadMagic IsMagic (λ a x is. (ap length is, is)) (λ a x y p q. refl)

flags_few : (c : Centres) → flags_of c ≤ 3
flags_few c = by c.x c.y
  where
    by : (x y : Bool) → flags_of (record { x = x; y = y }) ≤ 3
    by true true = omega arith
    by true false = omega arith
    by false true = omega arith
    by false false = omega arith

-- the centres that flags say
abbrev centres_in : ℕ → Centres
centres_in zero = record { x = false; y = false }
centres_in (suc zero) = record { x = true; y = false }
centres_in (suc (suc zero)) = record { x = false; y = true }
centres_in (suc (suc (suc n))) = record { x = true; y = true }

centres_back : (c : Centres) → centres_in (flags_of c) ≡ c
centres_back c = by c.x c.y
  where
    by : (x y : Bool) → centres_in (flags_of (record { x = x; y = y })) ≡ record { x = x; y = y }
    by true true = refl
    by true false = refl
    by false true = refl
    by false false = refl

flags_there : (n : ℕ) → n ≤ 3 → flags_of (centres_in n) ≡ n
flags_there zero h = refl
flags_there (suc zero) h = refl
flags_there (suc (suc zero)) h = refl
flags_there (suc (suc (suc zero))) h = refl
flags_there (suc (suc (suc (suc n)))) h = absurd (let no : ⊥ = omega arith in no)

pub flags_part : IsPart IsFlags flag_faults
flags_part = field_part 1 (λ (field : List ℕ). get_or field 0 0 ≤ 3) BadFlags IsFlags
    (λ a c is. (ap length is, (let e : get_or a 0 0 ≡ flags_of c = ap (λ (u : List ℕ). get_or u 0 0) is in omega (arith, e, flags_few c))))
    (λ a c d p q. sym (centres_back c) ∙ ap (λ (u : List ℕ). centres_in (get_or u 0 0)) (sym p ∙ q) ∙ centres_back d)

one_byte : (a : List ℕ) → length a ≡ 1 → a ≡ get_or a 0 0 ∷ []
one_byte [] e = absurd (let no : ⊥ = omega (arith, e) in no)
one_byte (x ∷ []) e = refl
one_byte (x ∷ (y ∷ a)) e = absurd (let no : ⊥ = omega (arith, e) in no)

pub flags_decided : IsDecided IsFlags flag_faults
flags_decided = field_decided 1 (λ (field : List ℕ). get_or field 0 0 ≤ 3) BadFlags IsFlags (λ a. test_most (get_or a 0 0) 3)
    (λ a size few. (centres_in (get_or a 0 0), one_byte a size ∙ ap (λ (n : ℕ). n ∷ []) (sym (flags_there (get_or a 0 0) few))))

pub magic_decided : IsDecided IsMagic magic_faults
magic_decided = field_decided 4 (λ (field : List ℕ). field ≡ codes "LGA1") BadMagic IsMagic (λ a. same_list a (codes "LGA1")) (λ a size is. (tt, is))

-- ---- nodata

pub nodata_part : IsPart IsNodataField nodata_faults
nodata_part = field_part 8 (λ (field : List ℕ). unsigned_abs (nodata_in field) < 10000000000) BadNumber IsNodataField
    (λ a z is. (is.size, subst (λ (v : ℤ). unsigned_abs v < 10000000000) is.value is.few)) (λ a y z p q. p.value ∙ sym q.value)

pub nodata_decided : IsDecided IsNodataField nodata_faults
nodata_decided = field_decided 8 (λ (field : List ℕ). unsigned_abs (nodata_in field) < 10000000000) BadNumber IsNodataField (λ a. test_less (unsigned_abs (nodata_in a)) 10000000000)
    (λ a size few. (nodata_in a, record { size = size; value = refl; few = few }))

-- ---- texts

text_once : (a b s t x y : List ℕ) → IsTextField a x → IsTextField b y → a ++ s ≡ b ++ t → (a ≡ b) × (x ≡ y)
text_once a b s t x y pa pb e =
    let joins : length x ∷ (x ++ s) ≡ length y ∷ (y ++ t) = sym (ap (λ (u : List ℕ). u ++ s) pa.spelled) ∙ e ∙ ap (λ (u : List ℕ). u ++ t) pb.spelled in
    let size : length x ≡ length y = ap (λ (u : List ℕ). get_or u 0 0) joins in
    let same : x ≡ y = split_front x y s t (length y) size refl (ap (drop 1) joins) in
    (pa.spelled ∙ (λ i. length (same i) ∷ same i) ∙ sym pb.spelled, same)

text_no_fault : (a s x : List ℕ) (p : ℕ) (r : AsciiReason) → IsTextField a x → text_field_faults (a ++ s) p r → ⊥
text_no_fault a s x p r is w = go (subst (λ (u : List ℕ). text_field_faults (u ++ s) p r) is.spelled w)
  where
    go : text_field_faults (length x ∷ (x ++ s)) p r → ⊥
    go w0 =
        let n = length x in
        let all : List ℕ = n ∷ (x ++ s) in
        let w1 = passed (1 ≤ length all) (unless (IsTextLength n) (wrong BadText 0) (field_faults (suc n) (λ (field : List ℕ). All IsTextByte (drop 1 field)) BadText all)) (cut all) (omega arith) p r w0 in
        let w2 = passed (IsTextLength n) (field_faults (suc n) (λ (field : List ℕ). All IsTextByte (drop 1 field)) BadText all) (wrong BadText 0) ((let some : 1 ≤ n = omega (arith, is.text_is.some) in some), is.text_is.few) p r w1 in
        let w3 = passed (suc n ≤ length all) (unless (All IsTextByte (drop 1 (take (suc n) all))) (wrong BadText 0) none) (cut all) (omega (arith, length-append x s)) p r w2 in
        passed (All IsTextByte (drop 1 (take (suc n) all))) none (wrong BadText 0) (subst (All IsTextByte) (sym (take_at x s n refl)) is.text_is.each) p r w3

text_single : (bytes : List ℕ) → IsSingle (text_field_faults bytes)
text_single bytes =
    let n = get_or bytes 0 0 in
    let last = single-unless (All IsTextByte (drop 1 (take (suc n) bytes))) BadText 0 none single-none in
    let field = single-unless (suc n ≤ length bytes) Truncated (length bytes) (unless (All IsTextByte (drop 1 (take (suc n) bytes))) (wrong BadText 0) none) last in
    let size = single-unless (IsTextLength n) BadText 0 (field_faults (suc n) (λ (field : List ℕ). All IsTextByte (drop 1 field)) BadText bytes) field in
    single-unless (1 ≤ length bytes) Truncated (length bytes) (unless (IsTextLength n) (wrong BadText 0) (field_faults (suc n) (λ (field : List ℕ). All IsTextByte (drop 1 field)) BadText bytes)) size

pub text_part : IsPart IsTextField text_field_faults
text_part = record { once = text_once; either = text_no_fault; single = text_single }

text_there : (bytes : List ℕ) → 1 ≤ length bytes → IsTextLength (get_or bytes 0 0) → suc (get_or bytes 0 0) ≤ length bytes → All IsTextByte (drop 1 (take (suc (get_or bytes 0 0)) bytes)) → InFront IsTextField bytes
text_there [] some fair long all = absurd (let no : ⊥ = omega (arith, some) in no)
text_there (n ∷ rest) some fair long all =
    let size : length (take n rest) ≡ n = length-take-le n rest (omega (arith, long)) in
    record {
      front = n ∷ take n rest;
      rest = drop n rest;
      value = take n rest;
      joined = ap (λ (u : List ℕ). n ∷ u) (sym (take-append-drop n rest));
      stands = record {
        spelled = ap (λ (k : ℕ). k ∷ take n rest) (sym size);
        text_is = record { some = omega (arith, size, fair.0); few = omega (arith, size, fair.1); each = all };
      };
    }

pub text_decided : IsDecided IsTextField text_field_faults
text_decided bytes are =
    let n = get_or bytes 0 0 in
    let chars = λ (field : List ℕ). All IsTextByte (drop 1 field) in
    decided_unless (1 ≤ length bytes) (cut bytes) (unless (IsTextLength n) (wrong BadText 0) (field_faults (suc n) chars BadText bytes)) (test_most 1 (length bytes)) (this_wrong Truncated (length bytes))
    (λ some. decided_unless (IsTextLength n) (wrong BadText 0) (field_faults (suc n) chars BadText bytes) (test_both (test_most 1 n) (test_most n 32)) (this_wrong BadText 0)
    (λ fair. decided_unless (suc n ≤ length bytes) (cut bytes) (unless (chars (take (suc n) bytes)) (wrong BadText 0) none) (test_most (suc n) (length bytes)) (this_wrong Truncated (length bytes))
    (λ long. decided_unless (chars (take (suc n) bytes)) (wrong BadText 0) none (test_all IsTextByte test_text_byte (drop 1 (take (suc n) bytes))) (this_wrong BadText 0)
    (λ all. inl (text_there bytes some fair long all)))))

-- ---- the grid

raster_single : (bytes : List ℕ) → IsSingle (raster_faults bytes)
raster_single bytes p q a b w v = let same = grids_are_parts.single bytes p q w.0 v.0 w.1.0 v.1.0 in (same.0, w.1.1 ∙ ap Grid same.1 ∙ sym v.1.1)

pub raster_part : IsPart IsGrid raster_faults
raster_part = record {
  once = grids_are_parts.once;
  either = λ a s x p r is w. grids_are_parts.either a s x p w.0 is w.1.0;
  single = raster_single;
}

pub raster_decided : IsDecided IsGrid raster_faults
raster_decided bytes are = by (grids_are_decided bytes are)
  where
    by : InFront IsGrid bytes ⊎ HasFault (grid_faults bytes) → InFront IsGrid bytes ⊎ HasFault (raster_faults bytes)
    by (inl f) = inl f
    by (inr w) = inr (record { place = w.place; reason = Grid w.reason; fault = (w.reason, (w.fault, refl)) })
