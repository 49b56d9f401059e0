-- A block is a part: it is read in one way, and it stands or has one first fault.
use Rattle.std.proofs.Common.{◌≡◌, ℕ, ℤ, pos, ◌+◌, ◌*◌, ◌/◌, ◌%◌, ◌<◌, ◌≤◌, ◌⊎◌, List, [], ◌∷◌, ◌++◌, length, slice_index, take, drop, map, replicate, refl, sym, ap, ◌∙◌, subst, inl, inr, arith}
use Rattle.std.specs.Prelude.{Option, Some, None}
use Rattle.std.proofs.lemmas.Bool.{cases_lt}
use Rattle.std.proofs.lemmas.List.{append_assoc, length-append, length-take-le, take-append-drop, drop_at}
use Rattle.byteorder.specs.Endian.{little_number}
use Rattle.first_fault.specs.Faults.{Faults, none, wrong, choice, unless, moved}
use Rattle.first_fault.specs.Parts.{IsSingle, IsPart, IsDecided, AreBytes, HasFault}
use Rattle.first_fault.proofs.Parts.{single-none, single-wrong, single-unless, single-choice, single-moved, passed, failed, same_rest}
use Rattle.first_fault.proofs.Decided.{decided_unless}
use Rattle.raster_cells.specs.declared.kind.PixelType.{PixelType}
use Rattle.raster_cells.specs.PixelType.{bytes_of, value_of}
use Rattle.raster_cells.specs.Values.{AreValues}
use Rattle.raster_cells.proofs.Spelled.{values_once, values_there}
use Rattle.bit_stuff.specs.declared.heads.ListReason.{ListReason}
use Rattle.bit_stuff.proofs.HeadParts.{same_front}
use Rattle.bit_stuff.proofs.Numbers.{bytes_drop, bytes_take}
use Rattle.lut_stuff.specs.Faults.{list_faults}
use Rattle.lut_stuff.proofs.Lists.{list_decided, list_part}
use Rattle.micro_block.specs.declared.context.BlockReason.{BlockReason}
use Rattle.micro_block.specs.declared.context.BlockReason.TheVariants as reasons
use Rattle.micro_block.specs.Block.{IsBlock, IsOffset, IsTag, offset_type}
use Rattle.micro_block.specs.Block as forms
use Rattle.micro_block.specs.Faults.{block_faults, code_faults, form_faults, offset_faults, raw_faults, tag_faults, told_of_list}
use Rattle.micro_block.specs.Frame.{Frame}
use Rattle.micro_block.specs.Near.{stands_for}
use Rattle.micro_block.specs.inside.Tagged.{IsTagged, as_raw, as_stuffed, as_zero, as_constant}

-- ---- a block by its tag

pub record HasTag (f : Frame) (bytes : List ℕ) (values : List ℤ) : Type 0 where
  pub tag : ℕ
  pub rest : List ℕ
  pub joined : bytes ≡ tag ∷ rest
  pub column : tag / 4 % 16 ≡ f.col / 8 % 16
  pub tagged : IsTagged f tag rest values

coded : (kind : PixelType) (code other : ℕ) (bytes : List ℕ) (offset : ℤ) → code ≡ other → IsOffset kind other bytes offset → IsOffset kind code bytes offset
coded kind code other bytes offset e o = subst (λ (k : ℕ). IsOffset kind k bytes offset) (sym e) o

pub by_tag : (f : Frame) (bytes : List ℕ) (values : List ℤ) → IsBlock f bytes values → HasTag f bytes values
by_tag f bytes values (forms.raw tag code rest joined t count are) = record { tag = tag; rest = rest; joined = joined; column = t.column_bits; tagged = as_raw t.form_bits count are }
by_tag f bytes values (forms.stuffed tag code front back offset qs joined t o count list e) = record {
  tag = tag;
  rest = front ++ back;
  joined = joined;
  column = t.column_bits;
  tagged = as_stuffed t.form_bits front back offset qs refl (coded f.kind (tag / 64) code front offset t.code_bits o) (count, list) e;
}
by_tag f bytes values (forms.zero tag code joined t e) = record { tag = tag; rest = []; joined = joined; column = t.column_bits; tagged = as_zero t.form_bits refl e }
by_tag f bytes values (forms.constant tag code front offset joined t o e) = record {
  tag = tag;
  rest = front;
  joined = joined;
  column = t.column_bits;
  tagged = as_constant t.form_bits offset (coded f.kind (tag / 64) code front offset t.code_bits o) e;
}

pub of_tag : (f : Frame) (tag : ℕ) (rest : List ℕ) (values : List ℤ) → tag / 4 % 16 ≡ f.col / 8 % 16 → IsTagged f tag rest values → IsBlock f (tag ∷ rest) values
of_tag f tag rest values column (as_raw form count are) = forms.raw tag (tag / 64) rest refl (record { form_bits = form; column_bits = column; code_bits = refl }) count are
of_tag f tag rest values column (as_stuffed form front back offset qs joined o list e) =
    forms.stuffed tag (tag / 64) front back offset qs (ap (λ (u : List ℕ). tag ∷ u) joined) (record { form_bits = form; column_bits = column; code_bits = refl }) o list.0 list.1 e
of_tag f tag rest values column (as_zero form none_ e) =
    forms.zero tag (tag / 64) (ap (λ (u : List ℕ). tag ∷ u) none_) (record { form_bits = form; column_bits = column; code_bits = refl }) e
of_tag f tag rest values column (as_constant form offset o e) =
    forms.constant tag (tag / 64) rest offset refl (record { form_bits = form; column_bits = column; code_bits = refl }) o e

-- ---- once

cons_same : (x y : ℕ) (xs ys : List ℕ) → x ∷ xs ≡ y ∷ ys → (x ≡ y) × (xs ≡ ys)
cons_same x y xs ys e = (cc, cc)

some_same : (x y : PixelType) → Some x ≡ Some y → x ≡ y
some_same x y e = cc

-- an offset of one code is read in one way
pub offset_once : (kind : PixelType) (code : ℕ) (a b s t : List ℕ) (v w : ℤ) → IsOffset kind code a v → IsOffset kind code b w → a ++ s ≡ b ++ t → (a ≡ b) × (v ≡ w)
offset_once kind code a b s t v w p q joined =
    let type : p.type ≡ q.type = some_same p.type q.type (sym p.coded ∙ q.coded) in
    let size : length a ≡ length b = p.size ∙ ap bytes_of type ∙ sym q.size in
    let same : a ≡ b = same_front a b s t size joined in
    (same, p.spells ∙ (λ i. value_of (type i) (little_number (bytes_of (type i)) (same i))) ∙ sym q.spells)

other_forms : {P : Type 0} (n a b : ℕ) → n ≡ a → n ≡ b → ¬ (a ≡ b) → P
other_forms n a b p q no_ = absurd (no_ (sym p ∙ q))

tagged_once : (f : Frame) (tag : ℕ) (a b s t : List ℕ) (xs ys : List ℤ) → IsTagged f tag a xs → IsTagged f tag b ys → a ++ s ≡ b ++ t → (a ≡ b) × (xs ≡ ys)
tagged_once f tag a b s t xs ys (as_raw p nx x) (as_raw q ny y) joined =
    let size : length a ≡ length b = x.size ∙ ap (λ (n : ℕ). n * bytes_of f.kind) (nx ∙ sym ny) ∙ sym y.size in
    let same : a ≡ b = same_front a b s t size joined in
    (same, values_once f.kind a xs ys x (subst (λ (u : List ℕ). AreValues f.kind u ys) (sym same) y))
tagged_once f tag a b s t xs ys (as_stuffed p fa ba va qa ea oa la ra) (as_stuffed q fb bb vb qb eb ob lb rb) joined =
    let left : a ++ s ≡ fa ++ (ba ++ s) = ap (λ (u : List ℕ). u ++ s) ea ∙ append_assoc fa ba s in
    let right : b ++ t ≡ fb ++ (bb ++ t) = ap (λ (u : List ℕ). u ++ t) eb ∙ append_assoc fb bb t in
    let joins = sym left ∙ joined ∙ right in
    let offsets = offset_once f.kind (tag / 64) fa fb (ba ++ s) (bb ++ t) va vb oa ob joins in
    let rests = same_rest fa fb (ba ++ s) (bb ++ t) offsets.0 joins in
    let lists = (list_part f.count).once ba bb s t qa qb la lb rests in
    (ea ∙ (λ i. offsets.0 i ++ lists.0 i) ∙ sym eb, ra ∙ (λ i. map (stands_for f.step f.top (offsets.1 i)) (lists.1 i)) ∙ sym rb)
tagged_once f tag a b s t xs ys (as_zero p ea x) (as_zero q eb y) joined = (ea ∙ sym eb, x ∙ sym y)
tagged_once f tag a b s t xs ys (as_constant p va oa x) (as_constant q vb ob y) joined =
    let offsets = offset_once f.kind (tag / 64) a b s t va vb oa ob joined in
    (offsets.0, x ∙ ap (replicate f.count) offsets.1 ∙ sym y)
tagged_once f tag a b s t xs ys (as_raw p nx x) (as_stuffed q fb bb vb qb eb ob lb rb) joined = other_forms (tag % 4) 0 1 p q (λ e. omega (arith, e))
tagged_once f tag a b s t xs ys (as_raw p nx x) (as_zero q eb y) joined = other_forms (tag % 4) 0 2 p q (λ e. omega (arith, e))
tagged_once f tag a b s t xs ys (as_raw p nx x) (as_constant q vb ob y) joined = other_forms (tag % 4) 0 3 p q (λ e. omega (arith, e))
tagged_once f tag a b s t xs ys (as_stuffed p fa ba va qa ea oa la ra) (as_raw q ny y) joined = other_forms (tag % 4) 1 0 p q (λ e. omega (arith, e))
tagged_once f tag a b s t xs ys (as_stuffed p fa ba va qa ea oa la ra) (as_zero q eb y) joined = other_forms (tag % 4) 1 2 p q (λ e. omega (arith, e))
tagged_once f tag a b s t xs ys (as_stuffed p fa ba va qa ea oa la ra) (as_constant q vb ob y) joined = other_forms (tag % 4) 1 3 p q (λ e. omega (arith, e))
tagged_once f tag a b s t xs ys (as_zero p ea x) (as_raw q ny y) joined = other_forms (tag % 4) 2 0 p q (λ e. omega (arith, e))
tagged_once f tag a b s t xs ys (as_zero p ea x) (as_stuffed q fb bb vb qb eb ob lb rb) joined = other_forms (tag % 4) 2 1 p q (λ e. omega (arith, e))
tagged_once f tag a b s t xs ys (as_zero p ea x) (as_constant q vb ob y) joined = other_forms (tag % 4) 2 3 p q (λ e. omega (arith, e))
tagged_once f tag a b s t xs ys (as_constant p va oa x) (as_raw q ny y) joined = other_forms (tag % 4) 3 0 p q (λ e. omega (arith, e))
tagged_once f tag a b s t xs ys (as_constant p va oa x) (as_stuffed q fb bb vb qb eb ob lb rb) joined = other_forms (tag % 4) 3 1 p q (λ e. omega (arith, e))
tagged_once f tag a b s t xs ys (as_constant p va oa x) (as_zero q eb y) joined = other_forms (tag % 4) 3 2 p q (λ e. omega (arith, e))

block_once : (f : Frame) (a b s t : List ℕ) (xs ys : List ℤ) → IsBlock f a xs → IsBlock f b ys → a ++ s ≡ b ++ t → (a ≡ b) × (xs ≡ ys)
block_once f a b s t xs ys p q joined =
    let c = by_tag f a xs p in
    let d = by_tag f b ys q in
    let tails = cons_same c.tag d.tag (c.rest ++ s) (d.rest ++ t) (sym (ap (λ (u : List ℕ). u ++ s) c.joined) ∙ joined ∙ ap (λ (u : List ℕ). u ++ t) d.joined) in
    let same = tagged_once f c.tag c.rest d.rest s t xs ys c.tagged (subst (λ (k : ℕ). IsTagged f k d.rest ys) (sym tails.0) d.tagged) tails.1 in
    (c.joined ∙ (λ i. tails.0 i ∷ same.0 i) ∙ sym d.joined, same.1)

-- ---- either

raw_no_fault : (f : Frame) (a s : List ℕ) (xs : List ℤ) → length xs ≡ f.count → AreValues f.kind a xs → (p : ℕ) (r : BlockReason) → raw_faults f (a ++ s) p r → ⊥
raw_no_fault f a s xs count are p r w =
    let size : f.count * bytes_of f.kind ≡ length a = ap (λ (n : ℕ). n * bytes_of f.kind) (sym count) ∙ sym are.size in
    passed (f.count * bytes_of f.kind ≤ length (a ++ s)) none (wrong reasons.Cut 0) (omega (arith, size, length-append a s)) p r w

-- an offset stands, so what is wrong is in the list behind it, where there is one
offset_passed : (f : Frame) (form : ℕ) (a s : List ℕ) (v : ℤ) (type : PixelType) → length a ≡ bytes_of type → (p : ℕ) (r : BlockReason) → offset_faults f form type (a ++ s) p r
    → choice (form ≡ 1) (moved (bytes_of type) (told_of_list (list_faults f.count s))) none p r
offset_passed f form a s v type size p r w =
    let rest : drop (bytes_of type) (a ++ s) ≡ s = drop_at a s (bytes_of type) size in
    subst (λ (u : List ℕ). choice (form ≡ 1) (moved (bytes_of type) (told_of_list (list_faults f.count u))) none p r) rest
    (passed (bytes_of type ≤ length (a ++ s)) (choice (form ≡ 1) (moved (bytes_of type) (told_of_list (list_faults f.count (drop (bytes_of type) (a ++ s))))) none) (wrong reasons.Cut 0)
    (omega (arith, size, length-append a s)) p r w)

code_passed : (f : Frame) (form code : ℕ) (rest : List ℕ) (type : PixelType) → offset_type f.kind code ≡ Some type → (p : ℕ) (r : BlockReason) → code_faults f form (offset_type f.kind code) rest p r → moved 1 (offset_faults f form type rest) p r
code_passed f form code rest type e p r w = subst (λ (o : Option PixelType). code_faults f form o rest p r) e w

tagged_no_fault : (f : Frame) (tag : ℕ) (a s : List ℕ) (xs : List ℤ) → IsTagged f tag a xs → (p : ℕ) (r : BlockReason) → form_faults f tag (a ++ s) p r → ⊥
tagged_no_fault f tag a s xs (as_raw form count are) p r w =
    let w1 = passed (tag % 4 ≡ 0) (moved 1 (raw_faults f (a ++ s))) (choice (tag % 4 ≡ 2) none (code_faults f (tag % 4) (offset_type f.kind (tag / 64)) (a ++ s))) form p r w in
    raw_no_fault f a s xs count are w1.0 r w1.1.1
tagged_no_fault f tag a s xs (as_stuffed form front back v qs joined o list e) p r w =
    let w1 = failed (tag % 4 ≡ 0) (moved 1 (raw_faults f (a ++ s))) (choice (tag % 4 ≡ 2) none (code_faults f (tag % 4) (offset_type f.kind (tag / 64)) (a ++ s))) (λ z. omega (arith, form, z)) p r w in
    let w2 = failed (tag % 4 ≡ 2) none (code_faults f (tag % 4) (offset_type f.kind (tag / 64)) (a ++ s)) (λ z. omega (arith, form, z)) p r w1 in
    let w3 = code_passed f (tag % 4) (tag / 64) (a ++ s) o.type o.coded p r w2 in
    let whole : a ++ s ≡ front ++ (back ++ s) = ap (λ (u : List ℕ). u ++ s) joined ∙ append_assoc front back s in
    let w4 = offset_passed f (tag % 4) front (back ++ s) v o.type o.size w3.0 r (subst (λ (u : List ℕ). offset_faults f (tag % 4) o.type u w3.0 r) whole w3.1.1) in
    let w5 = passed (tag % 4 ≡ 1) (moved (bytes_of o.type) (told_of_list (list_faults f.count (back ++ s)))) none form w3.0 r w4 in
    (list_part f.count).either back s qs w5.0 w5.1.1.0 list w5.1.1.1.0
tagged_no_fault f tag a s xs (as_zero form nothing e) p r w =
    let w1 = failed (tag % 4 ≡ 0) (moved 1 (raw_faults f (a ++ s))) (choice (tag % 4 ≡ 2) none (code_faults f (tag % 4) (offset_type f.kind (tag / 64)) (a ++ s))) (λ z. omega (arith, form, z)) p r w in
    passed (tag % 4 ≡ 2) none (code_faults f (tag % 4) (offset_type f.kind (tag / 64)) (a ++ s)) form p r w1
tagged_no_fault f tag a s xs (as_constant form v o e) p r w =
    let w1 = failed (tag % 4 ≡ 0) (moved 1 (raw_faults f (a ++ s))) (choice (tag % 4 ≡ 2) none (code_faults f (tag % 4) (offset_type f.kind (tag / 64)) (a ++ s))) (λ z. omega (arith, form, z)) p r w in
    let w2 = failed (tag % 4 ≡ 2) none (code_faults f (tag % 4) (offset_type f.kind (tag / 64)) (a ++ s)) (λ z. omega (arith, form, z)) p r w1 in
    let w3 = code_passed f (tag % 4) (tag / 64) (a ++ s) o.type o.coded p r w2 in
    let w4 = offset_passed f (tag % 4) a s v o.type o.size w3.0 r w3.1.1 in
    failed (tag % 4 ≡ 1) (moved (bytes_of o.type) (told_of_list (list_faults f.count s))) none (λ z. omega (arith, form, z)) w3.0 r w4

block_no_fault : (f : Frame) (a s : List ℕ) (xs : List ℤ) → IsBlock f a xs → (p : ℕ) (r : BlockReason) → block_faults f (a ++ s) p r → ⊥
unfolding block_faults
block_no_fault f a s xs b p r w =
    let c = by_tag f a xs b in
    let whole : a ++ s ≡ c.tag ∷ (c.rest ++ s) = ap (λ (u : List ℕ). u ++ s) c.joined in
    let w0 = subst (λ (u : List ℕ). unless (0 < length u) (wrong reasons.Cut 0) (tag_faults f (slice_index u 0) (drop 1 u)) p r) whole w in
    let w1 = passed (0 < length (c.tag ∷ (c.rest ++ s))) (tag_faults f c.tag (c.rest ++ s)) (wrong reasons.Cut 0) (omega arith) p r w0 in
    let w2 = passed (c.tag / 4 % 16 ≡ f.col / 8 % 16) (form_faults f c.tag (c.rest ++ s)) (wrong reasons.BadTag 0) c.column p r w1 in
    tagged_no_fault f c.tag c.rest s xs c.tagged p r w2

-- ---- single

list_told : (x y : ListReason) → reasons.List x ≡ reasons.List y → x ≡ y
list_told x y e = cc

single-told : (faults : Faults ListReason) → IsSingle faults → IsSingle (told_of_list faults)
single-told faults s p q a b x y =
    let same = s p q x.0 y.0 x.1.0 y.1.0 in
    (same.0, x.1.1 ∙ ap reasons.List same.1 ∙ sym y.1.1)

offset_single : (f : Frame) (form : ℕ) (type : PixelType) (rest : List ℕ) → IsSingle (offset_faults f form type rest)
offset_single f form type rest =
    single-unless (bytes_of type ≤ length rest) reasons.Cut 0 (choice (form ≡ 1) (moved (bytes_of type) (told_of_list (list_faults f.count (drop (bytes_of type) rest)))) none)
    (single-choice (form ≡ 1) (moved (bytes_of type) (told_of_list (list_faults f.count (drop (bytes_of type) rest)))) none
    (single-moved (bytes_of type) (told_of_list (list_faults f.count (drop (bytes_of type) rest))) (single-told (list_faults f.count (drop (bytes_of type) rest)) ((list_part f.count).single (drop (bytes_of type) rest)))) single-none)

code_single : (f : Frame) (form : ℕ) (o : Option PixelType) (rest : List ℕ) → IsSingle (code_faults f form o rest)
code_single f form None rest = single-wrong reasons.BadOffset 0
code_single f form (Some type) rest = single-moved 1 (offset_faults f form type rest) (offset_single f form type rest)

block_single : (f : Frame) (bytes : List ℕ) → IsSingle (block_faults f bytes)
unfolding block_faults
block_single f bytes =
    let tag = slice_index bytes 0 in
    let rest = drop 1 bytes in
    single-unless (0 < length bytes) reasons.Cut 0 (tag_faults f tag rest)
    (single-unless (tag / 4 % 16 ≡ f.col / 8 % 16) reasons.BadTag 0 (form_faults f tag rest)
    (single-choice (tag % 4 ≡ 0) (moved 1 (raw_faults f rest)) (choice (tag % 4 ≡ 2) none (code_faults f (tag % 4) (offset_type f.kind (tag / 64)) rest))
    (single-moved 1 (raw_faults f rest) (single-unless (f.count * bytes_of f.kind ≤ length rest) reasons.Cut 0 none single-none))
    (single-choice (tag % 4 ≡ 2) none (code_faults f (tag % 4) (offset_type f.kind (tag / 64)) rest) single-none (code_single f (tag % 4) (offset_type f.kind (tag / 64)) rest))))

pub block_part : (f : Frame) → IsPart (IsBlock f) (block_faults f)
block_part f = record {
  once = λ a b s t xs ys p q joined. block_once f a b s t xs ys p q joined;
  either = λ a s xs p r block w. block_no_fault f a s xs block p r w;
  single = λ bytes. block_single f bytes;
}

-- ---- decided

tests_le : (m n : ℕ) → (m ≤ n) ⊎ (¬ (m ≤ n))
tests_le m n = elim (cases_lt n m) [ inl past ↦ inr (λ below. omega (arith, below, past)) | inr below ↦ inl below ]

tests_same : (m n : ℕ) → (m ≡ n) ⊎ (¬ (m ≡ n))
tests_same m n = elim (cases_lt m n) [
  | inl below ↦ inr (λ e. omega (arith, below, e))
  | inr past ↦ elim (cases_lt n m) [
    | inl above_ ↦ inr (λ e. omega (arith, above_, e))
    | inr le ↦ inl (omega (arith, past, le))
  ]
]

-- what stands behind a tag, up to its last byte
pub record HasForm (f : Frame) (tag : ℕ) (rest : List ℕ) : Type 0 where
  pub front : List ℕ
  pub back : List ℕ
  pub values : List ℤ
  pub joined : rest ≡ front ++ back
  pub tagged : IsTagged f tag front values

later_fault : {Y : Type 0} {R : Type 0} (n : ℕ) (faults : Faults R) → Y ⊎ HasFault faults → Y ⊎ HasFault (moved n faults)
later_fault n faults (inl y) = inl y
later_fault n faults (inr w) = inr (record { place = n + w.place; reason = w.reason; fault = (w.place, (refl, w.fault)) })

raw_decided : (f : Frame) (tag : ℕ) (rest : List ℕ) → AreBytes rest → tag % 4 ≡ 0 → HasForm f tag rest ⊎ HasFault (raw_faults f rest)
raw_decided f tag rest are form =
    let size = f.count * bytes_of f.kind in
    decided_unless (size ≤ length rest) (wrong reasons.Cut 0) none (tests_le size (length rest)) (record { place = 0; reason = reasons.Cut; fault = (refl, refl) }) (λ room.
    let vs = values_there f.kind (take size rest) f.count (bytes_take size rest are) (length-take-le size rest room) in inl (record {
      front = take size rest;
      back = drop size rest;
      values = vs.0;
      joined = sym (take-append-drop size rest);
      tagged = as_raw form vs.1.1.0 vs.1.0;
    }))

-- the offset in front of bytes that are long enough
pub offset_front : (kind : PixelType) (code : ℕ) (rest : List ℕ) (type : PixelType) → offset_type kind code ≡ Some type → bytes_of type ≤ length rest
    → IsOffset kind code (take (bytes_of type) rest) (value_of type (little_number (bytes_of type) (take (bytes_of type) rest)))
offset_front kind code rest type e room = record { type = type; coded = e; size = length-take-le (bytes_of type) rest room; spells = refl }

offset_decided : (f : Frame) (tag : ℕ) (rest : List ℕ) (type : PixelType) → AreBytes rest → ¬ (tag % 4 ≡ 0) → ¬ (tag % 4 ≡ 2) → offset_type f.kind (tag / 64) ≡ Some type
    → HasForm f tag rest ⊎ HasFault (offset_faults f (tag % 4) type rest)
offset_decided f tag rest type are not_raw not_zero e =
    let size = bytes_of type in
    let list = told_of_list (list_faults f.count (drop size rest)) in
    decided_unless (size ≤ length rest) (wrong reasons.Cut 0) (choice (tag % 4 ≡ 1) (moved size list) none) (tests_le size (length rest)) (record { place = 0; reason = reasons.Cut; fault = (refl, refl) }) (λ room.
    elim (tests_same (tag % 4) 1) [
      | inl form ↦ elim (list_decided f.count (drop size rest) (bytes_drop size rest are)) [
        | inl l ↦ inl (record {
          front = take size rest ++ l.front;
          back = l.rest;
          values = map (stands_for f.step f.top (value_of type (little_number size (take size rest)))) l.value;
          joined = sym (take-append-drop size rest) ∙ ap (λ (u : List ℕ). take size rest ++ u) l.joined ∙ sym (append_assoc (take size rest) l.front l.rest);
          tagged = as_stuffed form (take size rest) l.front (value_of type (little_number size (take size rest))) l.value refl (offset_front f.kind (tag / 64) rest type e room) l.stands refl;
        })
        | inr w ↦ inr (record { place = size + w.place; reason = reasons.List w.reason; fault = inl (form, (w.place, (refl, (w.reason, (w.fault, refl))))) })
      ]
      | inr other ↦ inl (record {
        front = take size rest;
        back = drop size rest;
        values = replicate f.count (value_of type (little_number size (take size rest)));
        joined = sym (take-append-drop size rest);
        tagged = as_constant (last_form (tag % 4) (omega arith) not_raw other not_zero) (value_of type (little_number size (take size rest))) (offset_front f.kind (tag / 64) rest type e room) refl;
      })
    ])
  where
    last_form : (n : ℕ) → n < 4 → ¬ (n ≡ 0) → ¬ (n ≡ 1) → ¬ (n ≡ 2) → n ≡ 3
    last_form n below a b c = omega arith

code_decided : (f : Frame) (tag : ℕ) (rest : List ℕ) → AreBytes rest → ¬ (tag % 4 ≡ 0) → ¬ (tag % 4 ≡ 2) → (o : Option PixelType) → offset_type f.kind (tag / 64) ≡ o
    → HasForm f tag rest ⊎ HasFault (code_faults f (tag % 4) o rest)
code_decided f tag rest are not_raw not_zero None e = inr (record { place = 0; reason = reasons.BadOffset; fault = (refl, refl) })
code_decided f tag rest are not_raw not_zero (Some type) e = later_fault 1 (offset_faults f (tag % 4) type rest) (offset_decided f tag rest type are not_raw not_zero e)

form_decided : (f : Frame) (tag : ℕ) (rest : List ℕ) → AreBytes rest → HasForm f tag rest ⊎ HasFault (form_faults f tag rest)
form_decided f tag rest are = elim (tests_same (tag % 4) 0) [
  | inl form ↦ elim (later_fault 1 (raw_faults f rest) (raw_decided f tag rest are form)) [
    | inl h ↦ inl h
    | inr w ↦ inr (record { place = w.place; reason = w.reason; fault = inl (form, w.fault) })
  ]
  | inr not_raw ↦ elim (tests_same (tag % 4) 2) [
    | inl form ↦ inl (record { front = []; back = rest; values = replicate f.count (pos 0); joined = refl; tagged = as_zero form refl refl })
    | inr not_zero ↦ elim (code_decided f tag rest are not_raw not_zero (offset_type f.kind (tag / 64)) refl) [
      | inl h ↦ inl h
      | inr w ↦ inr (record { place = w.place; reason = w.reason; fault = inr (not_raw, inr (not_zero, w.fault)) })
    ]
  ]
]

bytes_behind : (bytes : List ℕ) → AreBytes bytes → 0 < length bytes → bytes ≡ slice_index bytes 0 ∷ drop 1 bytes
bytes_behind [] are there = absurd (omega (arith, there))
bytes_behind (b ∷ bytes) are there = refl

pub block_decided : (f : Frame) → IsDecided (IsBlock f) (block_faults f)
unfolding block_faults
block_decided f bytes are =
    let tag = slice_index bytes 0 in
    let rest = drop 1 bytes in
    decided_unless (0 < length bytes) (wrong reasons.Cut 0) (tag_faults f tag rest) (tests_le 1 (length bytes)) (record { place = 0; reason = reasons.Cut; fault = (refl, refl) }) (λ there.
    decided_unless (tag / 4 % 16 ≡ f.col / 8 % 16) (wrong reasons.BadTag 0) (form_faults f tag rest) (tests_same (tag / 4 % 16) (f.col / 8 % 16)) (record { place = 0; reason = reasons.BadTag; fault = (refl, refl) }) (λ column.
    elim (form_decided f tag rest (bytes_drop 1 bytes are)) [
      | inl h ↦ inl (record {
        front = tag ∷ h.front;
        rest = h.back;
        value = h.values;
        joined = bytes_behind bytes are there ∙ ap (λ (u : List ℕ). tag ∷ u) h.joined;
        stands = of_tag f tag h.front h.values column h.tagged;
      })
      | inr w ↦ inr w
    ]))
