-- Headers of blobs of floating-point numbers, as far as their type.
use Rattle.std.proofs.Common.{◌≡◌, inl, inr, ℕ, ℤ, pos, negsuc, ◌+◌, ◌≤◌, ◌≤ℤ◌, ◌*ℤ◌, List, ◌++◌, length, take, drop, refl, sym, ap, subst, ◌∙◌, arith}
use Rattle.std.proofs.lemmas.Int.{ints}
use Rattle.std.proofs.lemmas.List.{length-append, length-take-le, take-append-drop}
use Rattle.lerc_header.specs.declared.fault.BlobReason.{BlobReason}
use Rattle.lerc_header.specs.declared.fault.BlobReason.TheVariants.{FloatPixels}
use Rattle.lerc_header.specs.declared.header.Version.{Version}
use Rattle.lerc_header.specs.declared.header.Version.TheVariants.{V3, V4}
use Rattle.lerc_header.specs.Head.{depth_at, head_length, i32_at, shift}
use Rattle.lerc_header.specs.HeadFaults.{HasKey, HasVersion, IsWithin, field_faults, header_faults, whole_faults}
use Rattle.lerc_header.proofs.FaultLemmas.{in_key_tests, one_version}
use Rattle.lerc_header.proofs.HeadLemmas.{number_once}
use Rattle.lerc_header.proofs.Prefixes.{HaveSame, same_back, same_depth, same_front}
use Rattle.tile_audit.specs.Sums.{IsFloatHead}

-- rows, columns, depth, valid pixels, side, size and type, as they stand in a header
abbrev pub Fields : Type 0
Fields = ℤ × (ℤ × (ℤ × (ℤ × (ℤ × (ℤ × ℤ)))))

abbrev pub fields_at : Version → List ℕ → Fields
fields_at v bytes = (i32_at bytes 14, (i32_at bytes 18, (depth_at v bytes, (i32_at bytes (22 + shift v), (i32_at bytes (26 + shift v), (i32_at bytes (30 + shift v), i32_at bytes (34 + shift v)))))))

-- each passes its test, up to the type, which is one of floating-point numbers
pub record AreFloat (least : ℕ) (f : Fields) : Type 0 where
  pub rows : pos 1 ≤ℤ f.0
  pub cols : pos 1 ≤ℤ f.1.0
  pub depth : IsWithin (pos 1) (pos 65536) f.1.1.0
  pub values : ((f.0 *ℤ f.1.0) *ℤ f.1.1.0) ≤ℤ pos 16777216
  pub count : IsWithin (pos 0) (f.0 *ℤ f.1.0) f.1.1.1.0
  pub side : pos 1 ≤ℤ f.1.1.1.1.0
  pub size : IsWithin (pos least) (pos 134217728) f.1.1.1.1.1.0
  pub kind : ¬ ¬ IsWithin (pos 6) (pos 7) f.1.1.1.1.1.1

-- a header of this version, of which that holds
pub record Found (v : Version) (bytes : List ℕ) (place : ℕ) : Type 0 where
  pub place_is : place ≡ 34 + shift v
  pub key : HasKey bytes
  pub version : HasVersion bytes v
  pub long : head_length v ≤ length bytes
  pub fields : AreFloat (head_length v + 4) (fields_at v bytes)

of_fields : (v : Version) (bytes : List ℕ) (place : ℕ) → HasKey bytes → HasVersion bytes v → head_length v ≤ length bytes → field_faults v bytes place FloatPixels → Found v bytes place
of_fields v bytes place key version long (inr (none, (at, why))) = absurd (let bad : ⊥ = cc in bad)
of_fields v bytes place key version long (inl (rows, inr (none, (at, why)))) = absurd (let bad : ⊥ = cc in bad)
of_fields v bytes place key version long (inl (rows, inl (cols, inr (none, (at, why))))) = absurd (let bad : ⊥ = cc in bad)
of_fields v bytes place key version long (inl (rows, inl (cols, inl (depth, inr (none, (at, why)))))) = absurd (let bad : ⊥ = cc in bad)
of_fields v bytes place key version long (inl (rows, inl (cols, inl (depth, inl (values, inr (none, (at, why))))))) = absurd (let bad : ⊥ = cc in bad)
of_fields v bytes place key version long (inl (rows, inl (cols, inl (depth, inl (values, inl (count, inr (none, (at, why)))))))) = absurd (let bad : ⊥ = cc in bad)
of_fields v bytes place key version long (inl (rows, inl (cols, inl (depth, inl (values, inl (count, inl (side, inr (none, (at, why))))))))) = absurd (let bad : ⊥ = cc in bad)
of_fields v bytes place key version long (inl (rows, inl (cols, inl (depth, inl (values, inl (count, inl (side, inl (size, inr (kind, (at, why)))))))))) =
    record { place_is = at; key = key; version = version; long = long; fields = record { rows = rows; cols = cols; depth = depth; values = values; count = count; side = side; size = size; kind = kind } }
of_fields v bytes place key version long (inl (rows, inl (cols, inl (depth, inl (values, inl (count, inl (side, inl (size, inl (kind, inr (none, (at, why))))))))))) = absurd (let bad : ⊥ = cc in bad)
of_fields v bytes place key version long (inl (rows, inl (cols, inl (depth, inl (values, inl (count, inl (side, inl (size, inl (kind, inl (fits, inr (none, (at, why)))))))))))) = absurd (let bad : ⊥ = cc in bad)
of_fields v bytes place key version long (inl (rows, inl (cols, inl (depth, inl (values, inl (count, inl (side, inl (size, inl (kind, inl (fits, inl (step, inr (none, (at, why))))))))))))) = absurd (let bad : ⊥ = cc in bad)
of_fields v bytes place key version long (inl (rows, inl (cols, inl (depth, inl (values, inl (count, inl (side, inl (size, inl (kind, inl (fits, inl (step, inl (least, inr (none, (at, why)))))))))))))) = absurd (let bad : ⊥ = cc in bad)
of_fields v bytes place key version long (inl (rows, inl (cols, inl (depth, inl (values, inl (count, inl (side, inl (size, inl (kind, inl (fits, inl (step, inl (least, inl (ends, never))))))))))))) = absurd never

of_whole : (v : Version) (bytes : List ℕ) (place : ℕ) → HasKey bytes → HasVersion bytes v → whole_faults v bytes place FloatPixels → Found v bytes place
of_whole v bytes place key version (inr (short, (at, why))) = absurd (let bad : ⊥ = cc in bad)
of_whole v bytes place key version (inl (long, fields)) = of_fields v bytes place key version long fields

-- what the fault of a type of floating-point numbers says
pub found : (bytes : List ℕ) (place : ℕ) → header_faults bytes place FloatPixels → (v : Version) × Found v bytes place
found bytes place (inr (short, (at, why))) = absurd (let bad : ⊥ = cc in bad)
found bytes place (inl (ten, inr (other, (at, why)))) = absurd (let bad : ⊥ = cc in bad)
found bytes place (inl (ten, inl (key, inl (three, whole)))) = (V3, of_whole V3 bytes place key three whole)
found bytes place (inl (ten, inl (key, inr (not, inl (four, whole))))) = (V4, of_whole V4 bytes place key four whole)
found bytes place (inl (ten, inl (key, inr (not, inr (neither, (at, why)))))) = absurd (let bad : ⊥ = cc in bad)

pub found_so : (v : Version) (bytes : List ℕ) → IsFloatHead v bytes → Found v bytes (34 + shift v)
found_so v bytes head =
    let (w, is) = found bytes (34 + shift v) head.float in
    subst (λ (x : Version). Found x bytes (34 + shift v)) (one_version bytes w v is.version head.version) is

pub float_fields : (v : Version) (bytes : List ℕ) (place : ℕ) → Found v bytes place → field_faults v bytes (34 + shift v) FloatPixels
float_fields v bytes place is =
    let f = is.fields in
    inl (f.rows, inl (f.cols, inl (f.depth, inl (f.values, inl (f.count, inl (f.side, inl (f.size, inr (f.kind, (refl, refl)))))))))

pub is_head : (v : Version) (bytes : List ℕ) (place : ℕ) → Found v bytes place → IsFloatHead v bytes
is_head v bytes place is =
    let ten : 10 ≤ length bytes = omega (arith, is.long) in
    record {
      version = is.version;
      float = inl (ten, in_key_tests (λ w. whole_faults w bytes) bytes v is.key is.version (34 + shift v) FloatPixels (inl (is.long, float_fields v bytes place is)));
    }

-- ---- the size

positive : (z : ℤ) → pos 0 ≤ℤ z → (n : ℕ) × (z ≡ pos n)
positive (pos n) up = (n, refl)
positive (negsuc n) up = absurd (omega (arith, ints, up))

-- how many bytes the header says that there are
pub record Sized (v : Version) (bytes : List ℕ) : Type 0 where
  pub size : ℕ
  pub is : i32_at bytes (30 + shift v) ≡ pos size
  pub above : head_length v + 4 ≤ size
  pub long : head_length v ≤ length bytes

pub sized : (v : Version) (bytes : List ℕ) → IsFloatHead v bytes → Sized v bytes
sized v bytes head =
    let is = found_so v bytes head in
    let size = is.fields.size in
    let (n, e) = positive (i32_at bytes (30 + shift v)) (omega (arith, ints, size.0)) in
    record { size = n; is = e; above = omega (arith, ints, size.0, e); long = is.long }

-- ---- the bytes of a header alone say this

same_floats : (v : Version) (a b : List ℕ) → HaveSame (head_length v) a b → head_length v ≤ length b → IsFloatHead v a → IsFloatHead v b
same_floats v a b h long head =
    let is = found_so v a head in
    let same : fields_at v a ≡ fields_at v b = λ i. (
      h.i32 14 (omega arith) i,
      (
        h.i32 18 (omega arith) i,
        (same_depth v a b h i, (h.i32 (22 + shift v) (omega arith) i, (h.i32 (26 + shift v) (omega arith) i, (h.i32 (30 + shift v) (omega arith) i, h.i32 (34 + shift v) (omega arith) i)))),
      ),
    ) in
    is_head v b (34 + shift v) (record {
      place_is = refl;
      key = sym h.key ∙ is.key;
      version = sym (h.i32 6 (omega arith)) ∙ is.version;
      long = long;
      fields = subst (AreFloat (head_length v + 4)) same is.fields;
    })

pub more_floats : (v : Version) (a s : List ℕ) → IsFloatHead v a → IsFloatHead v (a ++ s)
more_floats v a s head =
    let long = (found_so v a head).long in
    same_floats v a (a ++ s) (same_front (head_length v) a s (omega arith) long) (omega (arith, long, length-append a s)) head

pub in_take : (v : Version) (n : ℕ) (bytes : List ℕ) → head_length v ≤ n → n ≤ length bytes → IsFloatHead v bytes → IsFloatHead v (take n bytes)
in_take v n bytes above within head =
    let len = length-take-le n bytes within in
    let front : HaveSame (head_length v) (take n bytes) bytes =
    subst (HaveSame (head_length v) (take n bytes)) (take-append-drop n bytes) (same_front (head_length v) (take n bytes) (drop n bytes) (omega arith) (omega (arith, above, len))) in
    same_floats v bytes (take n bytes) (same_back (head_length v) (take n bytes) bytes front) (omega (arith, above, len)) head

-- the size as it was read
pub same_size : (v : Version) (bytes : List ℕ) (place : ℕ) (z : ℤ) (n : ℕ) (s : Sized v bytes) → place ≡ 30 + shift v → z ≡ i32_at bytes place → z ≡ pos n → n ≡ s.size
same_size v bytes place z n s at is read = number_once n s.size z read (is ∙ ap (λ p. i32_at bytes p) at ∙ s.is)

pub floats_of : (bytes : List ℕ) (place : ℕ) (why : BlobReason) → header_faults bytes place why → why ≡ FloatPixels → (v : Version) × IsFloatHead v bytes
floats_of bytes place why fault is = let (v, f) = found bytes place (subst (λ w. header_faults bytes place w) is fault) in (v, is_head v bytes place f)

pub version_of : (bytes : List ℕ) (place : ℕ) (why : BlobReason) → header_faults bytes place why → why ≡ FloatPixels → (v : Version) × ((place ≡ 34 + shift v) × IsFloatHead v bytes)
version_of bytes place why fault is = let (v, f) = found bytes place (subst (λ w. header_faults bytes place w) is fault) in (v, (f.place_is, is_head v bytes place f))
