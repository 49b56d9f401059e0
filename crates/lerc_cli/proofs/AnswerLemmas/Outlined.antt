-- A blob has an outline, whatever raster is before it: nothing that a reader of outlines finds wrong
-- is wrong with it.
use Rattle.std.proofs.Common.{◌≡◌, ℕ, pos, ◌+◌, ◌*◌, ◌≤◌, Bool, true, false, cond, Option, List, ◌++◌, length, take, drop, refl, sym, ap, ◌∙◌, subst, arith, inl, inr}
use Rattle.std.proofs.lemmas.List.{drop-drop, drop_at, length-drop, take_all}
use Rattle.first_fault.specs.Faults.{wrong}
use Rattle.first_fault.specs.Parts.{IsEmpty}
use Rattle.first_fault.proofs.Parts.{empty-choice}
use Rattle.raster_values.specs.Raster.{Pixels}
use Rattle.raster_values.specs.Flat.{marks_of}
use Rattle.lerc_header.specs.declared.header.Header.{Header}
use Rattle.lerc_header.specs.Head.{i32_at, head_length}
use Rattle.lerc_header.specs.Checksum.{sum_of}
use Rattle.lerc_header.specs.declared.fault.BlobReason.{BlobReason}
use Rattle.lerc_header.specs.declared.fault.BlobReason.TheVariants.{BadChecksum, Truncated}
use Rattle.lerc_header.proofs.FaultLemmas.{empty-header}
use Rattle.lerc_header.proofs.Fronts.{i32_front}
use Rattle.lerc_header.proofs.HeadLemmas.{one_head, number_once}
use Rattle.lerc_grammar.specs.declared.parts.MaskForm.{MaskForm}
use Rattle.lerc_grammar.specs.declared.parts.MaskForm.TheVariants.{Empty as NoneValid, Full, Runs, Previous as Before}
use Rattle.lerc_grammar.specs.Blob.{BlobAfter, BlobParts, IsJoinAfter, blob_faults}
use Rattle.lerc_grammar.specs.Image.{image_faults}
use Rattle.lerc_grammar.specs.Mask.{IsAlike, IsMaskAfter, Previous, alike, count_before, marks_before, mixed, previous}
use Rattle.lerc_grammar.specs.Outline.{IsMaskForm, image_place, image_part_faults}
use Rattle.lerc_grammar.specs.Outlines.{behind_header, form_faults, part_faults, outline_faults}
use Rattle.lerc_grammar.proofs.Blobs.{empty-blob}
use Rattle.lerc_grammar.proofs.Looking.{image_outside, mask_outside}

-- ---- where the image begins

is_alike : (pixels valid : ℕ) (m : Bool) → valid ≡ cond m pixels 0 → IsAlike pixels valid
is_alike pixels valid true e = inr e
is_alike pixels valid false e = inl e

runs_long : (bytes m image : List ℕ) (k len : ℕ) → drop k bytes ≡ m ++ image → 4 ≤ length m → i32_at (drop k bytes) 0 ≡ pos len → i32_at m 0 ≡ pos (length (drop 4 m)) → 4 + len ≡ length m
runs_long bytes m image k len j long number counted =
    let same : i32_at (drop k bytes) 0 ≡ i32_at m 0 = ap (λ u. i32_at u 0) j ∙ i32_front m image 0 (omega (arith, long)) in
    let e : len ≡ length (drop 4 m) = number_once len (length (drop 4 m)) (i32_at (drop k bytes) 0) number (same ∙ counted) in
    omega (arith, e, length-drop 4 m, long)

none_behind : (m : List ℕ) → length m ≡ 4 → length (drop 4 m) ≡ 0
none_behind m long = omega (arith, length-drop 4 m, long)

mask_ends : {before : Option (List Bool)} (h : Header) (bytes m image : List ℕ) (mask : MaskForm) (marks : List Bool) → IsMaskForm h bytes mask → drop (head_length h.version) bytes ≡ m ++ image → IsMaskAfter before (h.rows * h.cols) h.valid m marks
    → image_place h mask ≡ head_length h.version + length m
mask_ends h bytes m image NoneValid marks form j (alike mark is long number same) = ap (λ n. head_length h.version + n) (sym long)
mask_ends h bytes m image Full marks form j (alike mark is long number same) = ap (λ n. head_length h.version + n) (sym long)
mask_ends h bytes m image (Runs at len) marks form j (alike mark is long number same) = absurd (form.0 (is_alike (h.rows * h.cols) h.valid mark is))
mask_ends h bytes m image Before marks form j (alike mark is long number same) = absurd (form.0 (is_alike (h.rows * h.cols) h.valid mark is))
mask_ends h bytes m image NoneValid marks form j (mixed mask other long number runs full same count) = absurd (other (inl form.0))
mask_ends h bytes m image Full marks form j (mixed mask other long number runs full same count) = absurd (other (inr form.1.0))
mask_ends h bytes m image (Runs at len) marks form j (mixed mask other long number runs full same count) =
    let e = runs_long bytes m image (head_length h.version) len j long form.1.1.1.number number in omega (arith, e)
mask_ends h bytes m image Before marks form j (mixed mask other long number runs full same count) = let e = runs_long bytes m image (head_length h.version) 0 j long form.1.number number in omega (arith, e)
mask_ends h bytes m image NoneValid marks form j (previous other long number there count) = absurd (other (inl form.0))
mask_ends h bytes m image Full marks form j (previous other long number there count) = absurd (other (inr form.1.0))
mask_ends h bytes m image (Runs at len) marks form j (previous other long number there count) =
    let e = runs_long bytes m image (head_length h.version) len j (omega (arith, long)) form.1.1.1.number (number ∙ ap pos (sym (none_behind m long))) in omega (arith, e)
mask_ends h bytes m image Before marks form j (previous other long number there count) = ap (λ n. head_length h.version + n) (sym long)

-- ---- what is wrong with an outline is wrong with the blob

image_behind : (n : ℕ) (bytes m image : List ℕ) → drop n bytes ≡ m ++ image → drop (n + length m) bytes ≡ image
image_behind n bytes m image back = sym (drop-drop (length m) n bytes) ∙ ap (drop (length m)) back ∙ drop_at m image (length m) refl

-- how many pixels are valid in the raster before
abbrev counted : Option Previous → Header → Option ℕ
counted before h = count_before (marks_before before h.rows h.cols)

module _ (before : Option Previous) where
  image_wrong : (bytes : List ℕ) (r : Pixels) (h : Header) (p : BlobParts) (mask : MaskForm) (place : ℕ) (reason : BlobReason) → IsJoinAfter before bytes r h p → IsMaskForm h bytes mask
      → drop (head_length h.version) bytes ≡ p.mask ++ p.image → image_part_faults h bytes mask place reason → blob_faults before h bytes place reason
  image_wrong bytes r h p mask place reason j form back (at, (e, w)) =
      let n = head_length h.version in
      let ends = mask_ends h bytes p.mask p.image mask (marks_of r) form back j.mask_of in
      let rest : drop (image_place h mask) bytes ≡ p.image =
      ap (λ k. drop k bytes) ends ∙ image_behind n bytes p.mask p.image back in
      let inside : image_faults h (marks_of r) p.image at reason =
      subst (λ (u : List ℕ). image_faults h (marks_of r) u at reason) rest (image_outside h (marks_of r) (drop (image_place h mask) bytes) at reason w) in
      inl (
        j.head_of.checksum,
        (
          length p.mask + at,
          (
            omega (arith, e, ends),
            inr (record { front = p.mask; rest = p.image; value = marks_of r; joined = back; stands = j.mask_of; later = (at, (refl, inside)) }),
          ),
        ),
      )

  empty-forms : (bytes : List ℕ) (r : Pixels) (h : Header) (p : BlobParts) → IsJoinAfter before bytes r h p → drop (head_length h.version) bytes ≡ p.mask ++ p.image → IsEmpty (form_faults (counted before h) h bytes)
  empty-forms bytes r h p j back place reason (inl (at, (e, w))) =
      empty-blob bytes r h p j place reason (inl (j.head_of.checksum, (at, (e, inl (mask_outside (counted before h) (h.rows * h.cols) h.valid (drop (head_length h.version) bytes) at reason w)))))
  empty-forms bytes r h p j back place reason (inr (mask, (form, w))) = empty-blob bytes r h p j place reason (image_wrong bytes r h p mask place reason j form.0 back w)

  empty-parts : (bytes : List ℕ) (r : Pixels) (h : Header) (p : BlobParts) → IsJoinAfter before bytes r h p → drop (head_length h.version) bytes ≡ p.mask ++ p.image → IsEmpty (part_faults (counted before h) h bytes)
  empty-parts bytes r h p j back =
      empty-choice (h.checksum ≡ sum_of (drop 14 bytes)) (form_faults (counted before h) h bytes) (wrong (BadChecksum h.checksum (sum_of (drop 14 bytes))) 10) j.head_of.checksum (empty-forms bytes r h p j back)

  empty-behind : (bytes : List ℕ) (r : Pixels) (h : Header) (p : BlobParts) → IsJoinAfter before bytes r h p → IsEmpty (behind_header (counted before h) h bytes)
  empty-behind bytes r h p j =
      let back = ap (drop (head_length h.version)) j.joined ∙ drop_at p.head (p.mask ++ p.image) (head_length h.version) j.head_ends in
      let all : take h.size bytes ≡ bytes = take_all h.size bytes (omega (arith, j.head_of.size)) in
      empty-choice (h.size ≤ length bytes) (part_faults (counted before h) h (take h.size bytes)) (wrong Truncated (length bytes)) (omega (arith, j.head_of.size))
      (subst (λ (u : List ℕ). IsEmpty (part_faults (counted before h) h u)) (sym all) (empty-parts bytes r h p j back))

  outlined : (bytes : List ℕ) (r : Pixels) (h : Header) (p : BlobParts) → IsJoinAfter before bytes r h p → IsEmpty (outline_faults (counted before h) bytes)
  outlined bytes r h p j place reason (inl w) = empty-header bytes h j.head_stands place reason w
  outlined bytes r h p j place reason (inr (g, (head, w))) =
      empty-behind bytes r h p j place reason (subst (λ (k : Header). behind_header (counted before h) k bytes place reason) (one_head bytes g h head j.head_stands) w)

  pub blob_outlined : (bytes : List ℕ) (r : Pixels) (count : Option ℕ) → BlobAfter before bytes r → count_before (marks_before before r.rows r.cols) ≡ count → IsEmpty (outline_faults count bytes)
  blob_outlined bytes r count (sound, (h, (p, j))) is =
      let same : counted before h ≡ count = (λ i. count_before (marks_before before (j.head_of.rows i) (j.head_of.cols i))) ∙ is in
      subst (λ (c : Option ℕ). IsEmpty (outline_faults c bytes)) same (outlined bytes r h p j)
