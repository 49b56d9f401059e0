-- The blobs of bands, one after the other: what each says of itself.
use Rattle.std.proofs.Common.{◌≡◌, ℕ, ◌+◌, ◌*◌, cond, ◌&&◌, List, [], ◌∷◌, ◌++◌, length, drop, append_assoc, length-append, Option, None, Some, refl, sym, ap, ◌∙◌, subst, arith}
use Rattle.std.specs.Prelude.{All}
use Rattle.std.specs.List.{concat, slice_get}
use Rattle.std.proofs.lemmas.Bool.{eq-eqb}
use Rattle.std.proofs.lemmas.List.{append-nil, drop_at, drop_more, take-append-le}
use Rattle.std.proofs.lemmas.Option.{get_or_from_slice_get, slice_get_within}
use Rattle.std.proofs.lemmas.List.Elements.{All-cons, All-head, All-tail, All-weaker}
use Rattle.first_fault.specs.Parts.{IsEmpty}
use Rattle.raster_values.specs.Bands.{IsLike}
use Rattle.raster_values.specs.Flat.{marks_of}
use Rattle.raster_values.specs.Raster.{Pixels}
use Rattle.lerc_header.specs.declared.header.Header.{Header}
use Rattle.lerc_header.proofs.HeadLemmas.{one_head}
use Rattle.lerc_header.proofs.Prefixes.{head_more}
use Rattle.lerc_grammar.specs.declared.parts.Outline.{Outline}
use Rattle.lerc_grammar.specs.Blob.{BlobAfter}
use Rattle.lerc_grammar.specs.Mask.{Previous, count_before, count_of, marks_before, previous_of}
use Rattle.lerc_grammar.specs.Outlines.{AreForms, IsOutline, outline_faults}
use Rattle.lerc_grammar.proofs.Counts.{mask_count}
use Rattle.lerc_grammar.proofs.Outlines.{one_outline}
use Rattle.lerc_decode.specs.Reading.{AreBlobs}
use Rattle.lerc_cli.specs.answers.Outline.{AreOutlines}
use Rattle.lerc_cli.specs.inside.Outlines.{AreOfBands}
use Rattle.lerc_cli.proofs.AnswerLemmas.Outlined.{blob_outlined}

-- ---- the blobs that are left

pub next_blob : (blobs : List (List ℕ)) (i : ℕ) (b : List ℕ) → slice_get blobs i ≡ Some b → drop i blobs ≡ b ∷ drop (i + 1) blobs
next_blob blobs i b is = drop_more blobs i b (slice_get_within blobs i b is) ∙ ap (λ (x : List ℕ). x ∷ drop (i + 1) blobs) (get_or_from_slice_get blobs i b b is)

pub record IsShaped (rows cols : ℕ) (r : Pixels) : Type 0 where
  pub rows_are : r.rows ≡ rows
  pub cols_are : r.cols ≡ cols

-- they are of bands of one shape, and so many pixels are valid in the band before them
pub record Rest (before : Option ℕ) (blobs : List (List ℕ)) : Type 0 where
  pub rows : ℕ
  pub cols : ℕ
  pub last : Option Previous
  pub bands : List Pixels
  pub stand : AreBlobs last blobs bands
  pub shaped : All (IsShaped rows cols) bands
  pub counted : count_before (marks_before last rows cols) ≡ before

like_shaped : (r s : Pixels) → IsLike r s → IsShaped r.rows r.cols s
like_shaped r s like = record { rows_are = like.rows; cols_are = like.cols }

pub rest_all : (blobs : List (List ℕ)) → AreOfBands blobs → Rest None blobs
rest_all blobs ([], (are, stand)) = absurd (omega (arith, are.0))
rest_all blobs (r ∷ more, (are, stand)) = record {
  rows = r.rows;
  cols = r.cols;
  last = None;
  bands = r ∷ more;
  stand = stand;
  shaped = All-cons (IsShaped r.rows r.cols) r more (record { rows_are = refl; cols_are = refl }) (All-weaker (IsLike r) (IsShaped r.rows r.cols) (like_shaped r) more are.1.like.0);
  counted = refl;
}

outlined : (before : Option ℕ) (b : List ℕ) (bs : List (List ℕ)) (rows cols : ℕ) (last : Option Previous) (bands : List Pixels) → AreBlobs last (b ∷ bs) bands → All (IsShaped rows cols) bands
    → count_before (marks_before last rows cols) ≡ before → IsEmpty (outline_faults before b)
outlined before b bs rows cols last [] stand shaped counted = absurd stand
outlined before b bs rows cols last (r ∷ more) stand shaped counted =
    let first = All-head (IsShaped rows cols) r more shaped in
    blob_outlined last b r before stand.0 ((λ i. count_before (marks_before last (first.rows_are i) (first.cols_are i))) ∙ counted)

-- nothing is wrong with the next one
pub rest_outlined : (before : Option ℕ) (b : List ℕ) (bs : List (List ℕ)) → Rest before (b ∷ bs) → IsEmpty (outline_faults before b)
rest_outlined before b bs rest = outlined before b bs rest.rows rest.cols rest.last rest.bands rest.stand rest.shaped rest.counted

-- how many of its pixels are valid, and how long it is, is said by its header
pub record SaidBy (before : Option Previous) (b : List ℕ) (r : Pixels) (h : Header) : Type 0 where
  pub valid : count_of (marks_of r) ≡ h.valid
  pub size : h.size ≡ length b

said_by : (before : Option Previous) (b : List ℕ) (r : Pixels) (count : Option ℕ) (o : Outline) → BlobAfter before b r → IsOutline count b o → SaidBy before b r o.header
said_by before b r count o (sound, (h, (p, j))) out =
    subst (λ (k : Header). SaidBy before b r k) (one_head b h o.header j.head_stands out.head)
    (record { valid = mask_count (marks_before before h.rows h.cols) (h.rows * h.cols) h.valid p.mask (marks_of r) j.mask_of; size = j.head_of.size })

-- the marks of a raster of this shape are counted behind it
counted_behind : (r : Pixels) (rows cols : ℕ) → IsShaped rows cols r → count_before (marks_before (Some (previous_of r)) rows cols) ≡ Some (count_of (marks_of r))
counted_behind r rows cols is =
    let e = eq-eqb r.rows rows is.rows_are in
    let f = eq-eqb r.cols cols is.cols_are in λ i. count_before (cond (e i && f i) (Some (marks_of r)) None)

behind : (before : Option ℕ) (b : List ℕ) (bs : List (List ℕ)) (o : Outline) (rows cols : ℕ) (last : Option Previous) (bands : List Pixels) → AreBlobs last (b ∷ bs) bands → All (IsShaped rows cols) bands
    → IsOutline before b o → Rest (Some o.header.valid) bs × (o.header.size ≡ length b)
behind before b bs o rows cols last [] stand shaped out = absurd stand
behind before b bs o rows cols last (r ∷ more) stand shaped out =
    let said = said_by last b r before o stand.0 out in (
      record {
        rows = rows;
        cols = cols;
        last = Some (previous_of r);
        bands = more;
        stand = stand.1;
        shaped = All-tail (IsShaped rows cols) r more shaped;
        counted = counted_behind r rows cols (All-head (IsShaped rows cols) r more shaped) ∙ ap Some said.valid;
      },
      said.size,
    )

pub rest_behind : (before : Option ℕ) (b : List ℕ) (bs : List (List ℕ)) (o : Outline) → Rest before (b ∷ bs) → IsOutline before b o → Rest (Some o.header.valid) bs × (o.header.size ≡ length b)
rest_behind before b bs o rest out = behind before b bs o rest.rows rest.cols rest.last rest.bands rest.stand rest.shaped out

-- ---- the outlines so far

-- with those of the blobs that are left they are those of all
abbrev pub Continues : List (List ℕ) → Option ℕ → List (List ℕ) → List Outline → Type 0
Continues blobs before rest outlines = (more : List Outline) → AreOutlines before (concat rest) more → AreOutlines None (concat blobs) (outlines ++ more)

pub continues_all : (blobs : List (List ℕ)) → Continues blobs None blobs []
continues_all blobs = λ more are. are

-- bytes behind a blob have no part in its outline
outline_longer : (before : Option ℕ) (b rest : List ℕ) (o : Outline) → o.header.size ≡ length b → IsOutline before b o → IsOutline before (b ++ rest) o
outline_longer before b rest o size out = record {
  head = head_more b rest o.header out.head;
  whole = omega (arith, size, length-append b rest);
  forms = subst (λ (u : List ℕ). AreForms before o.header u o.mask o.image) (sym (take-append-le o.header.size b rest (omega (arith, size)))) out.forms;
}

pub continues_next : (blobs : List (List ℕ)) (before : Option ℕ) (b : List ℕ) (bs : List (List ℕ)) (outlines : List Outline) (o : Outline) → o.header.size ≡ length b → IsOutline before b o
    → Continues blobs before (b ∷ bs) outlines → Continues blobs (Some o.header.valid) bs (outlines ++ o ∷ [])
continues_next blobs before b bs outlines o size out so_far = λ more are.
    let one : AreOutlines before (b ++ concat bs) (o ∷ more) =
    (outline_longer before b (concat bs) o size out, subst (λ (u : List ℕ). AreOutlines (Some o.header.valid) u more) (sym (drop_at b (concat bs) o.header.size (sym size))) are) in
    subst (AreOutlines None (concat blobs)) (sym (append_assoc outlines (o ∷ []) more)) (so_far (o ∷ more) one)

pub continues_end : (blobs : List (List ℕ)) (before : Option ℕ) (rest : List (List ℕ)) (outlines : List Outline) → rest ≡ [] → Continues blobs before rest outlines → AreOutlines None (concat blobs) outlines
continues_end blobs before rest outlines none so_far =
    subst (AreOutlines None (concat blobs)) (append-nil outlines) (so_far [] (ap concat none))

-- ---- there is one list of them

not_none : (before : Option ℕ) (bytes : List ℕ) (o : Outline) → bytes ≡ [] → IsOutline before bytes o → ⊥
not_none before bytes o none is = let e = ap length none in omega (arith, is.whole, is.head.size_above, e)

pub one_outlines : (before : Option ℕ) (bytes : List ℕ) (os ps : List Outline) → AreOutlines before bytes os → AreOutlines before bytes ps → os ≡ ps
one_outlines before bytes [] [] a b = refl
one_outlines before bytes [] (p ∷ ps) a b = absurd (not_none before bytes p a b.0)
one_outlines before bytes (o ∷ os) [] a b = absurd (not_none before bytes o b a.0)
one_outlines before bytes (o ∷ os) (p ∷ ps) a b =
    let same = (one_outline before bytes).once o p a.0 b.0 in
    let there = subst (λ (x : Outline). AreOutlines (Some x.header.valid) (drop x.header.size bytes) ps) (sym same) b.1 in
    let others = one_outlines (Some o.header.valid) (drop o.header.size bytes) os ps a.1 there in λ i. same i ∷ others i
