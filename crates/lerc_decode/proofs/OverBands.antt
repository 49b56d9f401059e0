-- A tile decoded into a caller's arrays: one blob behind another.
use Rattle.std.proofs.Common.{◌≡◌, ℕ, ◌+◌, ◌-◌, ◌*◌, ◌<◌, ◌≤◌, ◌&&◌, ◌⊎◌, cond, eq-eqb, List, [], ◌∷◌, length, take, drop, Option, None, Some, Ok, Err, refl, sym, ap, ◌∙◌, subst, arith, inl, inr}
use Rattle.std.specs.Prelude.{Result, IfErr, IfOk}
use Rattle.first_fault.specs.Parts.{HasFault, IsEmpty}
use Rattle.raster_values.specs.Raster.{Pixels}
use Rattle.raster_values.specs.Flat.{marks_of}
use Rattle.raster_cells.specs.Masks.{count_of, marks_in}
use Rattle.lerc_header.specs.declared.header.Header.{Header}
use Rattle.lerc_header.specs.declared.fault.BlobFault.{BlobFault}
use Rattle.lerc_header.specs.declared.fault.BlobReason.{BlobReason}
use Rattle.lerc_header.specs.declared.fault.BlobReason.TheVariants.{Truncated}
use Rattle.lerc_header.specs.Head.{HeadAt, head_length}
use Rattle.lerc_header.proofs.HeadLemmas.{one_head}
use Rattle.lerc_header.proofs.Prefixes.{head_of_take}
use Rattle.lerc_grammar.specs.declared.parts.MaskForm.{MaskForm}
use Rattle.lerc_grammar.specs.declared.bands.BandsFault.{BandsFault}
use Rattle.lerc_grammar.specs.declared.bands.BandReason.TheVariants.{Blob as OfBlob, BadBand}
use Rattle.lerc_grammar.specs.Mask.{IsMaskAfter, Previous, count_before, marks_before}
use Rattle.lerc_grammar.specs.Outline.{IsMaskFormAfter, image_place}
use Rattle.lerc_grammar.specs.Blob.{BlobAfter}
use Rattle.lerc_grammar.specs.Verdict.{FirstFault, FirstFaultAfter, of_key, of_field, of_blob, IsMore, IsMoreAfter}
use Rattle.lerc_grammar.specs.Bands.{HasLikeHead, last_after, unlike, in_blob, unlike_faults}
use Rattle.lerc_grammar.proofs.BandsDecided.{IsHeaderFor, decide_like, no_unlike}
use Rattle.lerc_grammar.proofs.More.{more_body}
use Rattle.lerc_grammar.proofs.Verdicts.{done_head}
use Rattle.lerc_decode.specs.Over.{HoldRaster, IsFaultOf}
use Rattle.lerc_decode.specs.inside.Body.{HasHeadShape, IsMarkedFor, IsMaskFormFor, marks_for}
use Rattle.lerc_decode.specs.inside.OverNext.{HasMaskBefore, HaveOneShape, IsFaultBehind, IsHeldBehind, IsNextBand, IsNextFault, MayFollow}
use Rattle.lerc_decode.proofs.CallersArrays.{head_taken}

-- ---- the mask before

-- a raster with these marks
pub some_before : (h : Header) (bits : List ℕ) → (before : Option Previous) × HasMaskBefore before h bits
some_before h bits =
    let p : Previous = record { rows = h.rows; cols = h.cols; marks = marks_in (h.rows * h.cols) bits } in
    (Some p, λ i. cond (eq-eqb h.rows h.rows refl i && eq-eqb h.cols h.cols refl i) (Some p.marks) None)

pub counted_before : (before : Option Previous) (h : Header) (bits : List ℕ) → HasMaskBefore before h bits → Some (count_of (marks_in (h.rows * h.cols) bits)) ≡ count_before (marks_for before h)
counted_before before h bits is = sym (ap count_before is)

pub form_for : (before : Option Previous) (h : Header) (blob bits : List ℕ) (form : MaskForm) → HasMaskBefore before h bits → IsMaskFormAfter (Some (count_of (marks_in (h.rows * h.cols) bits))) h blob form → IsMaskFormFor before h blob form
form_for before h blob bits form is w = subst (λ (n : Option ℕ). IsMaskFormAfter n h blob form) (counted_before before h bits is) w

pub err_to : {T E : Type 0} {P Q : E → Type 0} → ((f : E) → P f → Q f) → (result : Result T E) → IfErr result P → IfErr result Q
err_to go (Ok x) w = tt
err_to go (Err f) w = go f w

pub ok_to : {T E : Type 0} {P Q : T → Type 0} → ((x : T) → P x → Q x) → (result : Result T E) → IfOk result P → IfOk result Q
ok_to go (Ok x) w = go x w
ok_to go (Err f) w = tt

-- a raster of the header's shape with the marks of the bits
pub marked_by : (before : Option Previous) (h : Header) (blob : List ℕ) (form : MaskForm) (bits : List ℕ) (r : Pixels) → HasHeadShape h r → marks_of r ≡ marks_in (h.rows * h.cols) bits
    → IsMaskAfter (marks_for before h) (h.rows * h.cols) h.valid (take (image_place h form - head_length h.version) (drop (head_length h.version) blob)) (marks_in (h.rows * h.cols) bits) → IsMarkedFor before h blob form r
marked_by before h blob form bits r shape marks m = record {
  shape = shape;
  mask = subst (IsMaskAfter (marks_for before h) (h.rows * h.cols) h.valid (take (image_place h form - head_length h.version) (drop (head_length h.version) blob))) (sym marks) m;
}

-- ---- headers

-- nothing is wrong with a header, so it may come
pub may_come : (bands : List Pixels) (h : Header) → IsEmpty (unlike_faults bands h) → IsHeaderFor bands h
may_come bands h empty = which (decide_like bands h)
  where
    which : IsHeaderFor bands h ⊎ HasFault (unlike_faults bands h) → IsHeaderFor bands h
    which (inl is) = is
    which (inr w) = absurd (empty w.place w.reason w.fault)

-- what may come is of the first band's shape
pub shape_of_first : (r : Pixels) (more : List Pixels) (h : Header) → IsHeaderFor (r ∷ more) h → HasHeadShape h r
shape_of_first r more h (rows, (cols, (depth, (kind, size)))) = record { kind = kind; rows = rows; cols = cols; depth = depth }

pub like_one : (bands : List Pixels) (h g : Header) → HaveOneShape h g → IsHeaderFor bands g → IsHeaderFor bands h
like_one [] h g one is = tt
like_one (r ∷ more) h g one (rows, (cols, (depth, (kind, size)))) =
    let volume : g.rows * g.cols * g.depth ≡ h.rows * h.cols * h.depth = λ i. sym one.rows i * sym one.cols i * sym one.depth i in
    (one.rows ∙ rows, (one.cols ∙ cols, (one.depth ∙ depth, (one.kind ∙ kind, subst (λ (n : ℕ). (2 + length more) * n ≤ 16777216) volume size))))

pub empty_like : (bands : List Pixels) (h g : Header) → HaveOneShape h g → IsEmpty (unlike_faults bands g) → IsEmpty (unlike_faults bands h)
empty_like bands h g one empty = no_unlike bands h (like_one bands h g one (may_come bands g empty))

-- the one header that stands is like the first
pub like_head : (bands : List Pixels) (rest : List ℕ) (h first : Header) → HeadAt rest h → HaveOneShape h first → IsEmpty (unlike_faults bands first) → HasLikeHead bands rest
like_head bands rest h first head one empty = λ g there. subst (λ (k : Header). IsEmpty (unlike_faults bands k)) (one_head rest h g head there) (empty_like bands h first one empty)

pub before_like : (before : Option Previous) (h first : Header) (bits : List ℕ) → HaveOneShape h first → HasMaskBefore before first bits → HasMaskBefore before h bits
before_like before h first bits one is =
    let same : HasMaskBefore before first bits ≡ HasMaskBefore before h bits =
    λ i. marks_before before (sym one.rows i) (sym one.cols i) ≡ Some (marks_in (sym one.rows i * sym one.cols i) bits) in
    subst (λ (T : Type 0). T) same is

-- ---- the next blob

-- a fault of a blob as one of a tile
abbrev pub tiled : BlobFault → BandsFault
tiled f = record { reason = OfBlob f.reason; place = f.place }

pub next_done : (bands : List Pixels) (first h : Header) (rest values mask bits : List ℕ) → MayFollow bands first bits → HeadAt rest h → HaveOneShape h first → h.size ≤ length rest → IsHeldBehind h (take h.size rest) bits values mask → IsNextBand bands first rest h.size values mask
next_done bands first h rest values mask bits may head one long held =
    made (held (last_after None bands) (before_like (last_after None bands) h first bits one may.before))
  where
    made : (r : Pixels) × (BlobAfter (last_after None bands) (take h.size rest) r × HoldRaster r values mask) → IsNextBand bands first rest h.size values mask
    made (r, ((sound, (g, (p, j))), hold)) =
        let same : h ≡ g = one_head (take h.size rest) h g (head_taken rest h head long) j.head_stands in
        record {
          raster = r;
          done = (long, (sound, (g, (p, j))));
          shape = record {
            kind = sym one.kind ∙ ap (λ (k : Header). k.kind) same ∙ j.head_of.kind;
            rows = sym one.rows ∙ ap (λ (k : Header). k.rows) same ∙ j.head_of.rows;
            cols = sym one.cols ∙ ap (λ (k : Header). k.cols) same ∙ j.head_of.cols;
            depth = sym one.depth ∙ ap (λ (k : Header). k.depth) same ∙ j.head_of.depth;
          };
          like = like_head bands rest h first head one may.like;
          held = hold;
        }

-- no header stands
pub next_headless : (bands : List Pixels) (rest : List ℕ) (f : BlobFault) (g : BandsFault) → IsFaultOf rest f → ((h : Header) → ¬ HeadAt rest h) → g ≡ tiled f → IsNextFault bands rest g
next_headless bands rest f g w no_head is = subst (IsNextFault bands rest) (sym is) (which w)
  where
    like : HasLikeHead bands rest
    like = λ h head. absurd (no_head h head)

    there : (before : Option Previous) (p : ℕ) (r : BlobReason) → FirstFault rest p r → FirstFaultAfter before rest p r
    there before p r (of_key long w) = of_key long w
    there before p r (of_field v long key version w) = of_field v long key version w
    there before p r (of_blob h long head w) = absurd (no_head h (head_of_take h.size rest h head))

    back : (before : Option Previous) (p : ℕ) (r : BlobReason) → FirstFaultAfter before rest p r → FirstFault rest p r
    back before p r (of_key long w) = of_key long w
    back before p r (of_field v long key version w) = of_field v long key version w
    back before p r (of_blob h long head w) = absurd (no_head h (head_of_take h.size rest h head))

    more : IsMore rest → IsMoreAfter (last_after None bands) rest
    more m = record {
      no_fault = λ p r w. m.no_fault p r (back (last_after None bands) p r w);
      not_done = λ r size done. let h = done_head {before = last_after None bands} rest r size done in no_head h.0 h.1.0.head;
    }

    which : IsFaultOf rest f → IsNextFault bands rest (tiled f)
    which (inl first) = inl (in_blob f.reason like (there (last_after None bands) f.place f.reason first) refl)
    which (inr (m, cut)) = inr (like, (more m, (ap (λ (x : BlobFault). x.place) cut, ap (λ (x : BlobFault). OfBlob x.reason) cut)))

-- the header that stands is unlike the first
pub next_unlike : (bands : List Pixels) (first h : Header) (rest bits : List ℕ) (place : ℕ) → MayFollow bands first bits → HeadAt rest h → ((r : Pixels) (more : List Pixels) → HasHeadShape first r → unlike_faults (r ∷ more) h place BadBand)
    → IsNextFault bands rest (record { reason = BadBand; place = place })
next_unlike [] first h rest bits place may head w = absurd (omega (arith, may.some))
next_unlike (r ∷ more) first h rest bits place may head w = inl (unlike h head (w r more (shape_of_first r more first (may_come (r ∷ more) first may.like))))

-- it is like the first, and the blob is cut
pub next_cut : (bands : List Pixels) (first h : Header) (rest bits : List ℕ) (f : BlobFault) (g : BandsFault) → MayFollow bands first bits → HeadAt rest h → HaveOneShape h first → length rest < h.size → f ≡ record { reason = Truncated; place = length rest } → g ≡ tiled f → IsNextFault bands rest g
next_cut bands first h rest bits f g may head one short cut is =
    let all : g ≡ tiled (record { reason = Truncated; place = length rest }) = is ∙ ap tiled cut in
    subst (IsNextFault bands rest) (sym all) (inr (like_head bands rest h first head one may.like, (more_body {before = last_after None bands} rest h head short, (refl, refl))))

-- or something behind its header is wrong
pub next_wrong : (bands : List Pixels) (first h : Header) (rest bits : List ℕ) (f : BlobFault) (g : BandsFault) → MayFollow bands first bits → HeadAt rest h → HaveOneShape h first → h.size ≤ length rest → IsFaultBehind h (take h.size rest) bits f → g ≡ tiled f → IsNextFault bands rest g
next_wrong bands first h rest bits f g may head one long w is =
    subst (IsNextFault bands rest) (sym is)
    (inl (in_blob f.reason (like_head bands rest h first head one may.like) (of_blob h long (head_taken rest h head long) (w (last_after None bands) (before_like (last_after None bands) h first bits one may.before))) refl))
