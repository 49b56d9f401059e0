-- A whole blob is made of its parts, and goes wrong where a part of it does.
use Rattle.std.proofs.Common.{◌≡◌, suc, ℕ, ℤ, ◌+◌, ◌-◌, ◌*◌, ◌<◌, ◌≤◌, Bool, true, false, List, [], ◌∷◌, ◌++◌, length, take, drop, replicate, Option, Some, unwrap_or, Ok, Err, refl, sym, ap, ◌∙◌, subst, arith, inl, inr}
use Rattle.std.specs.Prelude.{Result, IfErr, IfOk, OnOk, ◌↔◌}
use Rattle.std.proofs.lemmas.List.{append-nil, append_assoc, length-append, length-drop, length-take-le, take-append-drop, take_rest, drop_at, drop-drop}
use Rattle.first_fault.specs.Faults.{Faults, moved}
use Rattle.first_fault.specs.Parts.{AreBytes}
use Rattle.mask_runs.specs.Runs.{Runs}
use Rattle.mask_runs.specs.Fault.{FirstRunFault, in_run, after_end}
use Rattle.mask_runs.specs.declared.read.RunFault.{RunFault}
use Rattle.raster_cells.specs.PixelType.{bytes_of}
use Rattle.raster_values.specs.Raster.{Pixels, IsRaster, values_of}
use Rattle.raster_values.specs.Flat.{marks_of, EachValid}
use Rattle.raster_cells.specs.Masks.{marks_in}
use Rattle.lerc_header.specs.declared.header.Header.{Header}
use Rattle.lerc_header.specs.declared.fault.BlobReason.{BlobReason}
use Rattle.lerc_header.specs.declared.fault.BlobReason.TheVariants.{BadChecksum, BadRun, BadMaskCount}
use Rattle.lerc_header.specs.declared.fault.BlobFault.{BlobFault}
use Rattle.lerc_header.specs.Head.{HeadAt, head_length}
use Rattle.lerc_header.specs.Checksum.{sum_of}
use Rattle.lerc_grammar.specs.declared.parts.MaskForm.{MaskForm}
use Rattle.lerc_grammar.specs.declared.parts.MaskForm.TheVariants.{Empty as NoneValid, Full, Runs as RunsAt, Previous as Taken}
use Rattle.lerc_grammar.specs.declared.parts.ImageForm.{ImageForm}
use Rattle.lerc_grammar.specs.declared.parts.ImageForm.TheVariants.{Empty as NoImage, Constant, Ranges, Sweep, Blocks, Delta, Plain}
use Rattle.lerc_grammar.specs.Mask.{IsMaskAfter, Previous, count_before, mask_size, count_of, runs_faults, mask_faults}
use Rattle.lerc_grammar.specs.Image.{Ends, IsFront, AreEqual, IsBare, IsCoded, IsImage, empty, constant, ranges, coded, sweep, blocks, one_list, top_of, value_faults, coded_faults, image_faults, sweep_faults, HasMode, greatest_mode, value_count, delta, plain}
use Rattle.lerc_grammar.specs.Blocks.{AreBlocks, all_blocks, blocks_faults}
use Rattle.lerc_grammar.specs.Blob.{BlobAfter, blob_faults}
use Rattle.lerc_grammar.specs.Outline.{HasMaskLength, IsMaskForm, IsImageForm, IsCodedForm, IsFormBytes, HasLists, values_place, image_place, mask_part_faults, image_part_faults}
use Rattle.raster_cells.specs.Values.{AreValues}
use Rattle.lerc_grammar.proofs.Bytes.{bytes_in_drop}
use Rattle.lerc_grammar.proofs.ImageDecided.{none_each}
use Rattle.lerc_grammar.proofs.Lists.{first_list, front_list_long}
use Rattle.std.proofs.Math.Nat.{mul-le-mul_right}
use Rattle.lerc_grammar.proofs.Counts.{mask_count, counted}
use Rattle.lerc_grammar.proofs.MaskDecided.{alike_stands, mixed_stands, taken_stands}
use Rattle.lerc_grammar.proofs.Looking.{mask_outside, mask_inside, image_outside, image_inside, sweep_inside, blocks_inside, codes_inside}
use Rattle.lerc_decode.specs.declared.blob.body.BodyStop.{BodyStop}
use Rattle.lerc_decode.specs.declared.blob.body.BodyStop.TheVariants.{Fault, OutOfMemory}
use Rattle.lerc_header.specs.declared.header.Version.{Version}
use Rattle.lerc_header.specs.declared.header.Version.TheVariants.{V3, V4}
use Rattle.huff_codes.specs.Table.{IsCoding}
use Rattle.lerc_grammar.specs.Codes.{codes_faults}
use Rattle.lerc_grammar.proofs.CodedOnce.{least_mode}
use Rattle.lerc_decode.specs.inside.Codes.{HasDeltas, HasPlain}
use Rattle.lerc_decode.specs.declared.blob.maxima.Maxima.{Maxima}
use Rattle.lerc_decode.specs.inside.Blocks.{HasBlocks}
use Rattle.lerc_decode.specs.inside.Maxima.{AreMaximaOf, HasBoth, top_in}
use Rattle.lerc_decode.proofs.BlockReading.{blocks_same, faults_same}
use Rattle.lerc_decode.specs.inside.Body.{IsFaultIn, IsStopOf, HasHeadShape, IsFilledWith, IsMarkedBy, IsMarkedFor, IsMaskFormFor, IsSwept, KeepsMarks, marks_for}

-- ---- stops

pub stop_map : (f g : Faults BlobReason) → ((p : ℕ) (r : BlobReason) → f p r → g p r) → (stop : BodyStop) → IsStopOf f stop → IsStopOf g stop
stop_map f g go (Fault x) w = go x.place x.reason w
stop_map f g go OutOfMemory w = tt

pub stops_map : {T : Type 0} {f g : Faults BlobReason} → ((p : ℕ) (r : BlobReason) → f p r → g p r) → (result : Result T BodyStop) → IfErr result (IsStopOf f) → IfErr result (IsStopOf g)
stops_map go (Ok x) w = tt
stops_map {f = f} {g = g} go (Err stop) w = stop_map f g go stop w

pub err_map : {T : Type 0} {f g : Faults BlobReason} → ((p : ℕ) (r : BlobReason) → f p r → g p r) → (result : Result T BlobFault) → IfErr result (IsFaultIn f) → IfErr result (IsFaultIn g)
err_map go (Ok x) w = tt
err_map go (Err fault) w = go fault.place fault.reason w

-- what holds of each answer that it is
pub each_ok : {T E : Type 0} {P : T → Type 0} (result : Result T E) → ((x : T) → result ≡ Ok x → P x) → IfOk result P
each_ok (Ok x) h = h x refl
each_ok (Err e) h = tt

pub each_err : {T E : Type 0} {P : E → Type 0} (result : Result T E) → ((e : E) → result ≡ Err e → P e) → IfErr result P
each_err (Ok x) h = tt
each_err (Err e) h = h e refl

pub ok_map : {T E P Q : Type 0} → (P → Q) → (result : Result T E) → OnOk result P → OnOk result Q
ok_map go (Ok x) p = go p
ok_map go (Err stop) p = tt

-- ---- the mask

abbrev rest_of : Header → List ℕ → List ℕ
rest_of h blob = drop (head_length h.version) blob

rest_long : (h : Header) (blob : List ℕ) (n : ℕ) → HasMaskLength h blob n → 4 + n ≤ length (rest_of h blob)
rest_long h blob n m = omega (arith, m.there, length-drop (head_length h.version) blob)

four : (h : Header) → head_length h.version + 4 - head_length h.version ≡ 4
four h = omega arith

pub empty_mask : (before : Option Previous) (h : Header) (blob : List ℕ) (form : MaskForm) (marks : List Bool) → form ≡ NoneValid → IsMaskForm h blob form → marks ≡ replicate (h.rows * h.cols) false
    → IsMaskAfter (marks_for before h) (h.rows * h.cols) h.valid (take (image_place h form - head_length h.version) (rest_of h blob)) marks
empty_mask before h blob form marks is m e =
    let f : IsMaskForm h blob NoneValid = subst (IsMaskForm h blob) is m in
    subst (λ (x : MaskForm). IsMaskAfter (marks_for before h) (h.rows * h.cols) h.valid (take (image_place h x - head_length h.version) (rest_of h blob)) marks) (sym is)
    (subst (λ (n : ℕ). IsMaskAfter (marks_for before h) (h.rows * h.cols) h.valid (take n (rest_of h blob)) marks) (sym (four h))
    (subst (IsMaskAfter (marks_for before h) (h.rows * h.cols) h.valid (take 4 (rest_of h blob))) (sym e)
    (alike_stands (marks_for before h) (h.rows * h.cols) h.valid (rest_of h blob) false (omega (arith, rest_long h blob 0 f.1)) f.0 f.1.number)))

pub full_mask : (before : Option Previous) (h : Header) (blob : List ℕ) (form : MaskForm) (marks : List Bool) → form ≡ Full → IsMaskForm h blob form → marks ≡ replicate (h.rows * h.cols) true
    → IsMaskAfter (marks_for before h) (h.rows * h.cols) h.valid (take (image_place h form - head_length h.version) (rest_of h blob)) marks
full_mask before h blob form marks is m e =
    let f : IsMaskForm h blob Full = subst (IsMaskForm h blob) is m in
    subst (λ (x : MaskForm). IsMaskAfter (marks_for before h) (h.rows * h.cols) h.valid (take (image_place h x - head_length h.version) (rest_of h blob)) marks) (sym is)
    (subst (λ (n : ℕ). IsMaskAfter (marks_for before h) (h.rows * h.cols) h.valid (take n (rest_of h blob)) marks) (sym (four h))
    (subst (IsMaskAfter (marks_for before h) (h.rows * h.cols) h.valid (take 4 (rest_of h blob))) (sym e)
    (alike_stands (marks_for before h) (h.rows * h.cols) h.valid (rest_of h blob) true (omega (arith, rest_long h blob 0 f.1.1)) f.1.0 f.1.1.number)))

-- where the runs stand
runs_there : (h : Header) (blob : List ℕ) (place n : ℕ) → place ≡ head_length h.version + 4 → take (place + n - place) (drop place blob) ≡ take n (drop 4 (rest_of h blob))
runs_there h blob place n is =
    ap (λ k. take k (drop place blob)) (let t : place + n - place ≡ n = omega arith in t) ∙ ap (λ k. take n (drop k blob)) is ∙ ap (take n) (sym (drop-drop 4 (head_length h.version) blob))

pub runs_mask : (before : Option Previous) (h : Header) (blob : List ℕ) (form : MaskForm) (marks : List Bool) (at len place : ℕ) → form ≡ RunsAt at len → IsMaskForm h blob form → place ≡ head_length h.version + 4
    → IsMarkedBy (h.rows * h.cols) h.valid (take (place + len - place) (drop place blob)) marks
    → IsMaskAfter (marks_for before h) (h.rows * h.cols) h.valid (take (image_place h form - head_length h.version) (rest_of h blob)) marks
runs_mask before h blob form marks at len place is m place_is b =
    let f : IsMaskForm h blob (RunsAt at len) = subst (IsMaskForm h blob) is m in
    let runs : Runs (take len (drop 4 (rest_of h blob))) b.mask = subst (λ (u : List ℕ). Runs u b.mask) (runs_there h blob place len place_is) b.runs_of in
    subst (λ (x : MaskForm). IsMaskAfter (marks_for before h) (h.rows * h.cols) h.valid (take (image_place h x - head_length h.version) (rest_of h blob)) marks) (sym is)
    (subst (λ (n : ℕ). IsMaskAfter (marks_for before h) (h.rows * h.cols) h.valid (take n (rest_of h blob)) marks) (let t : 4 + len ≡ head_length h.version + 4 + len - head_length h.version = omega arith in t)
    (subst (IsMaskAfter (marks_for before h) (h.rows * h.cols) h.valid (take (4 + len) (rest_of h blob))) (sym b.marks_are)
    (mixed_stands (marks_for before h) (h.rows * h.cols) h.valid (rest_of h blob) b.mask len f.0 f.1.1.1.number (rest_long h blob len f.1.1.1) runs b.size b.count)))

pub runs_fault : (before : Option Previous) (h : Header) (blob : List ℕ) (form : MaskForm) (at len place p : ℕ) (reason : BlobReason) → form ≡ RunsAt at len → IsMaskForm h blob form → place ≡ head_length h.version + 4
    → moved place (runs_faults (h.rows * h.cols) h.valid (take (place + len - place) (drop place blob))) p reason
    → moved (head_length h.version) (mask_faults (count_before (marks_for before h)) (h.rows * h.cols) h.valid (rest_of h blob)) p reason
runs_fault before h blob form at len place p reason is m place_is (q, (e, w)) =
    let f : IsMaskForm h blob (RunsAt at len) = subst (IsMaskForm h blob) is m in
    let there = subst (λ (u : List ℕ). runs_faults (h.rows * h.cols) h.valid u q reason) (runs_there h blob place len place_is) w in
    (4 + q, (omega (arith, e, place_is), mask_inside (count_before (marks_for before h)) (h.rows * h.cols) h.valid (rest_of h blob) len q reason f.0 f.1.1.1.number f.1.1.0 (rest_long h blob len f.1.1.1) there))

pub previous_mask : (before : Option Previous) (h : Header) (blob : List ℕ) (form : MaskForm) (marks : List Bool) → form ≡ Taken → IsMaskFormFor before h blob form → marks_for before h ≡ Some marks
    → IsMaskAfter (marks_for before h) (h.rows * h.cols) h.valid (take (image_place h form - head_length h.version) (rest_of h blob)) marks
previous_mask before h blob form marks is m there =
    let f : IsMaskFormFor before h blob Taken = subst (IsMaskFormFor before h blob) is m in
    let count : count_of marks ≡ h.valid = ap (λ (o : Option ℕ). unwrap_or o 0) (ap count_before (sym there) ∙ f.1) in
    subst (λ (x : MaskForm). IsMaskAfter (marks_for before h) (h.rows * h.cols) h.valid (take (image_place h x - head_length h.version) (rest_of h blob)) marks) (sym is)
    (subst (λ (n : ℕ). IsMaskAfter (marks_for before h) (h.rows * h.cols) h.valid (take n (rest_of h blob)) marks) (sym (four h))
    (subst (λ (b : Option (List Bool)). IsMaskAfter b (h.rows * h.cols) h.valid (take 4 (rest_of h blob)) marks) (sym there)
    (taken_stands marks (h.rows * h.cols) h.valid (rest_of h blob) (omega (arith, rest_long h blob 0 f.0.1)) f.0.0 f.0.1.number count)))

-- what the reader of the runs finds
pub run_within : (bytes : List ℕ) (n p : ℕ) → FirstRunFault bytes n p → p ≤ length bytes
run_within bytes n p (in_run mask within joined short wrong) = within
run_within bytes n p (after_end mask within runs full) = omega (arith, within)

pub run_place : {T : Type 0} (n : ℕ) (runs : List ℕ) (f : RunFault) (result : Result T RunFault) → ((k : ℕ) → (result ≡ Err (record { at = k })) ↔ FirstRunFault runs n k) → result ≡ Err f → f.at ≤ length runs
run_place n runs f result exact is = run_within runs n f.at ((exact f.at).0 is)

pub bad_run : {T : Type 0} (pixels valid place n : ℕ) (runs : List ℕ) (f : RunFault) (result : Result T RunFault) → ((k : ℕ) → (result ≡ Err (record { at = k })) ↔ FirstRunFault runs n k) → result ≡ Err f → n ≡ mask_size pixels
    → moved place (runs_faults pixels valid runs) (place + f.at) BadRun
bad_run pixels valid place n runs f result exact is size = (f.at, (refl, inl (subst (λ k. FirstRunFault runs k f.at) size ((exact f.at).0 is), refl)))

pub bad_count : (pixels valid place found : ℕ) (runs mask : List ℕ) → Runs runs mask → length mask ≡ mask_size pixels → found ≡ count_of (marks_in pixels mask) → ¬ (found ≡ valid)
    → moved place (runs_faults pixels valid runs) place (BadMaskCount valid found)
bad_count pixels valid place found runs mask r size is other =
    (0, ((let t : place ≡ place + 0 = omega arith in t), inr (mask, (r, (size, inr ((λ e. other (is ∙ e)), (refl, ap (BadMaskCount valid) is)))))))

-- ---- a blob

pub mask_stop : (before : Option Previous) (h : Header) (blob : List ℕ) (p : ℕ) (reason : BlobReason) → h.checksum ≡ sum_of (drop 14 blob) → moved (head_length h.version) (mask_faults (count_before (marks_for before h)) (h.rows * h.cols) h.valid (rest_of h blob)) p reason → blob_faults before h blob p reason
mask_stop before h blob p reason sum (q, (e, w)) = inl (sum, (q, (e, inl w)))

pub mask_part_stop : (before : Option Previous) (h : Header) (blob : List ℕ) (p : ℕ) (reason : BlobReason) → h.checksum ≡ sum_of (drop 14 blob) → mask_part_faults (count_before (marks_for before h)) h blob p reason → blob_faults before h blob p reason
mask_part_stop before h blob p reason sum (q, (e, w)) = inl (sum, (q, (e, inl (mask_outside (count_before (marks_for before h)) (h.rows * h.cols) h.valid (rest_of h blob) q reason w))))

place_above : (h : Header) (form : MaskForm) → head_length h.version ≤ image_place h form
place_above h NoneValid = omega arith
place_above h Full = omega arith
place_above h (RunsAt at len) = omega arith
place_above h Taken = omega arith

place_within : (h : Header) (blob : List ℕ) (form : MaskForm) → IsMaskForm h blob form → image_place h form ≤ length blob
place_within h blob NoneValid m = omega (arith, m.1.there)
place_within h blob Full m = omega (arith, m.1.1.there)
place_within h blob (RunsAt at len) m = omega (arith, m.1.1.1.there)
place_within h blob Taken m = omega (arith, m.1.there)

pub image_stop : (before : Option Previous) (h : Header) (blob : List ℕ) (form : MaskForm) (marks : List Bool) (p : ℕ) (reason : BlobReason) → h.checksum ≡ sum_of (drop 14 blob) → IsMaskForm h blob form
    → IsMaskAfter (marks_for before h) (h.rows * h.cols) h.valid (take (image_place h form - head_length h.version) (rest_of h blob)) marks
    → moved (image_place h form) (image_faults h marks (drop (image_place h form) blob)) p reason → blob_faults before h blob p reason
image_stop before h blob form marks p reason sum m mask (q, (e, w)) =
    let n = head_length h.version in
    let used = image_place h form - n in
    let above = place_above h form in
    let within = place_within h blob form m in
    let size : length (take used (rest_of h blob)) ≡ used = length-take-le used (rest_of h blob) (omega (arith, above, within, length-drop n blob)) in
    let back : drop (image_place h form) blob ≡ drop used (rest_of h blob) = ap (λ k. drop k blob) (let t : image_place h form ≡ n + used = omega (arith, above) in t) ∙ sym (drop-drop used n blob) in
    inl (
      sum,
      (
        used + q,
        (
          (let t : p ≡ n + (used + q) = omega (arith, e, above) in t),
          inr (record {
            front = take used (rest_of h blob);
            rest = drop used (rest_of h blob);
            value = marks;
            joined = sym (take-append-drop used (rest_of h blob));
            stands = mask;
            later = (q, (ap (λ k. k + q) (sym size), subst (λ (u : List ℕ). image_faults h marks u q reason) back w));
          }),
        ),
      ),
    )

pub image_part_stop : (before : Option Previous) (h : Header) (blob : List ℕ) (form : MaskForm) (marks : List Bool) (p : ℕ) (reason : BlobReason) → h.checksum ≡ sum_of (drop 14 blob) → IsMaskForm h blob form
    → IsMaskAfter (marks_for before h) (h.rows * h.cols) h.valid (take (image_place h form - head_length h.version) (rest_of h blob)) marks
    → image_part_faults h blob form p reason → blob_faults before h blob p reason
image_part_stop before h blob form marks p reason sum m mask (q, (e, w)) =
    image_stop before h blob form marks p reason sum m mask (q, (e, image_outside h marks (drop (image_place h form) blob) q reason w))

pub blob_made : (before : Option Previous) (h : Header) (blob : List ℕ) (form : MaskForm) (old r : Pixels) → HeadAt blob h → length blob ≡ h.size → h.checksum ≡ sum_of (drop 14 blob) → IsMaskForm h blob form
    → IsRaster r → HasHeadShape h old → KeepsMarks old r
    → IsMaskAfter (marks_for before h) (h.rows * h.cols) h.valid (take (image_place h form - head_length h.version) (rest_of h blob)) (marks_of old)
    → IsImage h (drop (image_place h form) blob) r → BlobAfter before blob r
blob_made before h blob form old r head size sum m sound shape keeps mask image =
    let n = head_length h.version in
    let used = image_place h form - n in
    let above = place_above h form in
    let there = subst (IsMaskAfter (marks_for before h) (h.rows * h.cols) h.valid (take used (rest_of h blob))) keeps.marks mask in
    let back : drop used (rest_of h blob) ≡ drop (image_place h form) blob = drop-drop used n blob ∙ ap (λ k. drop k blob) (let t : n + used ≡ image_place h form = omega (arith, above) in t) in (
      sound,
      (
        h,
        (
          record { head = take n blob; mask = take used (rest_of h blob); image = drop (image_place h form) blob },
          record {
            joined = sym (take-append-drop n blob) ∙ ap (λ (u : List ℕ). take n blob ++ u) (sym (take-append-drop used (rest_of h blob)) ∙ ap (λ (u : List ℕ). take used (rest_of h blob) ++ u) back);
            head_ends = length-take-le n blob head.long;
            head_stands = head;
            head_of = record {
              kind = shape.kind ∙ keeps.kind;
              rows = shape.rows ∙ keeps.rows;
              cols = shape.cols ∙ keeps.cols;
              depth = shape.depth ∙ keeps.depth;
              valid = sym (mask_count (marks_for before h) (h.rows * h.cols) h.valid (take used (rest_of h blob)) (marks_of r) there) ∙ sym (counted r.pixels);
              size = sym size;
              checksum = sum;
            };
            mask_of = there;
            image_of = image;
          },
        ),
      ),
    )

-- ---- the image

abbrev image_of : Header → List ℕ → MaskForm → List ℕ
image_of h blob mask = drop (image_place h mask) blob

pub image_empty : (h : Header) (blob : List ℕ) (mask : MaskForm) (form : ImageForm) (r : Pixels) → form ≡ NoImage → IsImageForm h blob mask form → count_of (marks_of r) ≡ h.valid → IsImage h (image_of h blob mask) r
image_empty h blob mask form r is m count =
    let f : IsImageForm h blob mask NoImage = subst (IsImageForm h blob mask) is m in
    empty f.0 f.1 (none_each r (count ∙ f.0))

pub image_constant : (h : Header) (blob : List ℕ) (mask : MaskForm) (form : ImageForm) (r : Pixels) → form ≡ Constant → IsImageForm h blob mask form → EachValid r (λ values. values ≡ replicate h.depth h.least) → IsImage h (image_of h blob mask) r
image_constant h blob mask form r is m each =
    let f : IsImageForm h blob mask Constant = subst (IsImageForm h blob mask) is m in
    constant f.0 f.1.0 f.1.1 each

bytes_behind : (n : ℕ) (blob : List ℕ) → AreBytes blob → AreBytes (drop n blob)
bytes_behind n blob are = bytes_in_drop n blob are

-- where the first list stands
pub record RangesThere (h : Header) (blob : List ℕ) (mask : MaskForm) (size : ℕ) : Type 0 where
  pub room : size + size ≤ length blob
  pub place : length blob - 2 * size ≡ image_place h mask
  pub front : Option Ends
  pub equal : AreEqual front
  pub bare : ¬ IsBare h
  pub stands : IsFront h h.version (image_of h blob mask) front

pub ranges_there : (h : Header) (blob : List ℕ) (mask : MaskForm) (form : ImageForm) (size : ℕ) → form ≡ Ranges → IsMaskForm h blob mask → IsImageForm h blob mask form → size ≡ h.depth * bytes_of h.kind → RangesThere h blob mask size
ranges_there h blob mask form size is mm m size_is =
    let f : IsImageForm h blob mask Ranges = subst (IsImageForm h blob mask) is m in
    let l = f.1.1.1 in
    let stands : IsFront h h.version (image_of h blob mask) f.1.0 = subst (λ (u : List ℕ). IsFront h h.version u f.1.0) (sym (append-nil l.lists) ∙ sym l.joined) l.stand in
    let long : length (image_of h blob mask) ≡ size + size = front_list_long h (image_of h blob mask) f.1.0 stands f.1.1.0 ∙ sym (λ i. size_is i + size_is i) in
    record {
      room = omega (arith, long, length-drop (image_place h mask) blob);
      place = omega (arith, long, length-drop (image_place h mask) blob, place_within h blob mask mm);
      front = f.1.0;
      equal = f.1.1.0;
      bare = f.0;
      stands = stands;
    }

pub image_ranges : (h : Header) (blob : List ℕ) (mask : MaskForm) (size place : ℕ) (r : Pixels) → AreBytes blob → (t : RangesThere h blob mask size) → size ≡ h.depth * bytes_of h.kind → place ≡ length blob - 2 * size
    → IsFilledWith h.kind (take (place + size - place) (drop place blob)) r → IsImage h (image_of h blob mask) r
image_ranges h blob mask size place r are t size_is place_is f =
    let bytes : take (place + size - place) (drop place blob) ≡ take (h.depth * bytes_of h.kind) (image_of h blob mask) =
    ap (λ n. take n (drop place blob)) ((let s : place + size - place ≡ size = omega arith in s) ∙ size_is) ∙ ap (λ n. take (h.depth * bytes_of h.kind) (drop n blob)) (place_is ∙ t.place) in
    let list : f.list ≡ one_list t.front = first_list h (image_of h blob mask) t.front f.list (bytes_behind (image_place h mask) blob are) t.stands t.equal (subst (λ (u : List ℕ). AreValues h.kind u f.list) bytes f.stands) in
    ranges t.bare t.front t.stands t.equal (subst (λ (u : List ℤ). EachValid r (λ values. values ≡ u)) list f.each)

-- where coded values stand
pub record CodedThere (h : Header) (blob : List ℕ) (mask : MaskForm) (form : ImageForm) (at : ℕ) : Type 0 where
  pub within : at ≤ length blob
  pub bare : ¬ IsBare h
  pub front : Option Ends
  pub other : ¬ AreEqual front
  pub tell : List ℕ
  pub values : List ℕ
  pub lists : HasLists h (image_of h blob mask) front (tell ++ values)
  pub tells : IsFormBytes h tell form
  pub there : drop at blob ≡ values
  pub place : at ≡ image_place h mask + (length lists.lists + length tell)

pub coded_there : (h : Header) (blob : List ℕ) (mask : MaskForm) (form : ImageForm) (at : ℕ) → values_place form ≡ at → IsMaskForm h blob mask → IsCodedForm h (length blob) (image_of h blob mask) form → CodedThere h blob mask form at
coded_there h blob mask form at is mm c =
    let l = c.lists in
    let place = image_place h mask in
    let long : length (image_of h blob mask) ≡ length l.lists + (length c.tell + length c.values) = ap length l.joined ∙ length-append l.lists (c.tell ++ c.values) ∙ ap (λ n. length l.lists + n) (length-append c.tell c.values) in
    let at_is : at ≡ place + (length l.lists + length c.tell) = omega (arith, c.place, is, long, length-drop place blob, place_within h blob mask mm) in
    let front : length (l.lists ++ c.tell) ≡ length l.lists + length c.tell = length-append l.lists c.tell in
    let joined : image_of h blob mask ≡ (l.lists ++ c.tell) ++ c.values = l.joined ∙ sym (append_assoc l.lists c.tell c.values) in
    record {
      within = omega (arith, c.place, is);
      bare = c.bare;
      front = c.front;
      other = c.other;
      tell = c.tell;
      values = c.values;
      lists = l;
      tells = c.tells;
      there = ap (λ n. drop n blob) at_is ∙ sym (drop-drop (length l.lists + length c.tell) place blob) ∙ ap (drop (length l.lists + length c.tell)) joined ∙ drop_at (l.lists ++ c.tell) c.values (length l.lists + length c.tell) front;
      place = at_is;
    }

pub sweep_there : (h : Header) (blob : List ℕ) (mask : MaskForm) (form : ImageForm) (at : ℕ) → form ≡ Sweep at → IsMaskForm h blob mask → IsImageForm h blob mask form → CodedThere h blob mask (Sweep at) at
sweep_there h blob mask form at is mm m = coded_there h blob mask (Sweep at) at refl mm (subst (IsImageForm h blob mask) is m)

behind_place : (h : Header) (blob : List ℕ) (mask : MaskForm) (form : ImageForm) (at : ℕ) (t : CodedThere h blob mask form at) → take (length blob - at) (drop at blob) ≡ t.values
behind_place h blob mask form at t = take_rest blob at ∙ t.there

pub image_coded : (h : Header) (blob : List ℕ) (mask : MaskForm) (form : ImageForm) (at : ℕ) (r : Pixels) (t : CodedThere h blob mask form at) → IsCoded h t.front (t.tell ++ t.values) r → IsImage h (image_of h blob mask) r
image_coded h blob mask form at r t c = coded t.bare t.lists.lists (t.tell ++ t.values) t.front t.lists.joined t.lists.stand t.other c

pub coded_fault : (h : Header) (blob : List ℕ) (mask : MaskForm) (form : ImageForm) (marks : List Bool) (at q p : ℕ) (reason : BlobReason) (t : CodedThere h blob mask form at) → p ≡ at + q
    → coded_faults (value_faults h marks t.front) h (t.tell ++ t.values) (length t.tell + q) reason → moved (image_place h mask) (image_faults h marks (image_of h blob mask)) p reason
coded_fault h blob mask form marks at q p reason t e w =
    (length t.lists.lists + (length t.tell + q), (omega (arith, e, t.place), image_inside h marks (image_of h blob mask) (t.tell ++ t.values) t.front (length t.tell + q) reason t.bare t.other t.lists w))

pub image_sweep : (h : Header) (blob : List ℕ) (mask : MaskForm) (at : ℕ) (r : Pixels) (t : CodedThere h blob mask (Sweep at) at) → IsSwept h (take (length blob - at) (drop at blob)) r → IsImage h (image_of h blob mask) r
image_sweep h blob mask at r t s =
    image_coded h blob mask (Sweep at) at r t
    (sweep t.values (ap (λ (u : List ℕ). u ++ t.values) t.tells) (subst (λ (u : List ℕ). AreValues h.kind u (values_of r.pixels)) (behind_place h blob mask (Sweep at) at t) s.stands) s.count)

pub sweep_fault : (h : Header) (blob : List ℕ) (mask : MaskForm) (marks : List Bool) (at : ℕ) (t : CodedThere h blob mask (Sweep at) at) → (p : ℕ) (reason : BlobReason)
    → moved at (sweep_faults h (take (length blob - at) (drop at blob))) p reason → moved (image_place h mask) (image_faults h marks (image_of h blob mask)) p reason
sweep_fault h blob mask marks at t p reason (q, (e, w)) =
    coded_fault h blob mask (Sweep at) marks at q p reason t e
    (subst (λ (u : List ℕ). coded_faults (value_faults h marks t.front) h (u ++ t.values) (length u + q) reason) (sym t.tells)
    (sweep_inside (value_faults h marks t.front) h t.values q reason (subst (λ (u : List ℕ). sweep_faults h u q reason) (behind_place h blob mask (Sweep at) at t) w)))

-- ---- blocks

pub image_blocks : (h : Header) (blob : List ℕ) (mask : MaskForm) (at : ℕ) (old r : Pixels) (maxima : Maxima) (t : CodedThere h blob mask (Blocks at) at) → 0 < h.depth → KeepsMarks old r
    → AreMaximaOf h (image_of h blob mask) maxima → HasBlocks h (marks_of old) maxima (take (length blob - at) (drop at blob)) r → IsImage h (image_of h blob mask) r
image_blocks h blob mask at old r maxima t some keeps are b =
    let values = behind_place h blob mask (Blocks at) at t in
    image_coded h blob mask (Blocks at) at r t
    (blocks t.tells.0 t.values (ap (λ (u : List ℕ). u ++ t.values) t.tells.1.1) t.tells.1.0 b.side
    (subst (λ (ms : List Bool). AreBlocks h ms (top_of h t.front) t.values (all_blocks h r)) keeps.marks
    (blocks_same h (marks_of old) (top_in h maxima) (top_of h t.front) t.values (all_blocks h r) some (are.each t.front (t.tell ++ t.values) t.lists)
    (subst (λ (u : List ℕ). AreBlocks h (marks_of old) (top_in h maxima) u (all_blocks h r)) values b.stand))))

pub blocks_fault : (h : Header) (blob : List ℕ) (mask : MaskForm) (marks : List Bool) (at : ℕ) (maxima : Maxima) (t : CodedThere h blob mask (Blocks at) at) → 0 < h.depth
    → AreMaximaOf h (image_of h blob mask) maxima → (p : ℕ) (reason : BlobReason) → moved at (blocks_faults h marks (top_in h maxima) (take (length blob - at) (drop at blob))) p reason
    → moved (image_place h mask) (image_faults h marks (image_of h blob mask)) p reason
blocks_fault h blob mask marks at maxima t some are p reason (q, (e, w)) =
    let values = behind_place h blob mask (Blocks at) at t in
    let mode = t.tells.0 in
    let there : blocks_faults h marks (top_of h t.front) t.values q reason =
    faults_same h marks (top_in h maxima) (top_of h t.front) t.values q reason some (are.each t.front (t.tell ++ t.values) t.lists) (subst (λ (u : List ℕ). blocks_faults h marks (top_in h maxima) u q reason) values w) in
    coded_fault h blob mask (Blocks at) marks at q p reason t e
    (subst (λ (u : List ℕ). coded_faults (value_faults h marks t.front) h (u ++ t.values) (length u + q) reason) (sym t.tells.1.1)
    (subst (λ (n : ℕ). coded_faults (value_faults h marks t.front) h (0 ∷ (mode ++ t.values)) n reason) (let s : 1 + (length mode + q) ≡ suc (length mode) + q = omega arith in s)
    (blocks_inside (value_faults h marks t.front) h mode t.values q reason t.tells.1.0 there)))

-- ---- codes

pub image_deltas : (h : Header) (blob : List ℕ) (mask : MaskForm) (at : ℕ) (r : Pixels) (t : CodedThere h blob mask (Delta at) at) → HasDeltas h (take (length blob - at) (drop at blob)) r → IsImage h (image_of h blob mask) r
image_deltas h blob mask at r t d =
    image_coded h blob mask (Delta at) at r t
    (delta t.values d.symbols (ap (λ (u : List ℕ). u ++ t.values) t.tells.1) t.tells.0 (subst (λ (u : List ℕ). IsCoding (value_count h) u d.symbols) (behind_place h blob mask (Delta at) at t) d.coding) d.deltas)

pub image_plain : (h : Header) (blob : List ℕ) (mask : MaskForm) (at : ℕ) (r : Pixels) (t : CodedThere h blob mask (Plain at) at) → HasPlain h (take (length blob - at) (drop at blob)) r → IsImage h (image_of h blob mask) r
image_plain h blob mask at r t d =
    image_coded h blob mask (Plain at) at r t
    (plain t.values d.symbols (ap (λ (u : List ℕ). u ++ t.values) t.tells.1.1) t.tells.0 t.tells.1.0 (subst (λ (u : List ℕ). IsCoding (value_count h) u d.symbols) (behind_place h blob mask (Plain at) at t) d.coding) d.plain)

-- the mode of codes
codes_fault_at : (h : Header) (blob : List ℕ) (mask : MaskForm) (form : ImageForm) (marks : List Bool) (at mode : ℕ) (t : CodedThere h blob mask form at) → t.tell ≡ 0 ∷ mode ∷ [] → HasMode h → mode ≤ greatest_mode h.version → ¬ (mode ≡ 0)
    → (p : ℕ) (reason : BlobReason) → moved at (codes_faults (value_count h) (take (length blob - at) (drop at blob))) p reason → moved (image_place h mask) (image_faults h marks (image_of h blob mask)) p reason
codes_fault_at h blob mask form marks at mode t tell has low some p reason (q, (e, w)) =
    coded_fault h blob mask form marks at q p reason t e
    (subst (λ (u : List ℕ). coded_faults (value_faults h marks t.front) h (u ++ t.values) (length u + q) reason) (sym tell)
    (subst (λ (n : ℕ). coded_faults (value_faults h marks t.front) h (0 ∷ mode ∷ t.values) n reason) (let s : 1 + (1 + q) ≡ 2 + q = omega arith in s)
    (codes_inside (value_faults h marks t.front) h mode t.values q reason has low some (subst (λ (u : List ℕ). codes_faults (value_count h) u q reason) (behind_place h blob mask form at t) w))))

pub deltas_fault : (h : Header) (blob : List ℕ) (mask : MaskForm) (marks : List Bool) (at : ℕ) (t : CodedThere h blob mask (Delta at) at) → (p : ℕ) (reason : BlobReason)
    → moved at (codes_faults (value_count h) (take (length blob - at) (drop at blob))) p reason → moved (image_place h mask) (image_faults h marks (image_of h blob mask)) p reason
deltas_fault h blob mask marks at t = codes_fault_at h blob mask (Delta at) marks at 1 t t.tells.1 t.tells.0 (least_mode h.version) (λ e. absurd (omega (arith, e)))

pub plain_fault : (h : Header) (blob : List ℕ) (mask : MaskForm) (marks : List Bool) (at : ℕ) (t : CodedThere h blob mask (Plain at) at) → (p : ℕ) (reason : BlobReason)
    → moved at (codes_faults (value_count h) (take (length blob - at) (drop at blob))) p reason → moved (image_place h mask) (image_faults h marks (image_of h blob mask)) p reason
plain_fault h blob mask marks at t =
    codes_fault_at h blob mask (Plain at) marks at 2 t t.tells.1.1 t.tells.0 (subst (λ (v : Version). 2 ≤ greatest_mode v) (sym t.tells.1.0) (omega arith)) (λ e. absurd (omega (arith, e)))

front_long : (h : Header) (v : Version) (lists : List ℕ) (front : Option Ends) → v ≡ V4 → IsFront h v lists front → length lists ≡ h.depth * bytes_of h.kind + h.depth * bytes_of h.kind
front_long h V3 lists front is f = absurd (cc)
front_long h V4 lists front is (e, (some, (l, (g, v)))) =
    let count : length (e.least ++ e.greatest) ≡ h.depth + h.depth = omega (arith, length-append e.least e.greatest, l, g) in
    v.size ∙ ap (λ k. k * bytes_of h.kind) count ∙ (let t : (h.depth + h.depth) * bytes_of h.kind ≡ h.depth * bytes_of h.kind + h.depth * bytes_of h.kind = omega arith in t)

pub both_there : (h : Header) (blob : List ℕ) (mask : MaskForm) (form : ImageForm) (at : ℕ) → CodedThere h blob mask form at → HasBoth h (image_of h blob mask)
both_there h blob mask form at t = λ is.
    let long = front_long h h.version t.lists.lists t.front is t.lists.stand in
    omega (arith, long, ap length t.lists.joined, length-append t.lists.lists (t.tell ++ t.values))

pub few_values : (blob : List ℕ) (h : Header) → HeadAt blob h → h.valid * h.depth ≤ 16777216
few_values blob h head =
    let a : h.valid * h.depth ≤ h.rows * h.cols * h.depth = mul-le-mul_right h.depth head.valid_below in
    omega (arith, a, head.shape.size)

-- the checksum does not stand
pub bad_sum : (before : Option Previous) (h : Header) (blob : List ℕ) (computed : ℕ) → computed ≡ sum_of (drop 14 blob) → ¬ (h.checksum ≡ computed) → blob_faults before h blob 10 (BadChecksum h.checksum computed)
bad_sum before h blob computed is other = inr ((λ e. other (e ∙ sym is)), (refl, ap (BadChecksum h.checksum) is))

pub mask_form_stop : {T : Type 0} (before : Option Previous) (h : Header) (blob : List ℕ) (count : Option ℕ) (result : Result T BlobFault) → count ≡ count_before (marks_for before h) → h.checksum ≡ sum_of (drop 14 blob)
    → ((f : BlobFault) → (result ≡ Err f) ↔ mask_part_faults count h blob f.place f.reason) → (f : BlobFault) → result ≡ Err f → blob_faults before h blob f.place f.reason
mask_form_stop before h blob count result counted sum exact f is =
    mask_part_stop before h blob f.place f.reason sum (subst (λ (n : Option ℕ). mask_part_faults n h blob f.place f.reason) counted ((exact f).0 is))

pub marked_count : (before : Option Previous) (h : Header) (blob : List ℕ) (mask : MaskForm) (r : Pixels) → IsMarkedFor before h blob mask r → count_of (marks_of r) ≡ h.valid
marked_count before h blob mask r m = mask_count (marks_for before h) (h.rows * h.cols) h.valid _ (marks_of r) m.mask

pub mask_err : (before : Option Previous) (h : Header) (blob : List ℕ) (stop : BodyStop) → h.checksum ≡ sum_of (drop 14 blob)
    → IsStopOf (moved (head_length h.version) (mask_faults (count_before (marks_for before h)) (h.rows * h.cols) h.valid (rest_of h blob))) stop → IsStopOf (blob_faults before h blob) stop
mask_err before h blob stop sum w = stop_map _ (blob_faults before h blob) (λ p r x. mask_stop before h blob p r sum x) stop w

-- the form of the image has a fault
pub form_err : (before : Option Previous) (h : Header) (blob : List ℕ) (mask : MaskForm) (r : Pixels) (f : BlobFault) → h.checksum ≡ sum_of (drop 14 blob) → IsMaskForm h blob mask → IsMarkedFor before h blob mask r
    → image_part_faults h blob mask f.place f.reason → blob_faults before h blob f.place f.reason
form_err before h blob mask r f sum form m w = image_part_stop before h blob mask (marks_of r) f.place f.reason sum form m.mask w

-- the image has a fault, whatever the raster before is
pub image_errs : {T : Type 0} (h : Header) (blob : List ℕ) (mask : MaskForm) (old : Pixels) (result : Result T BlobFault) → h.checksum ≡ sum_of (drop 14 blob) → IsMaskForm h blob mask
    → IfErr result (IsFaultIn (moved (image_place h mask) (image_faults h (marks_of old) (image_of h blob mask)))) → IfErr result (λ f. (before : Option Previous) → IsMarkedFor before h blob mask old → IsFaultIn (blob_faults before h blob) f)
image_errs h blob mask old (Ok x) sum form w = tt
image_errs h blob mask old (Err f) sum form w = λ before m. image_stop before h blob mask (marks_of old) f.place f.reason sum form m.mask w

pub picture_made : (before : Option Previous) (h : Header) (blob : List ℕ) (mask : MaskForm) (old r : Pixels) → HeadAt blob h → length blob ≡ h.size → h.checksum ≡ sum_of (drop 14 blob) → IsMaskForm h blob mask → IsMarkedFor before h blob mask old
    → IsRaster r → KeepsMarks old r → IsImage h (image_of h blob mask) r → BlobAfter before blob r
picture_made before h blob mask old r head size sum form m sound keeps image = blob_made before h blob mask old r head size sum form sound m.shape keeps m.mask image

-- what holds whatever the raster before is, of the one that there is
pub picked_err : {T : Type 0} (before : Option Previous) (h : Header) (blob : List ℕ) (mask : MaskForm) (old : Pixels) (result : Result T BlobFault) → IsMarkedFor before h blob mask old
    → IfErr result (λ f. (b : Option Previous) → IsMarkedFor b h blob mask old → IsFaultIn (blob_faults b h blob) f) → IfErr result (IsFaultIn (blob_faults before h blob))
picked_err before h blob mask old (Ok r) m w = tt
picked_err before h blob mask old (Err stop) m w = w before m
