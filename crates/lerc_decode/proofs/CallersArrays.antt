-- What decoding into a caller's arrays finds.
use Rattle.std.proofs.Common.{◌≡◌, ℕ, ◌*◌, ◌<◌, ◌≤◌, Bool, false, List, length, take, get_or, Ok, Err, None, sym, ap, ◌∙◌, subst, arith, inl}
use Rattle.std.specs.Prelude.{Result, IfOk, IfErr, is_some}
use Rattle.std.proofs.lemmas.List.{get_or-map, length-take-le}
use Rattle.std.proofs.lemmas.List.FromFn.{get_or-map-range_with_len}
use Rattle.first_fault.specs.Parts.{AreBytes}
use Rattle.raster_values.specs.Raster.{Pixels, IsRaster}
use Rattle.raster_values.specs.Flat.{marks_of}
use Rattle.raster_values.specs.Order.{IsMaskOf}
use Rattle.raster_cells.specs.Masks.{marks_in, mask_bit}
use Rattle.lerc_header.specs.declared.header.Header.{Header}
use Rattle.lerc_header.specs.declared.header.Version.{Version}
use Rattle.lerc_header.specs.declared.fault.BlobFault.{BlobFault}
use Rattle.lerc_header.specs.Head.{HeadAt, head_length}
use Rattle.lerc_header.specs.HeadFaults.{HasKey, HasVersion, field_faults}
use Rattle.lerc_header.proofs.FaultLemmas.{one_version}
use Rattle.lerc_header.proofs.HeadLemmas.{one_head}
use Rattle.lerc_header.proofs.Prefixes.{head_in_take, head_of_take}
use Rattle.lerc_grammar.specs.Mask.{mask_size}
use Rattle.lerc_grammar.specs.Verdict.{of_field}
use Rattle.lerc_grammar.proofs.Verdicts.{key_of, no_field_fault, take_same, version_of}
use Rattle.lerc_decode.specs.Over.{AskOtherRoom, HaveRoom, IsFaultOf}
use Rattle.lerc_decode.specs.inside.Body.{HasHeadShape}

-- ---- the header

-- fewer bytes than the header of this version has
pub cut_none : (blob : List ℕ) (v : Version) → 10 ≤ length blob → length blob < head_length v → HasVersion (take 10 blob) v → (h : Header) → ¬ HeadAt blob h
cut_none blob v ten few version h head =
    let there : HasVersion blob v = sym ((take_same 10 blob (omega arith) ten).i32 6 (omega arith)) ∙ version in
    let same : h.version ≡ v = one_version blob h.version v head.version there in
    let long : head_length v ≤ length blob = subst (λ (w : Version). head_length w ≤ length blob) same head.long in
    omega (arith, long, few)

pub behind_found : (n : ℕ) (blob : List ℕ) (result : Result Header BlobFault) → IfOk result (λ h. HeadAt (take n blob) h) → IfOk result (λ h. HeadAt blob h)
behind_found n blob (Ok h) head = head_of_take n blob h head
behind_found n blob (Err f) head = tt

pub behind_wrong : (n : ℕ) (blob : List ℕ) (v : Version) (result : Result Header BlobFault) → n ≡ head_length v → 10 ≤ length blob → n ≤ length blob → HasKey (take 10 blob) → HasVersion (take 10 blob) v
    → IfErr result (λ f. field_faults v (take n blob) f.place f.reason) → IfErr result (λ f. IsFaultOf blob f)
behind_wrong n blob v (Ok h) is ten long key version w = tt
behind_wrong n blob v (Err f) is ten long key version w =
    let m = head_length v in
    let there : m ≤ length blob = omega (arith, is, long) in
    inl (of_field v there (key_of 10 m blob (omega arith) ten (omega arith) there key) (version_of 10 m blob v (omega arith) ten (omega arith) there version)
    (subst (λ k. field_faults v (take k blob) f.place f.reason) is w))

pub behind_none : (n : ℕ) (blob : List ℕ) (v : Version) (result : Result Header BlobFault) → n ≡ head_length v → 10 ≤ length blob → n ≤ length blob → HasVersion (take 10 blob) v
    → IfErr result (λ f. field_faults v (take n blob) f.place f.reason) → IfErr result (λ f. (h : Header) → ¬ HeadAt blob h)
behind_none n blob v (Ok h) is ten long version w = tt
behind_none n blob v (Err f) is ten long version w = λ h head.
    let m = head_length v in
    let there : m ≤ length blob = omega (arith, is, long) in
    no_field_fault blob h v head there (version_of 10 m blob v (omega arith) ten (omega arith) there version) f.place f.reason (subst (λ k. field_faults v (take k blob) f.place f.reason) is w)

pub head_taken : (blob : List ℕ) (h : Header) → HeadAt blob h → h.size ≤ length blob → HeadAt (take h.size blob) h
head_taken blob h head long = head_in_take h.size blob h (omega (arith, head.size_above, length-take-le h.size blob long)) head

-- the header asks for these lengths, so it asks for no others
pub no_other_room : (blob : List ℕ) (h : Header) (values mask : ℕ) → HeadAt blob h → HaveRoom h values mask → ¬ AskOtherRoom blob values mask
no_other_room blob h values mask head room a = a.other (subst (λ (k : Header). HaveRoom k values mask) (one_head blob h a.header head a.stands) room)

-- ---- the mask

bit_of : (pixels : ℕ) (mask : List ℕ) (k : ℕ) → k < pixels → get_or (marks_in pixels mask) k false ≡ mask_bit mask k
unfolding marks_in
bit_of pixels mask k below = get_or-map-range_with_len (mask_bit mask) 0 pixels k k false below (omega arith)

pub mask_held : (h : Header) (r : Pixels) (mask : List ℕ) → IsRaster r → HasHeadShape h r → AreBytes mask → length mask ≡ mask_size (h.rows * h.cols) → marks_of r ≡ marks_in (h.rows * h.cols) mask
    → ((k : ℕ) → h.rows * h.cols ≤ k → mask_bit mask k ≡ false) → IsMaskOf r mask
mask_held h r mask sound shape bytes size marks spare =
    let pixels : h.rows * h.cols ≡ r.rows * r.cols = λ i. shape.rows i * shape.cols i in
    record {
      size = size ∙ ap mask_size pixels;
      bytes = bytes;
      bits = λ k below.
          sym (bit_of (h.rows * h.cols) mask k (omega (arith, below, pixels))) ∙ sym (ap (λ (ms : List Bool). get_or ms k false) marks)
          ∙ get_or-map is_some r.pixels k None false (omega (arith, below, sound.places));
      spare = λ k past. spare k (omega (arith, past, pixels));
    }
