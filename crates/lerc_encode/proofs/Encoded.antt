-- The chosen blob with some runs of its mask: how long it is, and the raster for which it stands.
use Rattle.std.proofs.Common.{◌≡◌, ℕ, ◌+◌, ◌*◌, ◌^◌, ◌<◌, ◌≤◌, zero, suc, Bool, true, false, List, [], ◌++◌, length, drop, refl, sym, ap, ◌∙◌, subst, arith, length-append, Option, Some, None, inl, inr}
use Rattle.std.specs.Prelude.{is_some, unwrap_or, ◌&&◌, if◌then◌else◌}
use Rattle.std.proofs.lemmas.Nat.{mul-add-lt}
use Rattle.std.proofs.lemmas.List.{get_or-map, drop-append-le}
use Rattle.std.proofs.lemmas.List.Sums.{count_by-le-length}
use Rattle.std.proofs.Math.Nat.{mul-le-mul_right, mul-le-mul_left}
use Rattle.byteorder.specs.Endian.{little_bytes}
use Rattle.raster_values.specs.Raster.{Pixels, IsRaster, value_at, values_of, valid_count}
use Rattle.raster_cells.specs.PixelType.{bytes_of}
use Rattle.raster_values.specs.Flat.{marks_of, value_in}
use Rattle.raster_cells.proofs.Spelled.{few_bytes}
use Rattle.lerc_header.specs.declared.header.Version.{Version}
use Rattle.lerc_header.specs.declared.header.Version.TheVariants.{V3, V4}
use Rattle.raster_cells.specs.Step.{IsTwiceError}
use Rattle.lerc_header.specs.Head.{HeadAt, head_length}
use Rattle.lerc_header.specs.Written.{IsHeader, AreEnds, head_bytes, field_bytes}
use Rattle.lerc_header.specs.Checksum.{sum_of}
use Rattle.lerc_header.proofs.WrittenHeads.{length-head, drop-head, head_stands, field-checksum}
use Rattle.micro_block.specs.ChosenBlock as micro
use Rattle.micro_block.specs.Near.{IsNear}
use Rattle.micro_block.proofs.Fewest.{is_first_least, IsTaken}
use Rattle.lerc_grammar.specs.Mask.{IsMaskAfter, Previous, count_of, marks_before}
use Rattle.lerc_grammar.specs.Image.{IsImage}
use Rattle.lerc_grammar.specs.Near.{Near}
use Rattle.lerc_grammar.specs.Blob.{BlobAfter, BlobParts, IsJoinAfter, IsHeadOf}
use Rattle.lerc_header.specs.declared.header.Header.{Header}
use Rattle.lerc_grammar.proofs.Blobs.{one_raster}
use Rattle.lerc_encode.specs.Ranges.{greatest_value, lists_bytes, has_equal_ranges, is_constant, is_empty}
use Rattle.lerc_encode.specs.Masks.{mask_part}
use Rattle.lerc_encode.specs.Heads.{header_of}
use Rattle.lerc_encode.specs.Images.{CodedForm, sweep, blocks_8, blocks_16, delta, plain, is_v4, Tail, empty, constant, ranges, coded, side_at, image_bytes, coded_form_bytes, coded_forms, chosen_coded_form, tail}
use Rattle.lerc_encode.specs.Choice.{mask_and_image, header_with, checksum_of, chosen_with}
use Rattle.lerc_encode.specs.Encoded.{Declares, IsEncodedAfter}
use Rattle.lerc_encode.specs.inside.Asked.{IsAsked}
use Rattle.lerc_encode.specs.inside.Suits.{IsBeside}
use Rattle.lerc_encode.proofs.Extremes.{in_order, no_values, all_least_fits, all_greatest_fits}
use Rattle.lerc_encode.proofs.Packing.{count_marks}
use Rattle.lerc_encode.proofs.Forming.{length_front, length_sweep}
use Rattle.lerc_encode.proofs.Candidates.{chosen_may}
use Rattle.lerc_encode.proofs.Tails.{ImageStands, empty_stands, constant_stands, ranges_stands, coded_stands}

-- ---- the length of the image

pub chosen_few : (r : Pixels) (version : Version) (step : ℕ) → length (coded_form_bytes r version step (chosen_coded_form r version step)) ≤ length (coded_form_bytes r version step sweep)
unfolding chosen_coded_form
chosen_few r version step = few _ (is_first_least (λ form. length (coded_form_bytes r version step form)) (coded_forms r version step))
  where
    few : (taken : Option CodedForm) → IsTaken (λ form. length (coded_form_bytes r version step form)) (coded_forms r version step) taken → length (coded_form_bytes r version step (unwrap_or taken sweep)) ≤ length (coded_form_bytes r version step sweep)
    few None h = omega arith
    few (Some form) h = h.1.least 0 sweep refl

by_four : (n m k : ℕ) → n ≤ m → k ≤ 4 → n * k ≤ m * 4
by_four n m k h low =
    let a : n * k ≤ n * 4 = mul-le-mul_left n low in
    let b : n * 4 ≤ m * 4 = mul-le-mul_right 4 h in
    omega (arith, a, b)

pub valid_few : (r : Pixels) → IsRaster r → valid_count r ≤ r.rows * r.cols
valid_few r is = let most : valid_count r ≤ length r.pixels = count_by-le-length is_some r.pixels in let places = is.places in omega (arith, most, places)

sweep_few : (r : Pixels) → IsRaster r → (version : Version) (step : ℕ) → length (coded_form_bytes r version step sweep) ≤ 67108865
unfolding coded_form_bytes
sweep_few r is version step =
    let size = length_sweep r is (valid_count r) r.depth (bytes_of r.kind) refl refl refl in
    let more = mul-le-mul_right r.depth (valid_few r is) in
    let all = is.shape.size in
    let b = by_four (valid_count r * r.depth) 16777216 (bytes_of r.kind) (omega (arith, more, all)) (few_bytes r.kind) in
    omega (arith, size, b)

front_few : (r : Pixels) → IsRaster r → (version : Version) → length (lists_bytes r version) ≤ 524288
front_few r is V3 = omega arith
front_few r is V4 =
    let size = length_front r in
    let b = by_four r.depth 65536 (bytes_of r.kind) is.shape.depth_below (few_bytes r.kind) in
    omega (arith, size, b)

-- what the tail is
record Ends (r : Pixels) (version : Version) (step size sum : ℕ) (e : Tail) : Type 0 where
  few : length (image_bytes r version step e) ≤ 67633153
  stands : ImageStands r version step size sum e

chosen_ends : (r : Pixels) → IsRaster r → (version : Version) (step size sum : ℕ) → 0 < step → Ends r version step size sum (tail r version step)
unfolding tail
chosen_ends r is version step size sum some = by (is_empty r) refl (is_constant r) refl (is_v4 version && has_equal_ranges r) refl
  where
    by : (b : Bool) → is_empty r ≡ b → (d : Bool) → is_constant r ≡ d → (c : Bool) → (is_v4 version && has_equal_ranges r) ≡ c → Ends r version step size sum (if b then empty else (if d then constant else (if c then ranges else coded (chosen_coded_form r version step))))
    by true h d l c k = record { few = omega arith; stands = empty_stands r is version step size sum h }
    by false h true l c k = record { few = omega arith; stands = constant_stands r is version step size sum h l }
    by false h false l true k = record { few = let f = front_few r is version in omega (arith, f); stands = ranges_stands r is version step size sum h l k }
    by false h false l false k =
        let front = front_few r is version in
        let form = chosen_few r version step in
        let most = sweep_few r is version step in
        let joined : length (lists_bytes r version ++ coded_form_bytes r version step (chosen_coded_form r version step)) ≡ length (lists_bytes r version) + length (coded_form_bytes r version step (chosen_coded_form r version step)) = length-append (lists_bytes r version) (coded_form_bytes r version step (chosen_coded_form r version step)) in
        record { few = omega (arith, front, form, most, joined); stands = coded_stands r is version step size sum some h l k (chosen_coded_form r version step) (chosen_may r version step) }

-- ---- the blob

pub head_few : (version : Version) → head_length version ≤ 66
head_few V3 = omega arith
head_few V4 = omega arith

pub length_behind : (runs : List ℕ) → length runs ≤ 6291458 → (r : Pixels) → IsRaster r → (version : Version) (step : ℕ) → 0 < step → (4 ≤ length (mask_and_image runs r version step)) × (length (mask_and_image runs r version step) ≤ 73924615)
unfolding mask_and_image mask_part
length_behind runs low r is version step some =
    let image = (chosen_ends r is version step 0 0 some).few in
    let front : length (little_bytes 4 (length runs) ++ runs) ≡ 4 + length runs = length-append (little_bytes 4 (length runs)) runs in
    let joined = length-append (little_bytes 4 (length runs) ++ runs) (image_bytes r version step (tail r version step)) in
    (omega (arith, front, joined), omega (arith, image, low, front, joined))

version_of : (runs : List ℕ) (r : Pixels) (version : Version) (step sum : ℕ) → head_length (header_with runs r version step sum).version ≡ head_length version
unfolding header_with header_of
version_of runs r version step sum = refl

pub length_choice : (runs : List ℕ) (r : Pixels) (version : Version) (step : ℕ) → length (chosen_with runs r version step) ≡ head_length version + length (mask_and_image runs r version step)
unfolding chosen_with
length_choice runs r version step =
    length-append (head_bytes (header_with runs r version step (checksum_of runs r version step))) (mask_and_image runs r version step)
    ∙ ap (λ n. n + length (mask_and_image runs r version step)) (length-head (header_with runs r version step (checksum_of runs r version step)) ∙ version_of runs r version step (checksum_of runs r version step))

step_above : (step : ℕ) → IsTwiceError step → 0 < step
step_above step is = is.above

pub few : (runs : List ℕ) → length runs ≤ 6291458 → (r : Pixels) (version : Version) (step : ℕ) → IsAsked r version step → length (chosen_with runs r version step) ≤ 134217728
few runs low r version step asked =
    let size = length_choice runs r version step in
    let behind = (length_behind runs low r asked.sound version step asked.step_allowed.above).1 in
    let head = head_few version in
    omega (arith, size, behind, head)

side_few : (e : Tail) → (0 < side_at e) × (side_at e ≤ 16)
side_few empty = (omega arith, omega arith)
side_few constant = (omega arith, omega arith)
side_few ranges = (omega arith, omega arith)
side_few (coded sweep) = (omega arith, omega arith)
side_few (coded blocks_8) = (omega arith, omega arith)
side_few (coded blocks_16) = (omega arith, omega arith)
side_few (coded delta) = (omega arith, omega arith)
side_few (coded plain) = (omega arith, omega arith)

ends_of : (r : Pixels) → IsRaster r → AreEnds r.kind (valid_count r) (micro.least_value (values_of r.pixels)) (greatest_value (values_of r.pixels))
ends_of r is = by (valid_count r) refl
  where
    by : (n : ℕ) → valid_count r ≡ n → AreEnds r.kind (valid_count r) (micro.least_value (values_of r.pixels)) (greatest_value (values_of r.pixels))
    by zero e = let none : values_of r.pixels ≡ [] = no_values r.pixels e in inr (e, ap micro.least_value none, ap greatest_value none)
    by (suc n) e = inl (omega (arith, e), all_least_fits r is, all_greatest_fits r is, in_order (values_of r.pixels))

pub is_header : (runs : List ℕ) → length runs ≤ 6291458 → (r : Pixels) (version : Version) (step : ℕ) → IsAsked r version step → (sum : ℕ) → sum < 2 ^ 32 → IsHeader (header_with runs r version step sum)
unfolding header_with header_of
is_header runs low r version step asked sum sum_low =
    let side = side_few (tail r version step) in
    let side_low = side.1 in
    let behind = length_behind runs low r asked.sound version step asked.step_allowed.above in
    let least = behind.0 in
    let most = behind.1 in
    let head = head_few version in
    record {
      checksum_fits = sum_low;
      shape = asked.sound.shape;
      flat = asked.flat;
      valid_below = valid_few r asked.sound;
      side_above = side.0;
      side_fits = omega (arith, side_low);
      size_above = omega (arith, least);
      size_below = omega (arith, most, head);
      step_allowed = asked.step_allowed;
      ends = ends_of r asked.sound;
    }

-- what is covered by the checksum says nothing of it
other_sum : (runs : List ℕ) (r : Pixels) (version : Version) (step sum : ℕ) → header_with runs r version step sum ≡ record (header_with runs r version step 0) { checksum = sum }
unfolding header_with header_of
other_sum runs r version step sum = refl

pub covered : (runs : List ℕ) (r : Pixels) (version : Version) (step sum : ℕ) → drop 14 (head_bytes (header_with runs r version step sum) ++ mask_and_image runs r version step) ≡ field_bytes (header_with runs r version step 0) ++ mask_and_image runs r version step
covered runs r version step sum =
    let h = header_with runs r version step sum in
    let long = length-head h ∙ version_of runs r version step sum in
    let head : 62 ≤ head_length version = least_head version in
    drop-append-le 14 (head_bytes h) (mask_and_image runs r version step) (omega (arith, long, head))
    ∙ ap (λ (xs : List ℕ). xs ++ mask_and_image runs r version step) (drop-head h ∙ ap field_bytes (other_sum runs r version step sum) ∙ field-checksum (header_with runs r version step 0) sum)
  where
    least_head : (version : Version) → 62 ≤ head_length version
    least_head V3 = omega arith
    least_head V4 = omega arith

pub sum_is : (runs : List ℕ) (r : Pixels) (version : Version) (step : ℕ) → checksum_of runs r version step ≡ sum_of (drop 14 (chosen_with runs r version step))
unfolding chosen_with checksum_of
sum_is runs r version step = ap sum_of (covered runs r version step 0 ∙ sym (covered runs r version step (checksum_of runs r version step)))

-- ---- near, by places

near_places : (r s : Pixels) (step : ℕ) → IsRaster r → IsBeside r s step → Near r s step
near_places r s step is b =
    record {
      kind = b.shape.kind;
      rows = b.shape.rows;
      cols = b.shape.cols;
      depth = b.shape.depth;
      marks = b.marks;
      values = λ row col d within valid low.
          let k = row * r.cols + col in
          let below = mul-add-lt row r.cols col r.rows within.0 within.1 in
          let places = is.places in
          let swap : r.cols * r.rows ≡ r.rows * r.cols = omega arith in
          let there : k < length r.pixels = omega (arith, below, places, swap) in
          subst (λ n. IsNear step (value_at r row col d) (value_in s d (row * n + col))) b.shape.cols
          (b.each k d there (get_or-map is_some r.pixels k None false there ∙ valid) low);
    }

-- the marks say how many pixels are valid
count_is : (r s : Pixels) → marks_of r ≡ marks_of s → valid_count r ≡ valid_count s
count_is r s e = count_marks r ∙ ap count_of e ∙ sym (count_marks s)

-- ---- the theorem

-- the header with its checksum
abbrev sealed_header : List ℕ → Pixels → Version → ℕ → Header
sealed_header runs r version step = header_with runs r version step (checksum_of runs r version step)

-- its fields
record Fields (runs : List ℕ) (r : Pixels) (version : Version) (step : ℕ) (h : Header) : Type 0 where
  kind : h.kind ≡ r.kind
  rows : h.rows ≡ r.rows
  cols : h.cols ≡ r.cols
  depth : h.depth ≡ r.depth
  valid : h.valid ≡ valid_count r
  size : h.size ≡ head_length version + length (mask_and_image runs r version step)
  checksum : h.checksum ≡ checksum_of runs r version step

fields_are : (runs : List ℕ) (r : Pixels) (version : Version) (step : ℕ) → Fields runs r version step (sealed_header runs r version step)
unfolding header_with header_of
fields_are runs r version step = record { kind = refl; rows = refl; cols = refl; depth = refl; valid = refl; size = refl; checksum = refl }

joined_of : (runs : List ℕ) (r : Pixels) (version : Version) (step : ℕ) → chosen_with runs r version step ≡ head_bytes (sealed_header runs r version step) ++ (mask_part runs ++ image_bytes r version step (tail r version step))
unfolding chosen_with mask_and_image
joined_of runs r version step = refl

head_there : (runs : List ℕ) → length runs ≤ 6291458 → (r : Pixels) (version : Version) (step : ℕ) → IsAsked r version step → checksum_of runs r version step < 2 ^ 32 → HeadAt (chosen_with runs r version step) (sealed_header runs r version step)
unfolding chosen_with
head_there runs low r version step asked sum_fits = head_stands (sealed_header runs r version step) (mask_and_image runs r version step) (is_header runs low r version step asked (checksum_of runs r version step) sum_fits)

-- the mask with these runs is the raster's
abbrev pub HasRuns : Option Previous → List ℕ → Pixels → Type 0
HasRuns before runs r = IsMaskAfter (marks_before before r.rows r.cols) (r.rows * r.cols) (valid_count r) (mask_part runs) (marks_of r)

mask_there : (before : Option Previous) (runs : List ℕ) (r s : Pixels) (version : Version) (step : ℕ) → HasRuns before runs r → IsBeside r s step
    → IsMaskAfter (marks_before before (sealed_header runs r version step).rows (sealed_header runs r version step).cols) ((sealed_header runs r version step).rows * (sealed_header runs r version step).cols) (sealed_header runs r version step).valid (mask_part runs) (marks_of s)
unfolding header_with header_of
mask_there before runs r s version step has near = subst (λ (m : List Bool). IsMaskAfter (marks_before before r.rows r.cols) (r.rows * r.cols) (valid_count r) (mask_part runs) m) near.marks has

-- what the blob is joined of
abbrev parts : List ℕ → Pixels → Version → ℕ → BlobParts
parts runs r version step = record {
  head = head_bytes (sealed_header runs r version step);
  mask = mask_part runs;
  image = image_bytes r version step (tail r version step);
}

image_of : (runs : List ℕ) (r s : Pixels) (version : Version) (step : ℕ) → IsImage (header_of r version step (side_at (tail r version step)) (head_length version + length (mask_and_image runs r version step)) (checksum_of runs r version step)) (image_bytes r version step (tail r version step)) s
    → IsImage (sealed_header runs r version step) (image_bytes r version step (tail r version step)) s
unfolding header_with
image_of runs r s version step image = image

head_is : (runs : List ℕ) (r s : Pixels) (version : Version) (step : ℕ) → IsBeside r s step → IsHeadOf (sealed_header runs r version step) (chosen_with runs r version step) s
head_is runs r s version step near =
    let f = fields_are runs r version step in
    record {
      kind = f.kind ∙ near.shape.kind;
      rows = f.rows ∙ near.shape.rows;
      cols = f.cols ∙ near.shape.cols;
      depth = f.depth ∙ near.shape.depth;
      valid = f.valid ∙ count_is r s near.marks;
      size = f.size ∙ sym (length_choice runs r version step);
      checksum = f.checksum ∙ sum_is runs r version step;
    }

join : (before : Option Previous) (runs : List ℕ) → length runs ≤ 6291458 → (r : Pixels) (version : Version) (step : ℕ) (s : Pixels) → IsAsked r version step → HasRuns before runs r → checksum_of runs r version step < 2 ^ 32
    → (ends : ImageStands r version step (head_length version + length (mask_and_image runs r version step)) (checksum_of runs r version step) (tail r version step)) → s ≡ ends.raster
    → IsJoinAfter before (chosen_with runs r version step) s (sealed_header runs r version step) (parts runs r version step)
join before runs low r version step s asked has sum_fits ends e =
    let near = subst (λ (x : Pixels). IsBeside r x step) (sym e) ends.near in
    record {
      joined = joined_of runs r version step;
      head_ends = length-head (sealed_header runs r version step);
      head_stands = head_there runs low r version step asked sum_fits;
      head_of = head_is runs r s version step near;
      mask_of = mask_there before runs r s version step has near;
      image_of = image_of runs r s version step (subst (λ (x : Pixels). IsImage (header_of r version step (side_at (tail r version step)) (head_length version + length (mask_and_image runs r version step)) (checksum_of runs r version step)) (image_bytes r version step (tail r version step)) x) (sym e) ends.image);
    }

pub encoded_once : (before : Option Previous) (runs : List ℕ) → length runs ≤ 6291458 → (r : Pixels) (version : Version) (step : ℕ) → IsAsked r version step → HasRuns before runs r → checksum_of runs r version step < 2 ^ 32
    → IsEncodedAfter before (chosen_with runs r version step) r step
encoded_once before runs low r version step asked has sum_fits =
    let is = asked.sound in
    let size = head_length version + length (mask_and_image runs r version step) in
    let ends = (chosen_ends r is version step size (checksum_of runs r version step) asked.step_allowed.above).stands in
    let blob : BlobAfter before (chosen_with runs r version step) ends.raster = (ends.sound, (sealed_header runs r version step, (parts runs r version step, join before runs low r version step ends.raster asked has sum_fits ends refl))) in
    record { raster = ends.raster; blob = blob; near = near_places r ends.raster step is ends.near; only = λ s b. one_raster (chosen_with runs r version step) s ends.raster b blob }

pub declares : (runs : List ℕ) → length runs ≤ 6291458 → (r : Pixels) (version : Version) (step : ℕ) → IsAsked r version step → checksum_of runs r version step < 2 ^ 32 → Declares (chosen_with runs r version step) version step
unfolding header_with header_of
declares runs low r version step asked sum_fits = (sealed_header runs r version step, (head_there runs low r version step asked sum_fits, refl, refl))
