-- No blob is longer than type and shape allow.
use Rattle.std.proofs.Common.{◌≡◌, ◌+◌, ◌*◌, ◌/◌, ◌≤◌, Bool, true, false, [], ◌++◌, length, refl, ap, ◌∙◌, arith, length-append, Option, None, ℕ}
use Rattle.std.specs.Prelude.{◌&&◌, if◌then◌else◌}
use Rattle.std.proofs.Math.Nat.{mul-le-mul_right}
use Rattle.byteorder.specs.Endian.{little_bytes}
use Rattle.raster_values.specs.Raster.{Pixels, IsRaster, valid_count}
use Rattle.raster_cells.specs.PixelType.{bytes_of}
use Rattle.raster_values.specs.Flat.{marks_of}
use Rattle.lerc_header.specs.declared.header.Version.{Version}
use Rattle.lerc_header.specs.declared.header.Version.TheVariants.{V3, V4}
use Rattle.lerc_encode.specs.Ranges.{lists_bytes, has_equal_ranges, is_constant, is_empty}
use Rattle.lerc_grammar.specs.Mask.{Previous}
use Rattle.lerc_encode.specs.Masks.{packed, are_alike, mask_runs_of, mask_part, runs_after}
use Rattle.mask_runs.specs.Chosen.{chosen_runs}
use Rattle.lerc_encode.specs.Images.{sweep, is_v4, empty, constant, ranges, coded, image_bytes, coded_form_bytes, chosen_coded_form, tail}
use Rattle.lerc_encode.specs.Choice.{chosen_after, chosen_blob, mask_and_image}
use Rattle.lerc_encode.specs.Sizes.{BlobsAreSmall, greatest_size}
use Rattle.lerc_encode.proofs.Packing.{long_marks, length_packed, runs_small}
use Rattle.lerc_encode.proofs.TakenMasks.{runs_few}
use Rattle.lerc_encode.proofs.Forming.{length_front, length_sweep}
use Rattle.lerc_encode.proofs.Encoded.{chosen_few, valid_few, length_choice, head_few}

front_small : (r : Pixels) (version : Version) → length (lists_bytes r version) ≤ 2 * (r.depth * bytes_of r.kind)
front_small r V3 = omega arith
front_small r V4 = let e = length_front r in omega (arith, e)

sweep_small : (r : Pixels) → IsRaster r → (version : Version) (step : ℕ) → length (coded_form_bytes r version step sweep) ≤ 1 + r.rows * r.cols * r.depth * bytes_of r.kind
unfolding coded_form_bytes
sweep_small r is version step =
    let size = length_sweep r is (valid_count r) r.depth (bytes_of r.kind) refl refl refl in
    let few : valid_count r * r.depth * bytes_of r.kind ≤ r.rows * r.cols * r.depth * bytes_of r.kind = mul-le-mul_right (bytes_of r.kind) (mul-le-mul_right r.depth (valid_few r is)) in
    omega (arith, size, few)

image_small : (r : Pixels) → IsRaster r → (version : Version) (step : ℕ) → length (image_bytes r version step (tail r version step)) ≤ 2 * (r.depth * bytes_of r.kind) + (1 + r.rows * r.cols * r.depth * bytes_of r.kind)
unfolding tail
image_small r is version step = by (is_empty r) (is_constant r) (is_v4 version && has_equal_ranges r)
  where
    by : (b d c : Bool) → length (image_bytes r version step (if b then empty else (if d then constant else (if c then ranges else coded (chosen_coded_form r version step))))) ≤ 2 * (r.depth * bytes_of r.kind) + (1 + r.rows * r.cols * r.depth * bytes_of r.kind)
    by true d c = omega arith
    by false true c = omega arith
    by false false true = let f = front_small r version in omega (arith, f)
    by false false false =
        let front = front_small r version in
        let form = chosen_few r version step in
        let most = sweep_small r is version step in
        let joined : length (lists_bytes r version ++ coded_form_bytes r version step (chosen_coded_form r version step)) ≡ length (lists_bytes r version) + length (coded_form_bytes r version step (chosen_coded_form r version step)) = length-append (lists_bytes r version) (coded_form_bytes r version step (chosen_coded_form r version step)) in
        omega (arith, front, form, most, joined)

runs_most : (r : Pixels) → IsRaster r → length (mask_runs_of (marks_of r)) ≤ 3 * ((r.rows * r.cols + 7) / 8) + 2
unfolding mask_runs_of
runs_most r is = by (are_alike (marks_of r))
  where
    by : (b : Bool) → length (if b then [] else chosen_runs (packed (marks_of r))) ≤ 3 * ((r.rows * r.cols + 7) / 8) + 2
    by true = omega arith
    by false =
        let a = runs_small (packed (marks_of r)) in
        let b : length (packed (marks_of r)) ≡ (r.rows * r.cols + 7) / 8 = length_packed (marks_of r) ∙ ap (λ n. (n + 7) / 8) (long_marks r is) in
        omega (arith, a, b)

pub after_small : (before : Option Previous) (r : Pixels) (version : Version) (step : ℕ) → IsRaster r → length (chosen_after before r version step) ≤ greatest_size r.kind r.rows r.cols r.depth
unfolding chosen_after mask_and_image mask_part
after_small before r version step is =
    let written = runs_after before r in
    let image = image_small r is version step in
    let most = runs_most r is in
    let less = runs_few before r is in
    let size = length_choice written r version step in
    let head = head_few version in
    let front : length (little_bytes 4 (length written) ++ written) ≡ 4 + length written = length-append (little_bytes 4 (length written)) written in
    let joined = length-append (little_bytes 4 (length written) ++ written) (image_bytes r version step (tail r version step)) in
    omega (arith, image, most, less, size, head, front, joined)

pub small : BlobsAreSmall
unfolding chosen_blob chosen_after
small r version step is = after_small None r version step is
