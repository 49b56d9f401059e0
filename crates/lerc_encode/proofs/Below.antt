-- Every byte of a chosen blob is below 256, so that its checksum fits its field.
use Rattle.std.proofs.Common.{◌≡◌, ℕ, ◌+◌, ◌^◌, ◌<◌, zero, suc, Bool, true, false, List, [], ◌∷◌, ◌++◌, length, drop, sym, subst, arith, Option}
use Rattle.std.specs.Prelude.{pos, ◌*ℤ◌, All, ◌&&◌, if◌then◌else◌}
use Rattle.std.proofs.lemmas.Bool.{and_parts}
use Rattle.std.proofs.lemmas.List.Elements.{All-from_get_or, All-head, All-tail}
use Rattle.byteorder.specs.Endian.{little_bytes}
use Rattle.bit_stuff.specs.Simple.{simple_bytes}
use Rattle.bit_stuff.proofs.Digits.{width_of-le}
use Rattle.lerc_header.specs.Bits.{half_bits}
use Rattle.mask_runs.specs.Runs.{IsRun, Runs, spelling, end_mark}
use Rattle.mask_runs.specs.Chosen.{chosen_runs}
use Rattle.mask_runs.proofs.Chosen.{chosen_are_runs}
use Rattle.raster_cells.specs.PixelType.{code_of}
use Rattle.raster_values.specs.Raster.{Pixels, values_of}
use Rattle.raster_values.specs.Flat.{marks_of}
use Rattle.raster_cells.proofs.Every.{Every, every_flat_map}
use Rattle.lerc_header.specs.declared.header.Header.{Header}
use Rattle.lerc_header.specs.declared.header.Version.{Version}
use Rattle.lerc_header.specs.declared.header.Version.TheVariants.{V3, V4}
use Rattle.lerc_header.specs.Written.{counts_bytes, depth_bytes, doubles_bytes, field_bytes, head_bytes, shape_bytes}
use Rattle.huff_codes.specs.Codes.{AreLengths}
use Rattle.huff_codes.specs.Words.{word_count}
use Rattle.huff_codes.specs.Written.{run_lengths, table_head}
use Rattle.huff_codes.proofs.ChosenTables.{run_low}
use Rattle.delta_mode.specs.Deltas.{plain as plain_symbols}
use Rattle.lerc_encode.specs.Codings.{code_lengths, coding_bytes, have_codes, bits_number, shortest_run, symbol_codes, code_table_bytes, table_codes, word_in_front, filled_words}
use Rattle.lerc_encode.specs.Heads.{header_of}
use Rattle.lerc_encode.specs.Ranges.{lists_bytes, greatests, has_equal_ranges, is_constant, is_empty, leasts}
use Rattle.lerc_grammar.specs.Mask.{Previous}
use Rattle.lerc_encode.specs.Masks.{are_alike, mask_part, mask_runs_of, packed, runs_after, runs_unless, takes_mask}
use Rattle.lerc_encode.specs.Images.{CodedForm, sweep, blocks_8, blocks_16, delta, plain, empty, constant, ranges, coded, all_deltas, blocks_bytes, chosen_coded_form, tail, coded_form_bytes, has_mode, image_bytes, is_v4, mode_bytes}
use Rattle.lerc_encode.specs.Choice.{mask_and_image, checksum_of, header_with}
use Rattle.lerc_encode.proofs.Packing.{packed_below}
use Rattle.lerc_encode.proofs.TableBytes.{used_of}
use Rattle.lerc_encode.proofs.Standing.{MayBe}
use Rattle.lerc_encode.proofs.Candidates.{chosen_may}
use Rattle.lerc_encode.proofs.Encoded.{covered}
use Rattle.lerc_encode.proofs.Sums.{AreBelow, sum_below}
use Rattle.lerc_encode.proofs.BlocksBelow.{blocks_below, joined, little, simple_below, values_below}

-- ---- code words

words_below : (n : ℕ) (bits : List Bool) → AreBelow (filled_words n bits)
unfolding filled_words
words_below zero bits = tt
words_below (suc n) bits =
    joined (little_bytes 4 (bits_number (word_in_front bits))) (filled_words n (drop 32 bits)) (little 4 (bits_number (word_in_front bits))) (words_below n (drop 32 bits))

table_below : (lengths : List ℕ) → AreLengths lengths → AreBelow (code_table_bytes lengths)
unfolding code_table_bytes
table_below lengths are =
    let run = shortest_run lengths in
    let list = run_lengths lengths run in
    let low : All (λ v. v < 2 ^ 6) list = λ k d lt. (let le = run_low lengths run are k d lt in omega (arith, le)) in
    let narrow = width_of-le 6 list low in
    let words = filled_words (word_count (length (table_codes lengths))) (table_codes lengths) in
    joined (table_head run) (simple_bytes list ++ words)
    (joined (little_bytes 4 4) (little_bytes 4 256 ++ (little_bytes 4 run.first ++ little_bytes 4 (run.first + run.count))) (little 4 4)
    (joined (little_bytes 4 256) (little_bytes 4 run.first ++ little_bytes 4 (run.first + run.count)) (little 4 256)
    (joined (little_bytes 4 run.first) (little_bytes 4 (run.first + run.count)) (little 4 run.first) (little 4 (run.first + run.count)))))
    (joined (simple_bytes list) words (simple_below list (omega (arith, narrow))) (words_below (word_count (length (table_codes lengths))) (table_codes lengths)))

coding_below : (symbols : List ℕ) → have_codes symbols ≡ true → AreBelow (coding_bytes symbols)
unfolding coding_bytes
coding_below symbols has =
    let n = word_count (length (symbol_codes symbols)) + 1 in
    joined (code_table_bytes (code_lengths symbols)) (filled_words n (symbol_codes symbols)) (table_below (code_lengths symbols) (used_of symbols has).lengths) (words_below n (symbol_codes symbols))

-- ---- the mask

every_all : {X : Type 0} (P : X → Type 0) (xs : List X) → All P xs → Every P xs
every_all P [] h = tt
every_all P (x ∷ xs) h = (All-head P x xs h, every_all P xs (All-tail P x xs h))

every_each : {X : Type 0} (P Q : X → Type 0) (xs : List X) → ((x : X) → P x → Q x) → Every P xs → Every Q xs
every_each P Q [] f h = tt
every_each P Q (x ∷ xs) f h = (f x h.0, every_each P Q xs f h.1)

runs_below : (bytes mask : List ℕ) → Runs bytes mask → AreBelow bytes
runs_below bytes mask are =
    let runs = are.1.1.runs in
    let each = every_each IsRun (λ run. AreBelow (spelling run)) runs (λ run is. every_all (λ b. b < 256) (spelling run) is.bytes) (every_all IsRun runs are.1.1.each) in
    let front = subst AreBelow (sym are.1.1.spelled) (every_flat_map (λ b. b < 256) spelling runs each) in
    subst AreBelow (sym are.1.0) (joined are.0 end_mark front (omega arith, (omega arith, tt)))

unless_below : (taken : Bool) (marks : List Bool) → AreBelow (runs_unless taken marks)
unfolding mask_runs_of
unless_below true marks = tt
unless_below false marks = by (are_alike marks)
  where
    bytes : All (λ byte. byte < 256) (packed marks)
    bytes = All-from_get_or (λ byte. byte < 256) (packed marks) 0 (λ k _. packed_below marks k)

    by : (b : Bool) → AreBelow (if b then [] else chosen_runs (packed marks))
    by true = tt
    by false = runs_below (chosen_runs (packed marks)) (packed marks) (chosen_are_runs (packed marks) bytes)

mask_below : (runs : List ℕ) → AreBelow runs → AreBelow (mask_part runs)
unfolding mask_part
mask_below runs below = joined (little_bytes 4 (length runs)) runs (little 4 (length runs)) below

-- ---- the image

front_below : (r : Pixels) (version : Version) → AreBelow (lists_bytes r version)
front_below r V3 = tt
front_below r V4 = values_below r.kind (leasts r ++ greatests r)

mode_below : (r : Pixels) (step : ℕ) → AreBelow (mode_bytes r step)
mode_below r step = by (has_mode r step)
  where
    by : (b : Bool) → AreBelow (if b then 0 ∷ [] else [])
    by true = (omega arith, tt)
    by false = tt

form_below : (r : Pixels) (version : Version) (step : ℕ) (form : CodedForm) → MayBe r version step form → AreBelow (coded_form_bytes r version step form)
unfolding coded_form_bytes
form_below r version step sweep may = (omega arith, values_below r.kind (values_of r.pixels))
form_below r version step blocks_8 may =
    (omega arith, joined (mode_bytes r step) (blocks_bytes (header_of r version step 8 0 0) r) (mode_below r step) (blocks_below (header_of r version step 8 0 0) r))
form_below r version step blocks_16 may =
    (omega arith, joined (mode_bytes r step) (blocks_bytes (header_of r version step 16 0 0) r) (mode_below r step) (blocks_below (header_of r version step 16 0 0) r))
form_below r version step delta may =
    (omega arith, (omega arith, coding_below (all_deltas r) (and_parts (has_mode r step) (have_codes (all_deltas r)) may).1))
form_below r version step plain may =
    (omega arith, (omega arith, coding_below (plain_symbols r) (and_parts (has_mode r step && is_v4 version) (have_codes (plain_symbols r)) may).1))

image_below : (r : Pixels) (version : Version) (step : ℕ) → AreBelow (image_bytes r version step (tail r version step))
unfolding tail
image_below r version step = by (is_empty r) (is_constant r) (is_v4 version && has_equal_ranges r)
  where
    by : (b d c : Bool) → AreBelow (image_bytes r version step (if b then empty else (if d then constant else (if c then ranges else coded (chosen_coded_form r version step)))))
    by true d c = tt
    by false true c = tt
    by false false true = front_below r version
    by false false false =
        joined (lists_bytes r version) (coded_form_bytes r version step (chosen_coded_form r version step)) (front_below r version) (form_below r version step (chosen_coded_form r version step) (chosen_may r version step))

behind_below : (runs : List ℕ) → AreBelow runs → (r : Pixels) (version : Version) (step : ℕ) → AreBelow (mask_and_image runs r version step)
unfolding mask_and_image
behind_below runs below r version step =
    joined (mask_part runs) (image_bytes r version step (tail r version step)) (mask_below runs below) (image_below r version step)

-- ---- the header

depth_below : (version : Version) (depth : ℕ) → AreBelow (depth_bytes version depth)
depth_below V3 depth = tt
depth_below V4 depth = little 4 depth

fields_below : (h : Header) → AreBelow (field_bytes h)
unfolding field_bytes
fields_below h =
    let error = half_bits (pos h.step) in
    let least = half_bits (pos 2 *ℤ h.least) in
    let greatest = half_bits (pos 2 *ℤ h.greatest) in
    let shape = joined (little_bytes 4 h.rows) (little_bytes 4 h.cols ++ depth_bytes h.version h.depth) (little 4 h.rows) (joined (little_bytes 4 h.cols) (depth_bytes h.version h.depth) (little 4 h.cols) (depth_below h.version h.depth)) in
    let sizes = joined (little_bytes 4 h.size) (little_bytes 4 (code_of h.kind)) (little 4 h.size) (little 4 (code_of h.kind)) in
    let counts = joined (little_bytes 4 h.valid) (little_bytes 4 h.side ++ (little_bytes 4 h.size ++ little_bytes 4 (code_of h.kind))) (little 4 h.valid) (joined (little_bytes 4 h.side) (little_bytes 4 h.size ++ little_bytes 4 (code_of h.kind)) (little 4 h.side) sizes) in
    let ends = joined (little_bytes 8 least) (little_bytes 8 greatest) (little 8 least) (little 8 greatest) in
    let doubles = joined (little_bytes 8 error) (little_bytes 8 least ++ little_bytes 8 greatest) (little 8 error) ends in
    joined (shape_bytes h) (counts_bytes h ++ doubles_bytes h) shape (joined (counts_bytes h) (doubles_bytes h) counts doubles)

-- ---- the checksum

sum_of_below : (runs : List ℕ) → AreBelow runs → (r : Pixels) (version : Version) (step : ℕ) → checksum_of runs r version step < 2 ^ 32
unfolding checksum_of
sum_of_below runs below r version step =
    let h = header_with runs r version step 0 in
    let bytes = subst AreBelow (sym (covered runs r version step 0)) (joined (field_bytes h) (mask_and_image runs r version step) (fields_below h) (behind_below runs below r version step)) in
    sum_below (drop 14 (head_bytes h ++ mask_and_image runs r version step)) bytes

pub checksum_below : (before : Option Previous) (r : Pixels) (version : Version) (step : ℕ) → checksum_of (runs_after before r) r version step < 2 ^ 32
checksum_below before r version step = sum_of_below (runs_after before r) (unless_below (takes_mask before r) (marks_of r)) r version step
