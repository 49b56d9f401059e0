-- Where faults of a blob and of a tile are told: within the bytes, and no further on than the greatest blob is long.
use Rattle.std.proofs.Common.{◌≡◌, ℕ, ℤ, pos, ◌+◌, ◌*◌, ◌/◌, ◌%◌, ◌<◌, ◌≤◌, ◌≤ℤ◌, ◌⊎◌, Bool, List, [], ◌∷◌, length, slice_index, take, drop, Option, None, Some, ap, arith, inl, inr}
use Rattle.std.proofs.lemmas.List.{length-append, length-drop, length-take-le}
use Rattle.first_fault.specs.Faults.{Faults, none, wrong, choice, unless, moved, in_order, ends}
use Rattle.mask_runs.specs.Fault.{FirstRunFault, in_run, after_end}
use Rattle.raster_cells.specs.declared.kind.PixelType.{PixelType}
use Rattle.raster_cells.specs.PixelType.{bytes_of}
use Rattle.raster_values.specs.Raster.{Pixels}
use Rattle.raster_cells.specs.Masks.{marks_in}
use Rattle.lut_stuff.specs.Faults.{list_faults}
use Rattle.micro_block.specs.Frame.{Frame}
use Rattle.micro_block.specs.Block.{IsBlock, offset_type}
use Rattle.micro_block.specs.Faults as block
use Rattle.micro_block.specs.Faults.{block_faults, told_of_list}
use Rattle.micro_block.specs.declared.context.BlockReason.TheVariants as reasons
use Rattle.huff_codes.specs.declared.faults.CodeReason.{CodeReason}
use Rattle.huff_codes.specs.Table.{IsCoding, IsTable, coding_faults, table_faults}
use Rattle.huff_codes.specs.Words.{word_faults}
use Rattle.lerc_header.specs.declared.header.Header.{Header}
use Rattle.lerc_header.specs.declared.header.Version.{Version}
use Rattle.lerc_header.specs.declared.header.Version.TheVariants.{V3, V4}
use Rattle.lerc_header.specs.declared.fault.BlobReason.{BlobReason}
use Rattle.lerc_header.specs.declared.fault.BlobReason.TheVariants.{Truncated, BadRows, BadCols, BadDepth, TooLarge, BadCount, BadBlockSize, BadBlobSize, FloatPixels, BadType, BadError, BadRange}
use Rattle.lerc_header.specs.declared.fault.BlobReason.TheVariants.{BadChecksum, BadMaskLength, BadMaskCount, MaskMissing, BadSweep, BadMode, PastEnd, Leftover}
use Rattle.lerc_header.specs.Head.{depth_at, head_length, i32_at, shift}
use Rattle.lerc_header.specs.HeadFaults.{HasEnds, HasLeast, HasNone, HasStep, IsWithin, field_faults, header_faults, key_faults, pixels_at, values_at, whole_faults}
use Rattle.lerc_header.specs.Checksum.{sum_of}
use Rattle.lerc_grammar.specs.Reasons.{told, block_reason, code_reason}
use Rattle.lerc_grammar.specs.Blocks.{AreBlocks, block_frame, blocks_faults, coded_blocks, first_block_faults}
use Rattle.lerc_grammar.specs.Codes.{codes_faults}
use Rattle.lerc_grammar.specs.Mask.{IsAlike, IsMaskAfter, IsMaskLength, Previous, count_before, count_of, counted_of, in_mask_of, length_of, marks_before, mask_faults, mask_size, mixed_of, previous_of, runs_faults, taken_faults}
use Rattle.lerc_grammar.specs.Image.{AreEqual, Ends, HasMode, IsBare, IsFront, coded_faults, faults_behind_lists, front_faults, greatest_mode, image_faults, mode_byte_faults, mode_faults, sweep_faults, top_of, value_count, value_faults}
use Rattle.lerc_grammar.specs.Blob.{BlobAfter, blob_faults, body_faults, body_faults_with}
use Rattle.lerc_grammar.specs.Verdict.{FirstFaultAfter, of_key, of_field, of_blob}
use Rattle.lerc_grammar.specs.declared.bands.BandReason.TheVariants.{Blob as OfBlob, BadBand}
use Rattle.lerc_grammar.specs.Bands.{BandFault, BlobsAfter, FirstBandsFault, in_blob, last_after, next_decided, unlike, unlike_faults}
use Rattle.lerc_grammar.specs.declared.bands.BandReason.{BandReason}
use Rattle.lerc_grammar.proofs.Places.{AreWithin, list_within, table_within, within_choice, within_ends, within_in_order, within_moved, within_none, within_numbered, within_unless, within_wrong, words_within}

-- ---- blocks

raw_within : (f : Frame) (rest : List ℕ) → AreWithin (block.raw_faults f rest) (length rest)
raw_within f rest = within_unless (f.count * bytes_of f.kind ≤ length rest) reasons.Cut 0 none (length rest) (omega arith) (λ _. within_none (length rest))

offset_within : (f : Frame) (form : ℕ) (type : PixelType) (rest : List ℕ) → AreWithin (block.offset_faults f form type rest) (length rest)
offset_within f form type rest =
    let size = bytes_of type in
    within_unless (size ≤ length rest) reasons.Cut 0 (choice (form ≡ 1) (moved size (told_of_list (list_faults f.count (drop size rest)))) none) (length rest) (omega arith) (λ there.
    within_choice (form ≡ 1) (moved size (told_of_list (list_faults f.count (drop size rest)))) none (length rest)
    (λ _. within_moved size (told_of_list (list_faults f.count (drop size rest))) (length (drop size rest)) (length rest) (λ p r w. list_within f.count (drop size rest) p w.0 w.1.0) (omega (arith, there, length-drop size rest)))
    (λ _. within_none (length rest)))

code_within : (f : Frame) (form : ℕ) (type : Option PixelType) (rest : List ℕ) → AreWithin (block.code_faults f form type rest) (1 + length rest)
code_within f form None rest = within_wrong reasons.BadOffset 0 (1 + length rest) (omega arith)
code_within f form (Some type) rest = within_moved 1 (block.offset_faults f form type rest) (length rest) (1 + length rest) (offset_within f form type rest) (omega arith)

form_within : (f : Frame) (tag : ℕ) (rest : List ℕ) → AreWithin (block.form_faults f tag rest) (1 + length rest)
form_within f tag rest =
    within_choice (tag % 4 ≡ 0) (moved 1 (block.raw_faults f rest)) (choice (tag % 4 ≡ 2) none (block.code_faults f (tag % 4) (offset_type f.kind (tag / 64)) rest)) (1 + length rest)
    (λ _. within_moved 1 (block.raw_faults f rest) (length rest) (1 + length rest) (raw_within f rest) (omega arith))
    (λ _. within_choice (tag % 4 ≡ 2) none (block.code_faults f (tag % 4) (offset_type f.kind (tag / 64)) rest) (1 + length rest)
    (λ _. within_none (1 + length rest)) (λ _. code_within f (tag % 4) (offset_type f.kind (tag / 64)) rest))

tag_within : (f : Frame) (tag : ℕ) (rest : List ℕ) → AreWithin (block.tag_faults f tag rest) (1 + length rest)
tag_within f tag rest = within_unless (tag / 4 % 16 ≡ f.col / 8 % 16) reasons.BadTag 0 (block.form_faults f tag rest) (1 + length rest) (omega arith) (λ _. form_within f tag rest)

block_within : (f : Frame) (bytes : List ℕ) → AreWithin (block_faults f bytes) (length bytes)
unfolding block_faults
block_within f bytes =
    within_unless (0 < length bytes) reasons.Cut 0 (block.tag_faults f (slice_index bytes 0) (drop 1 bytes)) (length bytes) (omega arith) (λ some p r w.
    let low = tag_within f (slice_index bytes 0) (drop 1 bytes) p r w in omega (arith, low, some, length-drop 1 bytes))

abbrev one_part : Header → List Bool → (ℕ → ℤ) → ℕ → List ℕ → List ℤ → Type 0
one_part h marks maxima k = IsBlock (block_frame h marks maxima k)

abbrev one_fault : Header → List Bool → (ℕ → ℤ) → ℕ → List ℕ → Faults BlobReason
one_fault h marks maxima k rest = told block_reason (block_faults (block_frame h marks maxima k) rest)

abbrev no_block_behind : List (List ℤ) → List ℕ → Faults BlobReason
no_block_behind values behind = ends Leftover behind

within_told : {R : Type 0} (reason_of : R → BlobReason) (faults : Faults R) (n : ℕ) → AreWithin faults n → AreWithin (told reason_of faults) n
within_told reason_of faults n a p r w = a p w.0 w.1.0

first_within : (h : Header) (marks : List Bool) (maxima : ℕ → ℤ) (rest : List ℕ) → AreWithin (first_block_faults h marks maxima rest) (length rest)
first_within h marks maxima rest =
    within_numbered (one_part h marks maxima) (one_fault h marks maxima) (coded_blocks h) rest
    (λ k behind. within_told block_reason (block_faults (block_frame h marks maxima k) behind) (length behind) (block_within (block_frame h marks maxima k) behind))

blocks_within : (h : Header) (marks : List Bool) (maxima : ℕ → ℤ) (rest : List ℕ) → AreWithin (blocks_faults h marks maxima rest) (length rest)
blocks_within h marks maxima rest =
    within_unless (h.side ≤ 32) BadBlockSize 0 (in_order (AreBlocks h marks maxima) (first_block_faults h marks maxima) no_block_behind rest) (length rest) (omega arith) (λ _.
    within_in_order (AreBlocks h marks maxima) (first_block_faults h marks maxima) no_block_behind rest (first_within h marks maxima rest) (λ values behind. within_ends Leftover behind (length behind)))

-- ---- codes

abbrev words_behind : ℕ → List (List Bool) → List ℕ → Faults CodeReason
words_behind n codes bytes = word_faults codes n bytes

coding_within : (n : ℕ) (bytes : List ℕ) → AreWithin (coding_faults n bytes) (length bytes)
coding_within n bytes = within_in_order IsTable table_faults (words_behind n) bytes (table_within bytes) (λ codes rest. words_within codes n rest)

abbrev own_faults : ℕ → List ℕ → Faults BlobReason
own_faults n bytes = told code_reason (coding_faults n bytes)

abbrev no_code_behind : List ℕ → List ℕ → Faults BlobReason
no_code_behind symbols behind = ends Leftover behind

codes_within : (n : ℕ) (rest : List ℕ) → AreWithin (codes_faults n rest) (length rest)
codes_within n rest =
    within_in_order (IsCoding n) (own_faults n) no_code_behind rest (within_told code_reason (coding_faults n rest) (length rest) (coding_within n rest)) (λ symbols behind. within_ends Leftover behind (length behind))

-- ---- images

sweep_within : (h : Header) (rest : List ℕ) → AreWithin (sweep_faults h rest) (length rest)
sweep_within h rest =
    let size = value_count h * bytes_of h.kind in
    within_unless (size ≤ length rest) PastEnd 0 (moved size (ends Leftover (drop size rest))) (length rest) (omega arith) (λ there.
    within_moved size (ends Leftover (drop size rest)) 0 (length rest) (within_ends Leftover (drop size rest) 0) (omega (arith, there)))

front_within : (h : Header) (v : Version) (rest : List ℕ) → AreWithin (front_faults h v rest) (length rest)
front_within h V3 rest = within_none (length rest)
front_within h V4 rest =
    let size = h.depth * bytes_of h.kind in
    within_unless (size ≤ length rest) PastEnd 0 (unless (size + size ≤ length rest) (wrong PastEnd size) none) (length rest) (omega arith) (λ there.
    within_unless (size + size ≤ length rest) PastEnd size none (length rest) there (λ _. within_none (length rest)))

-- behind a mode byte
abbrev mode_behind : Header → List Bool → Option Ends → List ℕ → Faults BlobReason
mode_behind h marks front rest =
    choice (slice_index rest 0 ≡ 0) (blocks_faults h marks (top_of h front) (drop 1 rest)) (codes_faults (value_count h) (drop 1 rest))

mode_byte_within : (h : Header) (marks : List Bool) (front : Option Ends) (rest : List ℕ) → AreWithin (mode_byte_faults (value_faults h marks front) h rest) (length rest)
mode_byte_within h marks front rest =
    within_unless (0 < length rest) PastEnd 0 (unless (slice_index rest 0 ≤ greatest_mode h.version) (wrong BadMode 0) (moved 1 (mode_behind h marks front rest))) (length rest) (omega arith) (λ some.
    within_unless (slice_index rest 0 ≤ greatest_mode h.version) BadMode 0 (moved 1 (mode_behind h marks front rest)) (length rest) (omega arith) (λ _.
    within_moved 1 (mode_behind h marks front rest) (length (drop 1 rest)) (length rest)
    (within_choice (slice_index rest 0 ≡ 0) (blocks_faults h marks (top_of h front) (drop 1 rest)) (codes_faults (value_count h) (drop 1 rest)) (length (drop 1 rest))
    (λ _. blocks_within h marks (top_of h front) (drop 1 rest)) (λ _. codes_within (value_count h) (drop 1 rest)))
    (omega (arith, some, length-drop 1 rest))))

mode_within : (h : Header) (marks : List Bool) (front : Option Ends) (rest : List ℕ) → AreWithin (mode_faults (value_faults h marks front) h rest) (length rest)
mode_within h marks front rest =
    within_choice (HasMode h) (mode_byte_faults (value_faults h marks front) h rest) (blocks_faults h marks (top_of h front) rest) (length rest)
    (λ _. mode_byte_within h marks front rest) (λ _. blocks_within h marks (top_of h front) rest)

-- behind a sweep byte
abbrev sweep_behind : Header → List Bool → Option Ends → List ℕ → Faults BlobReason
sweep_behind h marks front rest =
    choice (slice_index rest 0 ≡ 1) (sweep_faults h (drop 1 rest)) (mode_faults (value_faults h marks front) h (drop 1 rest))

coded_within : (h : Header) (marks : List Bool) (front : Option Ends) (rest : List ℕ) → AreWithin (coded_faults (value_faults h marks front) h rest) (length rest)
coded_within h marks front rest =
    within_unless (0 < length rest) PastEnd 0 (unless (slice_index rest 0 ≤ 1) (wrong BadSweep 0) (moved 1 (sweep_behind h marks front rest))) (length rest) (omega arith) (λ some.
    within_unless (slice_index rest 0 ≤ 1) BadSweep 0 (moved 1 (sweep_behind h marks front rest)) (length rest) (omega arith) (λ _.
    within_moved 1 (sweep_behind h marks front rest) (length (drop 1 rest)) (length rest)
    (within_choice (slice_index rest 0 ≡ 1) (sweep_faults h (drop 1 rest)) (mode_faults (value_faults h marks front) h (drop 1 rest)) (length (drop 1 rest))
    (λ _. sweep_within h (drop 1 rest)) (λ _. mode_within h marks front (drop 1 rest)))
    (omega (arith, some, length-drop 1 rest))))

lists_within : (h : Header) (marks : List Bool) (front : Option Ends) (rest : List ℕ) → AreWithin (faults_behind_lists (value_faults h marks) h front rest) (length rest)
lists_within h marks front rest =
    within_choice (AreEqual front) (ends Leftover rest) (coded_faults (value_faults h marks front) h rest) (length rest)
    (λ _. within_ends Leftover rest (length rest)) (λ _. coded_within h marks front rest)

image_within : (h : Header) (marks : List Bool) (rest : List ℕ) → AreWithin (image_faults h marks rest) (length rest)
image_within h marks rest =
    within_choice (IsBare h) (ends Leftover rest) (in_order (IsFront h h.version) (front_faults h h.version) (faults_behind_lists (value_faults h marks) h) rest) (length rest)
    (λ _. within_ends Leftover rest (length rest))
    (λ _. within_in_order (IsFront h h.version) (front_faults h h.version) (faults_behind_lists (value_faults h marks) h) rest (front_within h h.version rest) (λ front behind. lists_within h marks front behind))

-- ---- masks

run_within : (runs : List ℕ) (n p : ℕ) → FirstRunFault runs n p → p ≤ length runs
run_within runs n p (in_run mask low joined few bad) = low
run_within runs n p (after_end mask low ended full) = omega (arith, low)

runs_within : (pixels valid : ℕ) (runs : List ℕ) → AreWithin (runs_faults pixels valid runs) (length runs)
runs_within pixels valid runs p r (inl w) = run_within runs (mask_size pixels) p w.0
runs_within pixels valid runs p r (inr w) =
    within_unless (count_of (marks_in pixels w.0) ≡ valid) (BadMaskCount valid (count_of (marks_in pixels w.0))) 0 none (length runs) (omega arith) (λ _. within_none (length runs)) p r w.1.1.1

in_mask_within : (pixels valid : ℕ) (rest : List ℕ) (n : ℕ) → 4 ≤ length rest → AreWithin (in_mask_of (runs_faults pixels valid) rest n) (length rest)
in_mask_within pixels valid rest n four =
    within_unless (4 + n ≤ length rest) PastEnd 4 (moved 4 (runs_faults pixels valid (take n (drop 4 rest)))) (length rest) four (λ there.
    let long : length (take n (drop 4 rest)) ≡ n = length-take-le n (drop 4 rest) (omega (arith, there, length-drop 4 rest)) in
    within_moved 4 (runs_faults pixels valid (take n (drop 4 rest))) (length (take n (drop 4 rest))) (length rest) (runs_within pixels valid (take n (drop 4 rest))) (omega (arith, there, long)))

counted_within : (pixels valid : ℕ) (rest : List ℕ) → 4 ≤ length rest → AreWithin (counted_of (runs_faults pixels valid) rest) (length rest)
counted_within pixels valid rest four p r w = in_mask_within pixels valid rest w.0 four p r w.1.1

taken_within : (before : Option ℕ) (valid n : ℕ) → AreWithin (taken_faults before valid) n
taken_within None valid n = within_wrong MaskMissing 0 n (omega arith)
taken_within (Some count) valid n = within_unless (count ≡ valid) (BadMaskCount valid count) 0 none n (omega arith) (λ _. within_none n)

mixed_within : (before : Option ℕ) (pixels valid : ℕ) (rest : List ℕ) → 4 ≤ length rest → AreWithin (mixed_of before (runs_faults pixels valid) valid rest) (length rest)
mixed_within before pixels valid rest four =
    within_choice (¬ (i32_at rest 0 ≡ pos 0)) (counted_of (runs_faults pixels valid) rest) (taken_faults before valid) (length rest)
    (λ _. counted_within pixels valid rest four) (λ _. taken_within before valid (length rest))

length_within : (before : Option ℕ) (pixels valid : ℕ) (rest : List ℕ) → 4 ≤ length rest → AreWithin (length_of before (runs_faults pixels valid) pixels valid rest) (length rest)
length_within before pixels valid rest four =
    within_unless (IsMaskLength pixels valid (i32_at rest 0)) BadMaskLength 0 (choice (IsAlike pixels valid) none (mixed_of before (runs_faults pixels valid) valid rest)) (length rest) (omega arith) (λ _.
    within_choice (IsAlike pixels valid) none (mixed_of before (runs_faults pixels valid) valid rest) (length rest) (λ _. within_none (length rest)) (λ _. mixed_within before pixels valid rest four))

mask_within : (before : Option ℕ) (pixels valid : ℕ) (rest : List ℕ) → AreWithin (mask_faults before pixels valid rest) (length rest)
mask_within before pixels valid rest =
    within_unless (4 ≤ length rest) PastEnd 0 (length_of before (runs_faults pixels valid) pixels valid rest) (length rest) (omega arith) (λ four. length_within before pixels valid rest four)

-- ---- blobs

body_within : (marks : Option (List Bool)) (h : Header) (rest : List ℕ) → AreWithin (body_faults_with marks h rest) (length rest)
body_within marks h rest =
    within_in_order (IsMaskAfter marks (h.rows * h.cols) h.valid) (mask_faults (count_before marks) (h.rows * h.cols) h.valid) (image_faults h) rest
    (mask_within (count_before marks) (h.rows * h.cols) h.valid rest) (λ found behind. image_within h found behind)

blob_within : (before : Option Previous) (h : Header) (bytes : List ℕ) → head_length h.version ≤ length bytes → AreWithin (blob_faults before h bytes) (length bytes)
blob_within before h bytes long =
    let n = head_length h.version in
    within_unless (h.checksum ≡ sum_of (drop 14 bytes)) (BadChecksum h.checksum (sum_of (drop 14 bytes))) 10 (moved n (body_faults before h (drop n bytes))) (length bytes) (omega (arith, long)) (λ _.
    within_moved n (body_faults before h (drop n bytes)) (length (drop n bytes)) (length bytes) (body_within (marks_before before h.rows h.cols) h (drop n bytes)) (omega (arith, long, length-drop n bytes)))

key_within : (bytes : List ℕ) → AreWithin (key_faults bytes) 10
key_within bytes p r (inl (key, inl (three, never))) = absurd never
key_within bytes p r (inl (key, inr (three, inl (four, never)))) = absurd never
key_within bytes p r (inl (key, inr (three, inr (four, w)))) = omega (arith, w.0)
key_within bytes p r (inr (other, w)) = omega (arith, w.0)

fields_within : (v : Version) (bytes : List ℕ) → AreWithin (field_faults v bytes) (head_length v)
fields_within v bytes =
    within_unless (pos 1 ≤ℤ i32_at bytes 14) BadRows 14 _ (head_length v) (omega arith) (λ _.
    within_unless (pos 1 ≤ℤ i32_at bytes 18) BadCols 18 _ (head_length v) (omega arith) (λ _.
    within_unless (IsWithin (pos 1) (pos 65536) (depth_at v bytes)) BadDepth 22 _ (head_length v) (omega arith) (λ _.
    within_unless (values_at v bytes ≤ℤ pos 16777216) TooLarge (18 + shift v) _ (head_length v) (omega arith) (λ _.
    within_unless (IsWithin (pos 0) (pixels_at bytes) (i32_at bytes (22 + shift v))) BadCount (22 + shift v) _ (head_length v) (omega arith) (λ _.
    within_unless (pos 1 ≤ℤ i32_at bytes (26 + shift v)) BadBlockSize (26 + shift v) _ (head_length v) (omega arith) (λ _.
    within_unless (IsWithin (pos (head_length v + 4)) (pos 134217728) (i32_at bytes (30 + shift v))) BadBlobSize (30 + shift v) _ (head_length v) (omega arith) (λ _.
    within_unless (¬ IsWithin (pos 6) (pos 7) (i32_at bytes (34 + shift v))) FloatPixels (34 + shift v) _ (head_length v) (omega arith) (λ _.
    within_unless (IsWithin (pos 0) (pos 5) (i32_at bytes (34 + shift v))) BadType (34 + shift v) _ (head_length v) (omega arith) (λ _.
    within_unless (HasStep v bytes) BadError (38 + shift v) _ (head_length v) (omega arith) (λ _.
    within_unless (HasNone v bytes ⊎ HasLeast v bytes) BadRange (46 + shift v) _ (head_length v) (omega arith) (λ _.
    within_unless (HasNone v bytes ⊎ HasEnds v bytes) BadRange (54 + shift v) none (head_length v) (omega arith) (λ _.
    within_none (head_length v)))))))))))))

whole_within : (v : Version) (bytes : List ℕ) → AreWithin (whole_faults v bytes) (length bytes)
whole_within v bytes =
    within_unless (head_length v ≤ length bytes) Truncated (length bytes) (field_faults v bytes) (length bytes) (omega arith) (λ long p r w.
    let low = fields_within v bytes p r w in omega (arith, low, long))

pub header_within : (bytes : List ℕ) → AreWithin (header_faults bytes) (length bytes)
header_within bytes p r (inl (ten, inl (key, inl (three, w)))) = whole_within V3 bytes p r w
header_within bytes p r (inl (ten, inl (key, inr (other, inl (four, w))))) = whole_within V4 bytes p r w
header_within bytes p r (inl (ten, inl (key, inr (other, inr (none_, w))))) = omega (arith, w.0, ten)
header_within bytes p r (inl (ten, inr (no_key, w))) = omega (arith, w.0)
header_within bytes p r (inr (short, w)) = omega (arith, w.0)

shift_low : (v : Version) → shift v ≤ 4
shift_low V3 = omega arith
shift_low V4 = omega arith

pub fault_within : (before : Option Previous) (bytes : List ℕ) (p : ℕ) (r : BlobReason) → FirstFaultAfter before bytes p r → (p ≤ length bytes) × (p ≤ 134217728)
fault_within before bytes p r (of_key long w) =
    let low = key_within (take 10 bytes) p r w in
    (omega (arith, low, long), omega (arith, low))
fault_within before bytes p r (of_field v long key version w) =
    let low = fields_within v (take (head_length v) bytes) p r w in
    (omega (arith, low, long), omega (arith, low, shift_low v))
fault_within before bytes p r (of_blob h long head w) =
    let low = blob_within before h (take h.size bytes) head.long p r w in
    let size : length (take h.size bytes) ≡ h.size = length-take-le h.size bytes long in
    (omega (arith, low, size, long), omega (arith, low, size, head.size_below))

-- ---- tiles

blob_few : (before : Option Previous) (blob : List ℕ) (r : Pixels) → BlobAfter before blob r → length blob ≤ 134217728
blob_few before blob r (sound, (h, (p, j))) = omega (arith, j.head_of.size, j.head_stands.size_below)

pub blobs_few : (before : Option Previous) (bytes : List ℕ) (bands : List Pixels) → BlobsAfter before bytes bands → length bytes ≤ length bands * 134217728
blobs_few before bytes [] none_ = omega (arith, ap length none_)
blobs_few before bytes (r ∷ more) (front, (rest, (joined, (blob, others)))) =
    omega (arith, ap length joined, length-append front rest, blob_few before front r blob, blobs_few (Some (previous_of r)) rest more others)

unlike_within : (bands : List Pixels) (h : Header) → AreWithin (unlike_faults bands h) 38
unlike_within [] h = within_none 38
unlike_within (r ∷ more) h =
    let low = shift_low h.version in
    within_unless (h.rows ≡ r.rows) BadBand 14 _ 38 (omega arith) (λ _.
    within_unless (h.cols ≡ r.cols) BadBand 18 _ 38 (omega arith) (λ _.
    within_unless (h.depth ≡ r.depth) BadBand (18 + shift h.version) _ 38 (omega (arith, low)) (λ _.
    within_unless (h.kind ≡ r.kind) BadBand (34 + shift h.version) _ 38 (omega (arith, low)) (λ _.
    within_unless ((2 + length more) * (h.rows * h.cols * h.depth) ≤ 16777216) (OfBlob TooLarge) (18 + shift h.version) none 38 (omega (arith, low)) (λ _.
    within_none 38)))))

band_within : (bands : List Pixels) (rest : List ℕ) (p : ℕ) (r : BandReason) → BandFault bands rest p r → (p ≤ length rest) × (p ≤ 134217728)
band_within bands rest p r (unlike h head w) =
    let low = unlike_within bands h p r w in
    (omega (arith, low, head.long), omega (arith, low))
band_within bands rest p r (in_blob why like w is) = fault_within (last_after None bands) rest p why w

next_within : (bands : List Pixels) (rest : List ℕ) (p : ℕ) (r : BandReason) → next_decided bands rest p r → (p ≤ length rest) × (p ≤ 134217728)
next_within bands rest p r (inl w) = band_within bands rest p r w.1
next_within bands rest p r (inr w) = (omega (arith, w.1.0), omega (arith, w.1.0))

pub bands_fault_within : (bytes : List ℕ) (p : ℕ) (r : BandReason) → FirstBandsFault bytes p r → (p ≤ length bytes) × (p ≤ 17 * 134217728)
bands_fault_within bytes p r w =
    let low = next_within w.bands w.rest w.next.0 r w.next.1.1 in
    let few = blobs_few None w.front w.bands w.stand in
    (omega (arith, w.next.1.0, low.0, ap length w.joined, length-append w.front w.rest), omega (arith, w.next.1.0, low.1, few, w.may_be.few))
