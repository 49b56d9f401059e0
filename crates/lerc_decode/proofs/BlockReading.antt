-- One block more is read.
use Rattle.std.proofs.Common.{◌≡◌, ℕ, ℤ, ◌+◌, ◌-◌, ◌*◌, ◌/◌, ◌%◌, ◌<◌, ◌≤◌, min, Bool, false, List, [], ◌∷◌, ◌++◌, length, get_or, map, take, drop, refl, sym, ap, ◌∙◌, subst, arith, inl, inr}
use Rattle.std.specs.List.{filter, flat_map, range_with_len}
use Rattle.std.proofs.lemmas.List.{length-map, length-take-le, length-drop, take-append-drop, take-take, drop-take, take_all, take_rest}
use Rattle.std.proofs.lemmas.List.FromFn.{length-map-range_with_len, map-range_with_len_more}
use Rattle.std.proofs.lemmas.Nat.{div-add-mod', mod_below}
use Rattle.first_fault.specs.Faults.{Faults, wrong, unless, moved, in_order, ends, AllNumbered, InNumbered, Numbered}
use Rattle.first_fault.proofs.Decided.{numbered_push}
use Rattle.raster_values.specs.Raster.{InShape, Pixels}
use Rattle.raster_cells.specs.Shapes.{IsShape}
use Rattle.raster_values.specs.Block.{InBlock, ScattersBlock, block_count, block_values}
use Rattle.raster_values.specs.Flat.{marks_of, valid_numbers, value_in}
use Rattle.raster_values.proofs.BlockLaws.{has_count, leaves_others, of_mask, partition}
use Rattle.raster_cells.proofs.Every.{every_range, same_map}
use Rattle.raster_values.proofs.NumberedBlocks.{block_numbered}
use Rattle.micro_block.specs.Block.{IsBlock}
use Rattle.micro_block.specs.Faults.{block_faults}
use Rattle.micro_block.specs.Frame.{Frame}
use Rattle.micro_block.specs.declared.context.BlockFault.{BlockFault}
use Rattle.lerc_header.specs.declared.header.Header.{Header}
use Rattle.lerc_header.specs.declared.fault.BlobReason.{BlobReason}
use Rattle.lerc_grammar.specs.Reasons.{told, block_reason}
use Rattle.lerc_grammar.specs.Blocks.{AreBlocks, all_blocks, blocks_faults, blocks_across, blocks_down, coded_blocks, block_depth, block_row, block_col, block_frame, coded_values, first_block_faults, count_in_block}
use Rattle.std.proofs.Math.Nat.{mul-le-mul_left, mul-le-mul_right}
use Rattle.lerc_header.specs.declared.fault.BlobReason.TheVariants.{BadBlockSize, Leftover}
use Rattle.lerc_grammar.proofs.BlockRasters.{begins_within}
use Rattle.lerc_grammar.proofs.OneBlocks.{mask_by_marks, number_below, number_col, number_depth, number_row}
use Rattle.lerc_decode.specs.declared.blob.maxima.Maxima.{Maxima}
use Rattle.lerc_decode.specs.inside.Blocks.{HasBlocks, HasRead, IsBlockHead, IsSquare, block_number}
use Rattle.lerc_decode.specs.inside.Body.{HasHeadShape, KeepsMarks}
use Rattle.lerc_decode.specs.inside.Maxima.{top_in}

-- ---- the frame

-- the numbers of the valid pixels of a block
abbrev numbers_in : ℕ → ℕ → List Bool → ℕ → ℕ → ℕ → List ℕ
numbers_in rows cols marks row col side =
    filter (λ p. get_or marks p false) (flat_map (λ i. map (λ j. i * cols + j) (range_with_len col (min side (cols - col)))) (range_with_len row (min side (rows - row))))

pub count_is : (h : Header) (r : Pixels) (a b d : ℕ) → HasHeadShape h r → b < blocks_across h → d < h.depth → block_count r (a * h.side) (b * h.side) h.side ≡ count_in_block h (marks_of r) (block_number h a b d)
unfolding count_in_block
count_is h r a b d shape across low =
    let row = a * h.side in
    let col = b * h.side in
    sym (has_count r row col h.side d) ∙ ap length (block_numbered r row col h.side d) ∙ length-map (valid_numbers r row col h.side) (value_in r d)
    ∙ (λ i. length (numbers_in (sym shape.rows i) (sym shape.cols i) (marks_of r) (sym (number_row h a b d across low) i) (sym (number_col h a b d across low) i) h.side))

pub frame_is : (h : Header) (r : Pixels) (maxima : Maxima) (top : ℤ) (a b d n : ℕ) → HasHeadShape h r → b < blocks_across h → d < h.depth → top ≡ top_in h maxima d → n ≡ block_count r (a * h.side) (b * h.side) h.side
    → record { kind = h.kind; col = b * h.side; step = h.step; top = top; count = n } ≡ block_frame h (marks_of r) (top_in h maxima) (block_number h a b d)
unfolding block_frame
frame_is h r maxima top a b d n shape across low top_is count =
    let top_there : top ≡ top_in h maxima (block_depth h (block_number h a b d)) = top_is ∙ ap (top_in h maxima) (sym (number_depth h a b d low)) in
    let count_there : n ≡ count_in_block h (marks_of r) (block_number h a b d) = count ∙ count_is h r a b d shape across low in
    λ i. record { kind = h.kind; col = sym (number_col h a b d across low) i; step = h.step; top = top_there i; count = count_there i }

-- ---- numbered parts

take_more : (m n : ℕ) (xs : List ℕ) → take (m + n) xs ≡ take m xs ++ take n (drop m xs)
take_more m n xs =
    sym (take-append-drop m (take (m + n) xs)) ∙ (λ i. take-take m (m + n) xs (omega arith) i ++ drop-take m n xs i)

-- ---- other blocks

-- a number is that of its row, column and depth
whole_number : (h : Header) (k : ℕ) → block_number h (k / h.depth / blocks_across h) (k / h.depth % blocks_across h) (k % h.depth) ≡ k
whole_number h k = ap (λ n. n * h.depth + k % h.depth) (div-add-mod' (k / h.depth) (blocks_across h)) ∙ div-add-mod' k h.depth

apart : (h : Header) (a b d j i l : ℕ) → 0 < h.side → j < block_number h a b d → InBlock (block_row h j) (block_col h j) h.side i l → InBlock (a * h.side) (b * h.side) h.side i l → block_depth h j ≡ d → ⊥
apart h a b d j i l some less there here same =
    let one = (partition h.side i l some).1 (j / h.depth / blocks_across h) (j / h.depth % blocks_across h) there in
    let two = (partition h.side i l some).1 a b here in
    let rows : j / h.depth / blocks_across h ≡ a = one.0 ∙ sym two.0 in
    let cols : j / h.depth % blocks_across h ≡ b = one.1 ∙ sym two.1 in
    let is : j ≡ block_number h a b d = sym (whole_number h j) ∙ (λ t. block_number h (rows t) (cols t) (same t)) in
    omega (arith, less, is)

earlier : (h : Header) (old new : Pixels) (values : List ℤ) (a b d : ℕ) → IsBlockHead h → HasHeadShape h old → ScattersBlock old new (a * h.side) (b * h.side) h.side d values
    → map (coded_values h new) (range_with_len 0 (block_number h a b d)) ≡ map (coded_values h old) (range_with_len 0 (block_number h a b d))
earlier h old new values a b d head shape scatters =
    same_map (coded_values h new) (coded_values h old) (range_with_len 0 (block_number h a b d))
    (every_range (λ j. coded_values h new j ≡ coded_values h old j) 0 (block_number h a b d) (λ j from below.
    leaves_others old new (a * h.side) (b * h.side) h.side d values (block_row h j) (block_col h j) h.side (block_depth h j) scatters
    (omega (arith, mod_below j h.depth (omega (arith, head.shape.depth_above)), shape.depth))
    (λ i l there here same. apart h a b d j i l head.side_above (omega (arith, below)) there here same)))

pub one_read : (h : Header) (old new : Pixels) (maxima : Maxima) (values : List ℤ) (rest : List ℕ) (top : ℤ) (a b d at used n : ℕ) → IsBlockHead h → IsSquare h a b → d < h.depth → HasHeadShape h old
    → top ≡ top_in h maxima d → n ≡ block_count old (a * h.side) (b * h.side) h.side → HasRead h (marks_of old) maxima rest (block_number h a b d) at old
    → (used ≤ length (take (length rest - at) (drop at rest))) × IsBlock (record { kind = h.kind; col = b * h.side; step = h.step; top = top; count = n }) (take used (take (length rest - at) (drop at rest))) values
    → ScattersBlock old new (a * h.side) (b * h.side) h.side d values → HasRead h (marks_of old) maxima rest (block_number h a b d + 1) (at + used) new
one_read h old new maxima values rest top a b d at used n head square low shape top_is count read block scatters =
    let k = block_number h a b d in
    let part : ℕ → List ℕ → List ℤ → Type 0 = λ j. IsBlock (block_frame h (marks_of old) (top_in h maxima) j) in
    let back : take (length rest - at) (drop at rest) ≡ drop at rest = take_rest rest at in
    let stands : IsBlock (block_frame h (marks_of old) (top_in h maxima) k) (take used (drop at rest)) values =
    subst (λ (f : Frame). IsBlock f (take used (drop at rest)) values) (frame_is h old maxima top a b d n shape square.across low top_is count)
    (subst (λ (u : List ℕ). IsBlock (record { kind = h.kind; col = b * h.side; step = h.step; top = top; count = n }) (take used u) values) back block.1) in
    let here : coded_values h new k ≡ values =
    (λ i. block_values new (number_row h a b d square.across low i) (number_col h a b d square.across low i) h.side (number_depth h a b d low i)) ∙ scatters.block in
    let all : map (coded_values h new) (range_with_len 0 (k + 1)) ≡ map (coded_values h old) (range_with_len 0 k) ++ values ∷ [] =
    map-range_with_len_more (coded_values h new) 0 k k (omega arith) ∙ (λ i. earlier h old new values a b d head shape scatters i ++ here i ∷ []) in
    record {
      within = omega (arith, read.within, block.0, ap length back, length-drop at rest);
      stand = subst (Numbered part 0 (take (at + used) rest)) (sym all)
          (subst (λ (u : List ℕ). Numbered part 0 u (map (coded_values h old) (range_with_len 0 k) ++ values ∷ [])) (sym (take_more at used rest))
          (numbered_push part 0 k (take at rest) (take used (drop at rest)) (map (coded_values h old) (range_with_len 0 k)) values (omega (arith, length-map-range_with_len (coded_values h old) 0 k)) read.stand stands));
    }

pub one_fault : (h : Header) (old : Pixels) (maxima : Maxima) (rest : List ℕ) (top : ℤ) (a b d at n : ℕ) (f : BlockFault) → IsSquare h a b → d < h.depth → HasHeadShape h old
    → top ≡ top_in h maxima d → n ≡ block_count old (a * h.side) (b * h.side) h.side → HasRead h (marks_of old) maxima rest (block_number h a b d) at old
    → block_faults (record { kind = h.kind; col = b * h.side; step = h.step; top = top; count = n }) (take (length rest - at) (drop at rest)) f.at f.reason
    → first_block_faults h (marks_of old) (top_in h maxima) rest (at + f.at) (block_reason f.reason)
one_fault h old maxima rest top a b d at n f square low shape top_is count read fault =
    let k = block_number h a b d in
    let before = map (coded_values h old) (range_with_len 0 k) in
    let long : k ≡ length before = sym (length-map-range_with_len (coded_values h old) 0 k) in
    let there : block_faults (block_frame h (marks_of old) (top_in h maxima) k) (drop at rest) f.at f.reason =
    subst (λ (x : Frame). block_faults x (drop at rest) f.at f.reason) (frame_is h old maxima top a b d n shape square.across low top_is count)
    (subst (λ (u : List ℕ). block_faults (record { kind = h.kind; col = b * h.side; step = h.step; top = top; count = n }) u f.at f.reason) (take_rest rest at) fault) in
    let below = number_below h a b d square.down square.across low in
    record {
      before = before;
      front = take at rest;
      rest = drop at rest;
      fewer = omega (arith, below, long);
      joined = sym (take-append-drop at rest);
      stand = read.stand;
      next = (f.at, (ap (λ m. m + f.at) (sym (length-take-le at rest read.within)), (f.reason, (subst (λ m. block_faults (block_frame h (marks_of old) (top_in h maxima) m) (drop at rest) f.at f.reason) long there, refl))));
    }

-- ---- blocks and marks

pub same_count : (old new : Pixels) (row col side : ℕ) → KeepsMarks old new → block_count new row col side ≡ block_count old row col side
same_count old new row col side k =
    of_mask old new row col side (mask_by_marks old new (record { kind = k.kind; rows = k.rows; cols = k.cols; depth = k.depth }) k.marks)

-- ---- where blocks begin

few_rows : (rows cols depth : ℕ) → IsShape rows cols depth → (rows ≤ 16777216) × (cols ≤ 16777216)
few_rows rows cols depth s =
    let a : rows * 1 ≤ rows * cols = mul-le-mul_left rows (omega (arith, s.cols_above)) in
    let b : 1 * cols ≤ rows * cols = mul-le-mul_right cols (omega (arith, s.rows_above)) in
    let c : rows * cols * 1 ≤ rows * cols * depth = mul-le-mul_left (rows * cols) (omega (arith, s.depth_above)) in
    (omega (arith, a, c, s.size), omega (arith, b, c, s.size))

pub row_begins : (h : Header) (a : ℕ) → IsBlockHead h → a < blocks_down h → a * h.side < 16777216
row_begins h a head down = let low = begins_within a h.rows h.side head.side_above down in let few = (few_rows h.rows h.cols h.depth head.shape).0 in omega (arith, low, few)

pub col_begins : (h : Header) (b : ℕ) → IsBlockHead h → b < blocks_across h → b * h.side < 16777216
col_begins h b head across = let low = begins_within b h.cols h.side head.side_above across in let few = (few_rows h.rows h.cols h.depth head.shape).1 in omega (arith, low, few)

-- the first place of a block is one of the raster
pub square_within : (h : Header) (r : Pixels) (a b : ℕ) → IsBlockHead h → IsSquare h a b → HasHeadShape h r → InShape r (a * h.side) (b * h.side)
square_within h r a b head square shape =
    let down = begins_within a h.rows h.side head.side_above square.down in
    let across = begins_within b h.cols h.side head.side_above square.across in
    (omega (arith, down, shape.rows), omega (arith, across, shape.cols))

-- ---- all blocks

pub all_read : (h : Header) (marks : List Bool) (maxima : Maxima) (rest : List ℕ) (at : ℕ) (r : Pixels) → HasRead h marks maxima rest (block_number h (blocks_down h) 0 0) at r → AreBlocks h marks (top_in h maxima) (take at rest) (all_blocks h r)
all_read h marks maxima rest at r read =
    let n : block_number h (blocks_down h) 0 0 ≡ coded_blocks h = omega arith in (
      length-map-range_with_len (coded_values h r) 0 (coded_blocks h),
      subst (λ k. Numbered (λ j. IsBlock (block_frame h marks (top_in h maxima) j)) 0 (take at rest) (map (coded_values h r) (range_with_len 0 k))) n read.stand,
    )

pub all_stand : (h : Header) (marks : List Bool) (maxima : Maxima) (rest : List ℕ) (at : ℕ) (r : Pixels) → h.side ≤ 32 → length rest ≤ at → HasRead h marks maxima rest (block_number h (blocks_down h) 0 0) at r → HasBlocks h marks maxima rest r
all_stand h marks maxima rest at r low whole read = record {
  side = low;
  stand = subst (λ (u : List ℕ). AreBlocks h marks (top_in h maxima) u (all_blocks h r)) (take_all at rest (omega (arith, whole, read.within))) (all_read h marks maxima rest at r read);
}

pub bytes_behind_blocks : (h : Header) (marks : List Bool) (maxima : Maxima) (rest : List ℕ) (place at : ℕ) (r : Pixels) → h.side ≤ 32 → at < length rest → HasRead h marks maxima rest (block_number h (blocks_down h) 0 0) at r
    → moved place (blocks_faults h marks (top_in h maxima) rest) (place + at) Leftover
bytes_behind_blocks h marks maxima rest place at r low more read = (
  at,
  (
    refl,
    inl (
      low,
      inr (record {
        front = take at rest;
        rest = drop at rest;
        value = all_blocks h r;
        joined = sym (take-append-drop at rest);
        stands = all_read h marks maxima rest at r read;
        later = (0, ((let t : at ≡ length (take at rest) + 0 = omega (arith, length-take-le at rest read.within) in t), inr ((λ e. absurd (omega (arith, ap length e, length-drop at rest, more))), (refl, refl))));
      }),
    ),
  ),
)

-- ---- other words for the same maxima

frames_same : (h : Header) (marks : List Bool) (f g : ℕ → ℤ) (k : ℕ) → f (block_depth h k) ≡ g (block_depth h k) → block_frame h marks f k ≡ block_frame h marks g k
unfolding block_frame
frames_same h marks f g k same = λ i. record { kind = h.kind; col = block_col h k; step = h.step; top = same i; count = count_in_block h marks k }

all_frames : (h : Header) (marks : List Bool) (f g : ℕ → ℤ) → 0 < h.depth → ((d : ℕ) → d < h.depth → f d ≡ g d) → ◌≡◌ {A = ℕ → Frame} (block_frame h marks f) (block_frame h marks g)
all_frames h marks f g some same = λ i k. frames_same h marks f g k (same (block_depth h k) (mod_below k h.depth some)) i

pub blocks_same : (h : Header) (marks : List Bool) (f g : ℕ → ℤ) (bytes : List ℕ) (lists : List (List ℤ)) → 0 < h.depth → ((d : ℕ) → d < h.depth → f d ≡ g d)
    → AreBlocks h marks f bytes lists → AreBlocks h marks g bytes lists
blocks_same h marks f g bytes lists some same b =
    subst (λ (F : ℕ → Frame). AllNumbered (λ k. IsBlock (F k)) (coded_blocks h) bytes lists) (all_frames h marks f g some same) b

abbrev nothing_behind : List (List ℤ) → List ℕ → Faults BlobReason
nothing_behind values behind = ends Leftover behind

pub faults_same : (h : Header) (marks : List Bool) (f g : ℕ → ℤ) (bytes : List ℕ) (p : ℕ) (r : BlobReason) → 0 < h.depth → ((d : ℕ) → d < h.depth → f d ≡ g d)
    → blocks_faults h marks f bytes p r → blocks_faults h marks g bytes p r
faults_same h marks f g bytes p r some same w =
    subst (λ (F : ℕ → Frame). unless (h.side ≤ 32) (wrong BadBlockSize 0)
    (in_order (AllNumbered (λ k. IsBlock (F k)) (coded_blocks h)) (InNumbered (λ k. IsBlock (F k)) (λ k rest. told block_reason (block_faults (F k) rest)) (coded_blocks h)) nothing_behind bytes) p r)
    (all_frames h marks f g some same) w

-- what was read counts for the marks before the calls, which are the same
pub read_then : (h : Header) (first last new : Pixels) (maxima : Maxima) (rest : List ℕ) (k n at : ℕ) → KeepsMarks first last → k ≡ n → HasRead h (marks_of last) maxima rest k at new → HasRead h (marks_of first) maxima rest n at new
read_then h first last new maxima rest k n at keeps is read =
    subst (λ (marks : List Bool). HasRead h marks maxima rest n at new) (sym keeps.marks) (subst (λ (j : ℕ). HasRead h (marks_of last) maxima rest j at new) is read)
