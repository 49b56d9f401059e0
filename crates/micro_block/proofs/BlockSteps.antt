-- Steps of reading a block.
use Rattle.std.proofs.Common.{◌≡◌, ℕ, zero, suc, ℤ, pos, negsuc, ◌+◌, ◌*◌, ◌/◌, ◌%◌, ◌<◌, ◌≤◌, ◌+ℤ◌, ◌*ℤ◌, ◌≤ℤ◌, List, [], ◌∷◌, ◌++◌, length, get_or, slice_index, take, drop, map, refl, sym, ap, ◌∙◌, subst, ◌⊎◌, inl, inr, arith}
use Rattle.std.specs.Prelude.{All, Result, Ok, Err, MatchResult, IfOk, IsOkAnd, ◌↔◌, Option, Some, replicate, set}
use Rattle.std.specs.Int.{int_min}
use Rattle.std.proofs.Math.Seq.{take-add}
use Rattle.std.proofs.lemmas.Int.{ints, clamps, to_z-of_z}
use mir.Syntax.{w64}
use mir.Val.{SFits, of_z, to_z}
use Rattle.std.proofs.Math.IntN.{pos-*ℤ-pos}
use Rattle.std.proofs.lemmas.Bool.{cases_lt}
use Rattle.std.proofs.lemmas.List.{get_or-map, get_or-set_other, get_or-set_same, length-drop, length-map, length-take-le, take-append-drop}
use Rattle.std.proofs.lemmas.List.Elements.{All-from_get_or, All-map, All-replicate}
use Rattle.std.proofs.lemmas.Simd.{map-map}
use Rattle.byteorder.specs.Endian.{little_number}
use Rattle.byteorder.specs.Numbers.{little_from-lt, little_from-take}
use Rattle.first_fault.specs.Parts.{AreBytes}
use Rattle.raster_cells.specs.declared.kind.PixelType.{PixelType}
use Rattle.raster_cells.specs.declared.kind.PixelType.TheVariants.{I8, U8, I16, U16, I32, U32}
use Rattle.raster_cells.specs.PixelType.{InRange, Spells, bytes_of, type_greatest, type_least, value_of}
use Rattle.raster_cells.specs.Distance.{distance_of}
use Rattle.raster_cells.specs.Values.{AreValues}
use Rattle.raster_cells.proofs.Distances.{value_back}
use Rattle.raster_cells.proofs.Spelled.{value_fits}
use Rattle.bit_stuff.proofs.Numbers.{bytes_drop}
use Rattle.lane_kernels.specs.Kernels.{IsSmall, capped_sums}
use Rattle.lut_stuff.specs.Faults.{list_faults}
use Rattle.micro_block.specs.declared.context.BlockFault.{BlockFault}
use Rattle.micro_block.specs.declared.context.BlockReason.{BlockReason}
use Rattle.micro_block.specs.declared.context.SteppedBlock.{SteppedBlock}
use Rattle.micro_block.specs.declared.context.BlockReason.TheVariants as reasons
use Rattle.micro_block.specs.Block.{IsBlock, IsOffset, offset_type}
use Rattle.micro_block.specs.Block as forms
use Rattle.micro_block.specs.Faults.{block_faults, code_faults, form_faults, offset_faults, tag_faults, told_of_list}
use Rattle.raster_cells.specs.Step.{IsTwiceError}
use Rattle.micro_block.specs.Frame.{Frame}
use Rattle.micro_block.specs.Near.{stands_for}
use Rattle.micro_block.specs.ReadSteps.{stepped_values}
use Rattle.micro_block.specs.inside.Tagged.{FitSteps, HasConstant, HasSteps, HasStuffed, HasTagged, as_constant, as_raw, as_stuffed}
use Rattle.micro_block.proofs.Blocks.{block_part, of_tag}

-- what is said of an answer that is a fault
pub told : (r : Result SteppedBlock BlockFault) (Q : SteppedBlock → Type 0) (F : BlockFault → Type 0) (f : BlockFault) → r ≡ Err f → F f → MatchResult r Q F
told r Q F f e fault = subst (λ (u : Result SteppedBlock BlockFault). MatchResult u Q F) (sym e) fault

-- the same steps, behind n bytes more
abbrev pub later : ℕ → SteppedBlock → SteppedBlock
later n s = record { used = n + s.used; offset = s.offset; step = s.step; top = s.top }

-- what is said of the answer of a part behind the first n bytes
pub told_behind : (n : ℕ) (part r : Result SteppedBlock BlockFault) (Q' Q : SteppedBlock → Type 0) (F' F : BlockFault → Type 0) → MatchResult part (λ s. r ≡ Ok (later n s)) (λ f. r ≡ Err (record { reason = f.reason; at = n + f.at }))
    → MatchResult part Q' F' → ((s : SteppedBlock) → Q' s → Q (later n s)) → ((f : BlockFault) → F' f → F (record { reason = f.reason; at = n + f.at })) → MatchResult r Q F
told_behind n (Ok s) r Q' Q F' F is part good bad = subst (λ (u : Result SteppedBlock BlockFault). MatchResult u Q F) (sym is) (good s part)
told_behind n (Err f) r Q' Q F' F is part good bad = subst (λ (u : Result SteppedBlock BlockFault). MatchResult u Q F) (sym is) (bad f part)

-- ---- values

-- every value of a type is small
pub value_small : (kind : PixelType) (v : ℤ) → InRange kind v → (negsuc 2147483647 ≤ℤ v) × (v ≤ℤ pos 4294967295)
value_small I8 v h = (omega (arith, ints), omega (arith, ints))
value_small U8 v h = (omega (arith, ints), omega (arith, ints))
value_small I16 v h = (omega (arith, ints), omega (arith, ints))
value_small U16 v h = (omega (arith, ints), omega (arith, ints))
value_small I32 v h = (omega (arith, ints), omega (arith, ints))
value_small U32 v h = (omega (arith, ints), omega (arith, ints))

-- read again as a number of 64 bits it is the same
pub reread : (kind : PixelType) (v : ℤ) → InRange kind v → to_z w64 (of_z w64 v) ≡ v
reread kind v h =
    let s = value_small kind v h in
    let fits : SFits w64 v = omega (arith, ints, s) in
    to_z-of_z w64 v fits

pub reread_in : (kind : PixelType) (v : ℤ) → InRange kind v → InRange kind (to_z w64 (of_z w64 v))
reread_in kind v h = subst (λ (z : ℤ). InRange kind z) (sym (reread kind v h)) h

pub is_small : (kind : PixelType) (v : ℤ) → InRange kind v → IsSmall v
is_small kind v h = let s = value_small kind v h in omega (arith, ints, s)

pub steps_values : (qs : List ℕ) (out : List ℤ) (offset far top : ℤ) (step : ℕ) → far ≡ pos step → out ≡ capped_sums (map pos qs) offset far top → out ≡ map (stands_for step top offset) qs
steps_values qs out offset far top step e o =
    o ∙ (λ i. capped_sums (map pos qs) offset (e i) top) ∙ map-map (λ q. int_min (offset +ℤ q *ℤ pos step) top) pos qs

-- the same, of numbers as the code reads them again
pub steps_reread : (qs : List ℕ) (x far t offset top : ℤ) (step : ℕ) → x ≡ offset → far ≡ pos step → t ≡ top → capped_sums (map pos qs) x far t ≡ map (stands_for step top offset) qs
steps_reread qs x far t offset top step ex ef et = steps_values qs (capped_sums (map pos qs) x far t) offset far top step ef (λ i. capped_sums (map pos qs) (ex i) far (et i))

pub step_small : (step : ℕ) → IsTwiceError step → (1 ≤ step) × (step ≤ 8589934590)
step_small step is = (omega (arith, is.above), is.below)

-- ---- an offset and a list

pub stuffed_told : (f : Frame) (type : PixelType) (bytes rest numbers : List ℕ) (offset : ℤ) (part r : Result SteppedBlock BlockFault) → bytes_of type ≤ length bytes → rest ≡ drop (bytes_of type) bytes → Spells type bytes offset
    → MatchResult part (λ s. r ≡ Ok (later (bytes_of type) s)) (λ w. r ≡ Err (record { reason = w.reason; at = bytes_of type + w.at }))
    → MatchResult part (λ s. HasSteps f offset rest s.used (stepped_values s numbers) × FitSteps f.kind s) (λ w. (w.at ≤ length rest) × told_of_list (list_faults f.count rest) w.at w.reason)
    → MatchResult r (λ s. HasStuffed f type bytes s.used (stepped_values s numbers) × FitSteps f.kind s) (λ w. (w.at ≤ length bytes) × offset_faults f 1 type bytes w.at w.reason)
stuffed_told f type bytes rest numbers offset part r room behind spells is read =
    told_behind (bytes_of type) part r (λ s. HasSteps f offset rest s.used (stepped_values s numbers) × FitSteps f.kind s) (λ s. HasStuffed f type bytes s.used (stepped_values s numbers) × FitSteps f.kind s)
    (λ w. (w.at ≤ length rest) × told_of_list (list_faults f.count rest) w.at w.reason) (λ w. (w.at ≤ length bytes) × offset_faults f 1 type bytes w.at w.reason) is read
    (λ s x. (record { room = room; offset = offset; spells = spells; taken = s.used; size = refl; steps = subst (λ (u : List ℕ). HasSteps f offset u s.used (stepped_values s numbers)) behind x.0 }, x.1))
    (λ w x. (omega (arith, room, x.0, ap length behind, length-drop (bytes_of type) bytes), inl (room, inl (refl, (w.at, (refl, subst (λ (u : List ℕ). told_of_list (list_faults f.count u) w.at w.reason) behind x.1))))))

-- ---- what follows a tag

spelled_front : (type : PixelType) (bytes : List ℕ) (offset : ℤ) → bytes_of type ≤ length bytes → Spells type bytes offset → Spells type (take (bytes_of type) bytes) offset
spelled_front type bytes offset room s = s ∙ ap (value_of type) (sym (little_from-take 0 (bytes_of type) (bytes_of type) bytes (omega arith)))

offset_read : (kind type : PixelType) (code : ℕ) (bytes : List ℕ) (offset : ℤ) → offset_type kind code ≡ Some type → bytes_of type ≤ length bytes → Spells type bytes offset → IsOffset kind code (take (bytes_of type) bytes) offset
offset_read kind type code bytes offset e room s = record { type = type; coded = e; size = length-take-le (bytes_of type) bytes room; spells = spelled_front type bytes offset room s }

pub stuffed_tagged : (f : Frame) (tag : ℕ) (type : PixelType) (bytes : List ℕ) (k : ℕ) (values : List ℤ) → tag % 4 ≡ 1 → offset_type f.kind (tag / 64) ≡ Some type → HasStuffed f type bytes k values → HasTagged f tag bytes (1 + k) values
stuffed_tagged f tag type bytes k values form e s = record {
  taken = k;
  size = refl;
  room = omega (arith, s.size, s.room, s.steps.room, length-drop (bytes_of type) bytes);
  tagged = as_stuffed form (take (bytes_of type) bytes) (take s.taken (drop (bytes_of type) bytes)) s.offset s.steps.qs
      (ap (λ (n : ℕ). take n bytes) s.size ∙ take-add (bytes_of type) s.taken bytes)
      (offset_read f.kind type (tag / 64) bytes s.offset e s.room s.spells) s.steps.list s.steps.values_are;
}

pub constant_tagged : (f : Frame) (tag : ℕ) (type : PixelType) (bytes : List ℕ) (k : ℕ) (values : List ℤ) → tag % 4 ≡ 3 → offset_type f.kind (tag / 64) ≡ Some type → HasConstant type bytes k f.count values → HasTagged f tag bytes (1 + k) values
constant_tagged f tag type bytes k values form e h = record {
  taken = k;
  size = refl;
  room = h.room;
  tagged = as_constant form h.offset (subst (λ (n : ℕ). IsOffset f.kind (tag / 64) (take n bytes) h.offset) (sym h.size) (offset_read f.kind type (tag / 64) bytes h.offset e (omega (arith, h.size, h.room)) h.spells)) h.same;
}

pub raw_tagged : (f : Frame) (tag : ℕ) (bytes : List ℕ) (k : ℕ) (values : List ℤ) → tag % 4 ≡ 0 → length values ≡ f.count → (k ≤ length bytes) × AreValues f.kind (take k bytes) values → HasTagged f tag bytes (1 + k) values
raw_tagged f tag bytes k values form count h = record { taken = k; size = refl; room = h.0; tagged = as_raw form count h.1 }

pub offset_wrong : (f : Frame) (tag : ℕ) (type : PixelType) (bytes : List ℕ) (at : ℕ) (r : BlockReason) → ¬ (tag % 4 ≡ 0) → ¬ (tag % 4 ≡ 2) → offset_type f.kind (tag / 64) ≡ Some type
    → offset_faults f (tag % 4) type bytes at r → form_faults f tag bytes (1 + at) r
offset_wrong f tag type bytes at r not_raw not_zero e w =
    inr (not_raw, inr (not_zero, subst (λ (o : Option PixelType). code_faults f (tag % 4) o bytes (1 + at) r) (sym e) (at, (refl, w))))

-- ---- the block

pub tag_stands : (f : Frame) (bytes rest : List ℕ) (tag used : ℕ) (values : List ℤ) → 0 < length bytes → tag ≡ slice_index bytes 0 → rest ≡ drop 1 bytes → tag / 4 % 16 ≡ f.col / 8 % 16 → HasTagged f tag rest used values
    → (used ≤ length bytes) × IsBlock f (take used bytes) values
tag_stands f [] rest tag used values there first behind column h = absurd (omega (arith, there))
tag_stands f (b ∷ bytes) rest tag used values there first behind column h =
    let longer : used ≡ suc h.taken = omega (arith, h.size) in
    let within : suc h.taken ≤ length (b ∷ bytes) = omega (arith, h.room, ap length behind) in
    let stands : IsBlock f (tag ∷ take h.taken rest) values = of_tag f tag (take h.taken rest) values column h.tagged in
    (omega (arith, longer, within), subst (λ (u : List ℕ). IsBlock f u values) ((λ i. first i ∷ take h.taken (behind i)) ∙ ap (λ (n : ℕ). take n (b ∷ bytes)) (sym longer)) stands)

pub tag_wrong : (f : Frame) (bytes rest : List ℕ) (tag at : ℕ) (r : BlockReason) → 0 < length bytes → tag ≡ slice_index bytes 0 → rest ≡ drop 1 bytes → tag / 4 % 16 ≡ f.col / 8 % 16
    → (at ≤ 1 + length rest) × form_faults f tag rest at r → (at ≤ length bytes) × block_faults f bytes at r
unfolding block_faults
tag_wrong f bytes rest tag at r there first behind column w = (
  omega (arith, w.0, there, ap length behind, length-drop 1 bytes),
  inl (there, subst (λ (t : ℕ). tag_faults f t (drop 1 bytes) at r) first (subst (λ (u : List ℕ). tag_faults f tag u at r) behind (inl (column, w.1)))),
)

pub no_tag : (f : Frame) (bytes : List ℕ) (at : ℕ) (r : BlockReason) → ¬ (0 < length bytes) → at ≡ 0 → r ≡ reasons.Cut → (at ≤ length bytes) × block_faults f bytes at r
unfolding block_faults
no_tag f bytes at r none_ place why = (omega (arith, place), inr (none_, (place, why)))

pub other_column : (f : Frame) (bytes : List ℕ) (at : ℕ) (r : BlockReason) → 0 < length bytes → ¬ (slice_index bytes 0 / 4 % 16 ≡ f.col / 8 % 16) → at ≡ 0 → r ≡ reasons.BadTag → (at ≤ length bytes) × block_faults f bytes at r
unfolding block_faults
other_column f bytes at r there other place why = (omega (arith, place), inl (there, inr (other, (place, why))))

pub tag_told : (f : Frame) (bytes rest : List ℕ) (tag : ℕ) (numbers : List ℕ) (r : Result SteppedBlock BlockFault) → 0 < length bytes → tag ≡ slice_index bytes 0 → rest ≡ drop 1 bytes → tag / 4 % 16 ≡ f.col / 8 % 16
    → MatchResult r (λ s. HasTagged f tag rest s.used (stepped_values s numbers) × FitSteps f.kind s) (λ w. (w.at ≤ 1 + length rest) × form_faults f tag rest w.at w.reason)
    → MatchResult r (λ s. ((s.used ≤ length bytes) × IsBlock f (take s.used bytes) (stepped_values s numbers)) × FitSteps f.kind s) (λ w. (w.at ≤ length bytes) × block_faults f bytes w.at w.reason)
tag_told f bytes rest tag numbers (Ok s) there first behind column read = (tag_stands f bytes rest tag s.used (stepped_values s numbers) there first behind column read.0, read.1)
tag_told f bytes rest tag numbers (Err w) there first behind column read = tag_wrong f bytes rest tag w.at w.reason there first behind column read

-- ---- the clauses of the readers

-- by what is answered: how many bytes of it are the block, and the values
abbrev pub Read : {A : Type 0} → Frame → List ℕ → (A → ℕ) → (A → List ℤ) → Result A BlockFault → Type 0
Read f bytes used values r = MatchResult r (λ x. (used x ≤ length bytes) × IsBlock f (take (used x) bytes) (values x)) (λ w. (w.at ≤ length bytes) × block_faults f bytes w.at w.reason)

pub read_ok : {A : Type 0} (f : Frame) (bytes : List ℕ) (used : A → ℕ) (values : A → List ℤ) (r : Result A BlockFault) → Read f bytes used values r → IfOk r (λ x. (used x ≤ length bytes) × IsBlock f (take (used x) bytes) (values x))
read_ok f bytes used values (Ok x) read = read
read_ok f bytes used values (Err w) read = tt

pub read_complete : {A : Type 0} (f : Frame) (bytes : List ℕ) (used : A → ℕ) (values : A → List ℤ) (r : Result A BlockFault) → Read f bytes used values r
    → (front rest : List ℕ) (xs : List ℤ) → bytes ≡ front ++ rest → IsBlock f front xs → IsOkAnd r (λ x. (used x ≡ length front) × (values x ≡ xs))
read_complete f bytes used values (Ok x) read front rest xs joined block =
    let same = (block_part f).once (take (used x) bytes) front (drop (used x) bytes) rest (values x) xs read.1 block (take-append-drop (used x) bytes ∙ joined) in
    (sym (length-take-le (used x) bytes read.0) ∙ ap length same.0, same.1)
read_complete f bytes used values (Err w) read front rest xs joined block =
    (block_part f).either front rest xs w.at w.reason block (subst (λ (u : List ℕ). block_faults f u w.at w.reason) joined read.1)

-- where the answer is the number of bytes
pub answer_is : (r : Result ℕ BlockFault) (n : ℕ) (values xs : List ℤ) → IsOkAnd r (λ k. (k ≡ n) × (values ≡ xs)) → (r ≡ Ok n) × (values ≡ xs)
answer_is (Ok k) n values xs is = (ap (λ (m : ℕ). Ok m) is.0, is.1)
answer_is (Err w) n values xs is = absurd is

same_err : {A : Type 0} (r : Result A BlockFault) (g h : BlockFault) → r ≡ Err g → r ≡ Err h → g ≡ h
same_err r g h e d = cc

abbrev failed_with : (A : Type 0) → BlockFault → Result A BlockFault
failed_with A g = Err g

pub read_fault : {A : Type 0} (f : Frame) (bytes : List ℕ) (used : A → ℕ) (values : A → List ℤ) (r : Result A BlockFault) → Read f bytes used values r → (w : BlockFault) → (r ≡ Err w) ↔ block_faults f bytes w.at w.reason
read_fault f bytes used values (Ok x) read w =
    ((λ e. absurd (cc)), λ y. absurd ((block_part f).either (take (used x) bytes) (drop (used x) bytes) (values x) w.at w.reason read.1 (subst (λ (u : List ℕ). block_faults f u w.at w.reason) (sym (take-append-drop (used x) bytes)) y)))
read_fault {A = A} f bytes used values (Err g) read w =
    let there : failed_with A g ≡ failed_with A w → block_faults f bytes w.at w.reason = λ e. subst (λ (h : BlockFault). block_faults f bytes h.at h.reason) (same_err (failed_with A g) g w refl e) read.1 in
    let back : block_faults f bytes w.at w.reason → failed_with A g ≡ failed_with A w = λ x. let same = (block_part f).single bytes g.at w.at g.reason w.reason read.1 x in λ i. Err (record { reason = same.1 i; at = same.0 i }) in
    (there, back)

-- steps that are read, without what else is said of them
pub steps_read : (f : Frame) (bytes numbers : List ℕ) (r : Result SteppedBlock BlockFault)
    → MatchResult r (λ s. ((s.used ≤ length bytes) × IsBlock f (take s.used bytes) (stepped_values s numbers)) × FitSteps f.kind s) (λ w. (w.at ≤ length bytes) × block_faults f bytes w.at w.reason)
    → Read f bytes (λ s. s.used) (λ s. stepped_values s numbers) r
steps_read f bytes numbers (Ok s) read = read.0
steps_read f bytes numbers (Err w) read = read

-- ---- the forms as steps

-- what holds of each number so far, and of one more
pub one_more : {X : Type 0} (out : List X) (i : ℕ) (w d : X) (f : ℕ → X) → i < length out → w ≡ f i → ((k : ℕ) → k < i → get_or out k d ≡ f k) → (k : ℕ) → k < i + 1 → get_or (set out i w) k d ≡ f k
one_more {X} out i w d f within e before k lt = pick (cases_lt k i)
  where
    pick : (k < i) ⊎ (i ≤ k) → get_or (set out i w) k d ≡ f k
    pick (inl below) = get_or-set_other out i k w d (λ same. omega (arith, below, same)) ∙ before k below
    pick (inr past) = let same : i ≡ k = omega (arith, past, lt) in subst (λ (n : ℕ). get_or (set out i w) n d ≡ f n) same (get_or-set_same out i w d within ∙ e)

least_in : (kind : PixelType) → InRange kind (type_least kind)
least_in I8 = (omega (arith, ints), omega (arith, ints))
least_in U8 = (omega (arith, ints), omega (arith, ints))
least_in I16 = (omega (arith, ints), omega (arith, ints))
least_in U16 = (omega (arith, ints), omega (arith, ints))
least_in I32 = (omega (arith, ints), omega (arith, ints))
least_in U32 = (omega (arith, ints), omega (arith, ints))

greatest_in : (kind : PixelType) → InRange kind (type_greatest kind)
greatest_in I8 = (omega (arith, ints), omega (arith, ints))
greatest_in U8 = (omega (arith, ints), omega (arith, ints))
greatest_in I16 = (omega (arith, ints), omega (arith, ints))
greatest_in U16 = (omega (arith, ints), omega (arith, ints))
greatest_in I32 = (omega (arith, ints), omega (arith, ints))
greatest_in U32 = (omega (arith, ints), omega (arith, ints))

-- steps of 1 up to the type's greatest, from a value of the type
pub ones_fit : (kind : PixelType) (used : ℕ) (offset top : ℤ) → InRange kind offset → top ≡ type_greatest kind → FitSteps kind (record { used = used; offset = offset; step = pos 1; top = top })
ones_fit kind used offset top low e = ((low, subst (λ (z : ℤ). InRange kind z) (sym e) (greatest_in kind)), (omega (arith, ints), omega (arith, ints)))

pub raw_fit : (kind : PixelType) (used : ℕ) (offset top : ℤ) → offset ≡ type_least kind → top ≡ type_greatest kind → FitSteps kind (record { used = used; offset = offset; step = pos 1; top = top })
raw_fit kind used offset top low e = ones_fit kind used offset top (subst (λ (z : ℤ). InRange kind z) (sym low) (least_in kind)) e

-- no step from a value of the type is the value
none_from : (v top : ℤ) → v ≤ℤ top → int_min (v +ℤ pos 0 *ℤ pos 1) top ≡ v
none_from v top low = omega (arith, ints, clamps)

none_each : (n : ℕ) (v top : ℤ) → v ≤ℤ top → capped_sums (map pos (replicate n 0)) v (pos 1) top ≡ replicate n v
none_each zero v top low = refl
none_each (suc n) v top low = λ i. none_from v top low i ∷ none_each n v top low i

pub all_alike_are : (kind : PixelType) (numbers : List ℕ) (n : ℕ) (x v top : ℤ) → numbers ≡ replicate n 0 → x ≡ v → InRange kind v → top ≡ type_greatest kind → capped_sums (map pos numbers) x (pos 1) top ≡ replicate n v
all_alike_are kind numbers n x v top all same h e =
    (λ i. capped_sums (map pos (all i)) (same i) (pos 1) top) ∙ none_each n v top (subst (λ (z : ℤ). v ≤ℤ z) (sym e) h.1)

-- as many steps of 1 from the least as a value is above it lead to the value
back_up : (kind : PixelType) (v : ℤ) → InRange kind v → int_min (type_least kind +ℤ pos (distance_of kind v) *ℤ pos 1) (type_greatest kind) ≡ v
back_up kind v h =
    let one : pos (distance_of kind v) *ℤ pos 1 ≡ pos (distance_of kind v) = pos-*ℤ-pos (distance_of kind v) 1 ∙ ap pos (omega arith) in
    ap (λ (z : ℤ). int_min (type_least kind +ℤ z) (type_greatest kind)) one
    ∙ ap (λ (z : ℤ). int_min z (type_greatest kind)) (value_back kind v h)
    ∙ within v (type_greatest kind) h.1
  where
    within : (v top : ℤ) → v ≤ℤ top → int_min v top ≡ v
    within v top low = omega (arith, ints, clamps)

-- so many steps of 1 from the least
abbrev raw_sums : PixelType → List ℕ → List ℤ
raw_sums kind numbers = capped_sums (map pos numbers) (type_least kind) (pos 1) (type_greatest kind)

raw_long : (kind : PixelType) (numbers : List ℕ) → length (raw_sums kind numbers) ≡ length numbers
raw_long kind numbers = length-map (map pos numbers) (λ q. int_min (type_least kind +ℤ q *ℤ pos 1) (type_greatest kind)) ∙ length-map numbers pos

raw_at : (kind : PixelType) (numbers : List ℕ) (k : ℕ) (v : ℤ) → k < length numbers → InRange kind v → get_or numbers k 0 ≡ distance_of kind v → get_or (raw_sums kind numbers) k (pos 0) ≡ v
raw_at kind numbers k v lt h e =
    get_or-map (λ q. int_min (type_least kind +ℤ q *ℤ pos 1) (type_greatest kind)) (map pos numbers) k (pos 0) (pos 0) (omega (arith, lt, length-map numbers pos))
    ∙ ap (λ (q : ℤ). int_min (type_least kind +ℤ q *ℤ pos 1) (type_greatest kind)) (get_or-map pos numbers k 0 (pos 0) lt ∙ ap pos e)
    ∙ back_up kind v h

pub raw_are : (kind : PixelType) (bytes numbers : List ℕ) → AreBytes bytes → length bytes ≡ length numbers * bytes_of kind
    → ((k : ℕ) → k < length numbers → get_or numbers k 0 ≡ distance_of kind (value_of kind (little_number (bytes_of kind) (drop (k * bytes_of kind) bytes))))
    → AreValues kind bytes (capped_sums (map pos numbers) (type_least kind) (pos 1) (type_greatest kind))
raw_are kind bytes numbers are size each = record {
  size = size ∙ ap (λ (n : ℕ). n * bytes_of kind) (sym (raw_long kind numbers));
  each = λ k lt.
      let below : k < length numbers = omega (arith, lt, raw_long kind numbers) in
      raw_at kind numbers k (value_of kind (little_number (bytes_of kind) (drop (k * bytes_of kind) bytes))) below
      (value_fits kind (little_number (bytes_of kind) (drop (k * bytes_of kind) bytes)) (little_from-lt 0 (bytes_of kind) (drop (k * bytes_of kind) bytes) (bytes_drop (k * bytes_of kind) bytes are))) (each k below);
}

-- ---- the values are the type's

type_within : (kind type : PixelType) (v : ℤ) → InRange type v → ((z : ℤ) → InRange type z → InRange kind z) → InRange kind v
type_within kind type v h to = to v h

some_is : (x y : PixelType) → Some x ≡ Some y → x ≡ y
some_is x y e = cc

-- each type in which an offset may stand lies within the pixel type
pub offset_fits : (kind type : PixelType) (code : ℕ) (v : ℤ) → offset_type kind code ≡ Some type → InRange type v → InRange kind v
offset_fits I8 type zero v e h = subst (λ (t : PixelType). InRange t v) (sym (some_is I8 type e)) h
offset_fits I8 type (suc zero) v e h = subst (λ (t : PixelType). InRange t v) (sym (some_is I8 type e)) h
offset_fits I8 type (suc (suc zero)) v e h = subst (λ (t : PixelType). InRange t v) (sym (some_is I8 type e)) h
offset_fits I8 type (suc (suc (suc zero))) v e h = subst (λ (t : PixelType). InRange t v) (sym (some_is I8 type e)) h
offset_fits I8 type (suc (suc (suc (suc code)))) v e h = absurd (cc)
offset_fits U8 type zero v e h = subst (λ (t : PixelType). InRange t v) (sym (some_is U8 type e)) h
offset_fits U8 type (suc zero) v e h = subst (λ (t : PixelType). InRange t v) (sym (some_is U8 type e)) h
offset_fits U8 type (suc (suc zero)) v e h = subst (λ (t : PixelType). InRange t v) (sym (some_is U8 type e)) h
offset_fits U8 type (suc (suc (suc zero))) v e h = subst (λ (t : PixelType). InRange t v) (sym (some_is U8 type e)) h
offset_fits U8 type (suc (suc (suc (suc code)))) v e h = absurd (cc)
offset_fits I16 type zero v e h = subst (λ (t : PixelType). InRange t v) (sym (some_is I16 type e)) h
offset_fits I16 type (suc zero) v e h = let k : InRange U8 v = subst (λ (t : PixelType). InRange t v) (sym (some_is U8 type e)) h in (omega (arith, ints, k), omega (arith, ints, k))
offset_fits I16 type (suc (suc zero)) v e h = let k : InRange I8 v = subst (λ (t : PixelType). InRange t v) (sym (some_is I8 type e)) h in (omega (arith, ints, k), omega (arith, ints, k))
offset_fits I16 type (suc (suc (suc code))) v e h = absurd (cc)
offset_fits U16 type zero v e h = subst (λ (t : PixelType). InRange t v) (sym (some_is U16 type e)) h
offset_fits U16 type (suc zero) v e h = let k : InRange U8 v = subst (λ (t : PixelType). InRange t v) (sym (some_is U8 type e)) h in (omega (arith, ints, k), omega (arith, ints, k))
offset_fits U16 type (suc (suc code)) v e h = absurd (cc)
offset_fits I32 type zero v e h = subst (λ (t : PixelType). InRange t v) (sym (some_is I32 type e)) h
offset_fits I32 type (suc zero) v e h = let k : InRange U16 v = subst (λ (t : PixelType). InRange t v) (sym (some_is U16 type e)) h in (omega (arith, ints, k), omega (arith, ints, k))
offset_fits I32 type (suc (suc zero)) v e h = let k : InRange I16 v = subst (λ (t : PixelType). InRange t v) (sym (some_is I16 type e)) h in (omega (arith, ints, k), omega (arith, ints, k))
offset_fits I32 type (suc (suc (suc zero))) v e h = let k : InRange U8 v = subst (λ (t : PixelType). InRange t v) (sym (some_is U8 type e)) h in (omega (arith, ints, k), omega (arith, ints, k))
offset_fits I32 type (suc (suc (suc (suc code)))) v e h = absurd (cc)
offset_fits U32 type zero v e h = subst (λ (t : PixelType). InRange t v) (sym (some_is U32 type e)) h
offset_fits U32 type (suc zero) v e h = let k : InRange U16 v = subst (λ (t : PixelType). InRange t v) (sym (some_is U16 type e)) h in (omega (arith, ints, k), omega (arith, ints, k))
offset_fits U32 type (suc (suc zero)) v e h = let k : InRange U8 v = subst (λ (t : PixelType). InRange t v) (sym (some_is U8 type e)) h in (omega (arith, ints, k), omega (arith, ints, k))
offset_fits U32 type (suc (suc (suc code))) v e h = absurd (cc)

zero_fits : (kind : PixelType) → InRange kind (pos 0)
zero_fits I8 = (omega (arith, ints), omega (arith, ints))
zero_fits U8 = (omega (arith, ints), omega (arith, ints))
zero_fits I16 = (omega (arith, ints), omega (arith, ints))
zero_fits U16 = (omega (arith, ints), omega (arith, ints))
zero_fits I32 = (omega (arith, ints), omega (arith, ints))
zero_fits U32 = (omega (arith, ints), omega (arith, ints))

spelled_fits : (type : PixelType) (bytes : List ℕ) (v : ℤ) → AreBytes bytes → Spells type bytes v → InRange type v
spelled_fits type bytes v are s = subst (λ (z : ℤ). InRange type z) (sym s) (value_fits type (little_number (bytes_of type) bytes) (little_from-lt 0 (bytes_of type) bytes are))

front_bytes : (a b : List ℕ) → AreBytes (a ++ b) → AreBytes a
front_bytes [] b are i = omega arith
front_bytes (x ∷ a) b are zero = are zero
front_bytes (x ∷ a) b are (suc i) = front_bytes a b (λ k. are (suc k)) i

offset_in : (kind : PixelType) (code : ℕ) (bytes : List ℕ) (v : ℤ) → AreBytes bytes → IsOffset kind code bytes v → InRange kind v
offset_in kind code bytes v are o = offset_fits kind o.type code v o.coded (spelled_fits o.type bytes v are o.spells)

stands_in : (kind : PixelType) (step q : ℕ) (top v : ℤ) → InRange kind top → InRange kind v → InRange kind (stands_for step top v q)
stands_in kind step q top v ht hv = (omega (arith, ints, clamps, ht, hv), omega (arith, ints, clamps, ht, hv))

-- the values for which bytes stand are the type's
pub values_in_range : (kind : PixelType) (bytes : List ℕ) (values : List ℤ) → AreBytes bytes → AreValues kind bytes values → All (InRange kind) values
values_in_range kind bytes values are v =
    All-from_get_or (InRange kind) values (pos 0) (λ i lt. subst (λ (z : ℤ). InRange kind z) (sym (v.each i lt))
    (value_fits kind (little_number (bytes_of kind) (drop (i * bytes_of kind) bytes)) (little_from-lt 0 (bytes_of kind) (drop (i * bytes_of kind) bytes) (bytes_drop (i * bytes_of kind) bytes are))))

-- the values of a block are the type's, where its top is
pub block_in_range : (f : Frame) (bytes : List ℕ) (values : List ℤ) → AreBytes bytes → InRange f.kind f.top → IsBlock f bytes values → All (InRange f.kind) values
block_in_range f bytes values are top (forms.raw tag code rest joined t count v) =
    let rest_are : AreBytes rest = λ i. subst (λ (u : List ℕ). AreBytes u) joined are (suc i) in
    values_in_range f.kind rest values rest_are v
block_in_range f bytes values are top (forms.stuffed tag code front back offset qs joined t o count list e) =
    let rest_are : AreBytes (front ++ back) = λ i. subst (λ (u : List ℕ). AreBytes u) joined are (suc i) in
    let low : InRange f.kind offset = offset_in f.kind code front offset (front_bytes front back rest_are) o in
    subst (λ (u : List ℤ). All (InRange f.kind) u) (sym e)
    (All-map (InRange f.kind) (stands_for f.step f.top offset) qs (All-from_get_or (λ q. InRange f.kind (stands_for f.step f.top offset q)) qs 0 (λ i lt. stands_in f.kind f.step (get_or qs i 0) f.top offset top low)))
block_in_range f bytes values are top (forms.zero tag code joined t e) = subst (λ (u : List ℤ). All (InRange f.kind) u) (sym e) (All-replicate (InRange f.kind) f.count (pos 0) (zero_fits f.kind))
block_in_range f bytes values are top (forms.constant tag code front offset joined t o e) =
    let rest_are : AreBytes front = λ i. subst (λ (u : List ℕ). AreBytes u) joined are (suc i) in
    subst (λ (u : List ℤ). All (InRange f.kind) u) (sym e) (All-replicate (InRange f.kind) f.count offset (offset_in f.kind code front offset rest_are o))

take_bytes : (n : ℕ) (bytes : List ℕ) → AreBytes bytes → AreBytes (take n bytes)
take_bytes n bytes are = front_bytes (take n bytes) (drop n bytes) (subst (λ (u : List ℕ). AreBytes u) (sym (take-append-drop n bytes)) are)

pub read_in_range : {A : Type 0} (f : Frame) (bytes : List ℕ) (used : A → ℕ) (values : A → List ℤ) (r : Result A BlockFault) → AreBytes bytes → InRange f.kind f.top → Read f bytes used values r → IfOk r (λ x. All (InRange f.kind) (values x))
read_in_range f bytes used values (Ok x) are top read = block_in_range f (take (used x) bytes) (values x) (take_bytes (used x) bytes are) top read.1
read_in_range f bytes used values (Err w) are top read = tt
