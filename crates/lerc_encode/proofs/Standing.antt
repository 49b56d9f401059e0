-- What is written behind the lists stands for a raster that is near.
use Rattle.std.proofs.Common.{◌≡◌, ℕ, ◌+◌, ◌<◌, ◌≤◌, zero, suc, Bool, true, false, List, [], ◌∷◌, ◌++◌, length, get_or, map, refl, sym, subst, arith, ◌⊎◌, inl, inr}
use Rattle.std.specs.Prelude.{ℤ, pos, ◌≤ℤ◌, nat_eq, ◌&&◌, if◌then◌else◌}
use Rattle.std.specs.List.{flat_map, range_with_len}
use Rattle.std.proofs.lemmas.Bool.{eqb-true}
use Rattle.std.proofs.lemmas.List.FromFn.{length-map-range_with_len}
use Rattle.first_fault.specs.Faults.{Numbered}
use Rattle.raster_values.specs.Raster.{Pixels, IsRaster, values_of}
use Rattle.raster_cells.specs.Values.{values_bytes}
use Rattle.raster_cells.specs.PixelType.{InRange, bytes_of}
use Rattle.raster_values.specs.Flat.{marks_of, value_in}
use Rattle.raster_cells.specs.declared.kind.PixelType.{PixelType}
use Rattle.raster_values.proofs.Revalued.{new_marks}
use Rattle.lerc_header.specs.declared.header.Version.{Version}
use Rattle.lerc_header.specs.declared.header.Version.TheVariants.{V3, V4}
use Rattle.delta_mode.specs.Symbols.{IsByteType}
use Rattle.micro_block.specs.Block.{IsBlock}
use Rattle.micro_block.proofs.Written.{raw_stands, nothing_off}
use Rattle.lerc_grammar.specs.Image.{top_of, IsBlocksMode, IsCoded}
use Rattle.lerc_grammar.specs.Image as grammar
use Rattle.lerc_grammar.specs.Blocks.{coded_blocks, block_frame, coded_values, all_blocks, AreBlocks}
use Rattle.lerc_encode.specs.Ranges.{greatest_value, depth_values, greatests}
use Rattle.lerc_encode.specs.inside.Fronts.{front_of}
use Rattle.lerc_encode.specs.Heads.{header_of}
use Rattle.lerc_encode.specs.Images.{CodedForm, sweep, blocks_8, blocks_16, delta, plain, side_of, has_mode, may_be_delta, may_be_plain, blocks_bytes, coded_bytes, mode_bytes, coded_form_bytes}
use Rattle.lerc_encode.specs.inside.Suits.{Suits, IsBeside}
use Rattle.lerc_encode.proofs.Extremes.{all_of, at_greatests, greatest_above, greatest_in_range, value_among, value_of_all, values_in_range, depth_in_range, length_values}
use Rattle.lerc_encode.proofs.SymbolForms.{delta_form, plain_form}
use Rattle.lerc_encode.proofs.Kept.{kept_raster, blocks_stand, kept_sound, kept_raster_near}

-- ---- numbered parts, joined

pub numbered_join : {X : Type 0} (part : ℕ → List ℕ → X → Type 0) (b : ℕ → List ℕ) (v : ℕ → X) (a n : ℕ) → ((k : ℕ) → part k (b k) (v k)) → Numbered part a (flat_map b (range_with_len a n)) (map v (range_with_len a n))
numbered_join part b v a zero h = refl
numbered_join part b v a (suc n) h =
    let next : a + 1 ≡ suc a = omega arith in
    (b a, (flat_map b (range_with_len (a + 1) n), (refl, (h a, subst (λ m. Numbered part m (flat_map b (range_with_len (a + 1) n)) (map v (range_with_len (a + 1) n))) next (numbered_join part b v (a + 1) n h)))))

-- ---- the mode byte

abbrev SmallStep : PixelType → ℕ → Type 0
SmallStep kind step = IsByteType kind × (step ≡ 1)

abbrev test : PixelType → ℕ → Bool
test kind step = nat_eq (bytes_of kind) 1 && nat_eq step 1

left : (a b : Bool) → (a && b) ≡ true → a ≡ true
left true b h = refl
left false b h = absurd (cc)

right : (a b : Bool) → (a && b) ≡ true → b ≡ true
right true b h = h
right false b h = absurd (cc)

small_true : (kind : PixelType) (step : ℕ) → test kind step ≡ true → SmallStep kind step
small_true kind step h = (eqb-true (bytes_of kind) 1 (left (nat_eq (bytes_of kind) 1) (nat_eq step 1) h), eqb-true step 1 (right (nat_eq (bytes_of kind) 1) (nat_eq step 1) h))

small_false : (kind : PixelType) (step : ℕ) → test kind step ≡ false → SmallStep kind step → ⊥
small_false kind step h (one, same) = let t : test kind step ≡ true = (λ i. nat_eq (one i) 1 && nat_eq (same i) 1) in cc

abbrev mode_if : Bool → List ℕ
mode_if b = if b then 0 ∷ [] else []

mode_stands : (kind : PixelType) (step : ℕ) (b : Bool) → test kind step ≡ b
    → (SmallStep kind step × (mode_if b ≡ 0 ∷ [])) ⊎ ((SmallStep kind step → ⊥) × (mode_if b ≡ []))
mode_stands kind step true h = inl (small_true kind step h, refl)
mode_stands kind step false h = inr (small_false kind step h, refl)

-- ---- the maxima

top_above : (r : Pixels) → IsRaster r → (version : Version) (step side size sum : ℕ) → (p d : ℕ) → p < length r.pixels → get_or (marks_of r) p false ≡ true → d < r.depth
    → value_in r d p ≤ℤ top_of (header_of r version step side size sum) (front_of r version) d
unfolding header_of
top_above r is V3 step side size sum p d there valid low = greatest_above (values_of r.pixels) (value_in r d p) (value_of_all r is p d there valid low)
top_above r is V4 step side size sum p d there valid low = by (nat_eq r.depth 1)
  where
    by : (b : Bool) → value_in r d p ≤ℤ (if b then greatest_value (values_of r.pixels) else get_or (greatests r) d (pos 0))
    by true = greatest_above (values_of r.pixels) (value_in r d p) (value_of_all r is p d there valid low)
    by false = subst (λ (t : ℤ). value_in r d p ≤ℤ t) (sym (at_greatests r d low)) (greatest_above (depth_values r d) (value_in r d p) (value_among r p d there valid))

top_fits : (r : Pixels) → IsRaster r → (version : Version) (step side size sum : ℕ) → (d : ℕ) → d < r.depth → InRange r.kind (top_of (header_of r version step side size sum) (front_of r version) d)
unfolding header_of
top_fits r is V3 step side size sum d low = greatest_in_range r.kind (values_of r.pixels) (values_in_range r is)
top_fits r is V4 step side size sum d low = by (nat_eq r.depth 1)
  where
    by : (b : Bool) → InRange r.kind (if b then greatest_value (values_of r.pixels) else get_or (greatests r) d (pos 0))
    by true = greatest_in_range r.kind (values_of r.pixels) (values_in_range r is)
    by false = subst (InRange r.kind) (sym (at_greatests r d low)) (greatest_in_range r.kind (depth_values r d) (depth_in_range r is d low))

pub suits : (r : Pixels) → IsRaster r → (version : Version) (step side size sum : ℕ) → 0 < step → 0 < side → side ≤ 16 → Suits (header_of r version step side size sum) (front_of r version) r
unfolding header_of
suits r is version step side size sum some above below =
    record {
      sound = is;
      kind_is = refl;
      rows_is = refl;
      cols_is = refl;
      depth_is = refl;
      side = above;
      side_below = below;
      step = some;
      maxima = top_above r is version step side size sum;
      maxima_in_range = top_fits r is version step side size sum;
    }

-- ---- each form stands

-- the raster for which a form stands
abbrev pub raster_of : Pixels → Version → ℕ → ℕ → ℕ → CodedForm → Pixels
raster_of r version step size sum sweep = r
raster_of r version step size sum delta = r
raster_of r version step size sum plain = r
raster_of r version step size sum blocks_8 = kept_raster (header_of r version step 8 size sum) (front_of r version) r
raster_of r version step size sum blocks_16 = kept_raster (header_of r version step 16 size sum) (front_of r version) r

-- the blocks of headers that differ in size and checksum are the same
same_blocks : (r : Pixels) (version : Version) (step side size sum : ℕ) → blocks_bytes (header_of r version step side 0 0) r ≡ flat_map (coded_bytes (header_of r version step side size sum) r) (range_with_len 0 (coded_blocks (header_of r version step side size sum)))
unfolding header_of blocks_bytes
same_blocks r version step side size sum = refl

in_blocks : (r : Pixels) → IsRaster r → (version : Version) (step side size sum : ℕ) → 0 < step → 0 < side → side ≤ 16
    → AreBlocks (header_of r version step side size sum) (marks_of (kept_raster (header_of r version step side size sum) (front_of r version) r)) (top_of (header_of r version step side size sum) (front_of r version))
    (blocks_bytes (header_of r version step side 0 0) r) (all_blocks (header_of r version step side size sum) (kept_raster (header_of r version step side size sum) (front_of r version) r))
in_blocks r is version step side size sum some above below =
    let h = header_of r version step side size sum in
    let front = front_of r version in
    let s = kept_raster h front r in
    let marks : marks_of s ≡ marks_of r = new_marks r _ in (
      length-map-range_with_len (coded_values h s) 0 (coded_blocks h),
      subst (λ (bytes : List ℕ). Numbered (λ k. IsBlock (block_frame h (marks_of s) (top_of h front) k)) 0 bytes (map (coded_values h s) (range_with_len 0 (coded_blocks h)))) (sym (same_blocks r version step side size sum))
          (subst (λ (m : List Bool). Numbered (λ k. IsBlock (block_frame h m (top_of h front) k)) 0 (flat_map (coded_bytes h r) (range_with_len 0 (coded_blocks h))) (map (coded_values h s) (range_with_len 0 (coded_blocks h)))) (sym marks)
          (numbered_join (λ k. IsBlock (block_frame h (marks_of r) (top_of h front) k)) (coded_bytes h r) (coded_values h s) 0 (coded_blocks h) (λ k. blocks_stand h front r (suits r is version step side size sum some above below) k))),
    )

mode_of : (r : Pixels) (version : Version) (step side size sum : ℕ) → IsBlocksMode (header_of r version step side size sum) (mode_bytes r step)
unfolding header_of
mode_of r version step side size sum = mode_stands r.kind step (has_mode r step) refl

side_low : (r : Pixels) (version : Version) (step side size sum : ℕ) → side ≤ 16 → (header_of r version step side size sum).side ≤ 32
unfolding header_of
side_low r version step side size sum below = omega (arith, below)

block_form : (r : Pixels) → IsRaster r → (version : Version) (step side size sum : ℕ) → 0 < step → 0 < side → side ≤ 16
    → IsCoded (header_of r version step side size sum) (front_of r version) (0 ∷ (mode_bytes r step ++ blocks_bytes (header_of r version step side 0 0) r)) (kept_raster (header_of r version step side size sum) (front_of r version) r)
block_form r is version step side size sum some above below =
    grammar.blocks (mode_bytes r step) (blocks_bytes (header_of r version step side 0 0) r) refl (mode_of r version step side size sum) (side_low r version step side size sum below) (in_blocks r is version step side size sum some above below)

sweep_form : (r : Pixels) → IsRaster r → (version : Version) (step size sum : ℕ) → IsCoded (header_of r version step 8 size sum) (front_of r version) (1 ∷ values_bytes r.kind (values_of r.pixels)) r
unfolding header_of
sweep_form r is version step size sum =
    grammar.sweep (values_bytes r.kind (values_of r.pixels)) refl (raw_stands r.kind (values_of r.pixels) (all_of (InRange r.kind) (values_of r.pixels) (values_in_range r is))) (length_values r is)

-- the form may be taken
abbrev pub MayBe : Pixels → Version → ℕ → CodedForm → Type 0
MayBe r version step sweep = Unit {0}
MayBe r version step blocks_8 = Unit {0}
MayBe r version step blocks_16 = Unit {0}
MayBe r version step delta = may_be_delta r step ≡ true
MayBe r version step plain = may_be_plain r version step ≡ true

pub form_stands : (r : Pixels) → IsRaster r → (version : Version) (step size sum : ℕ) → 0 < step → (form : CodedForm) → MayBe r version step form
    → IsCoded (header_of r version step (side_of form) size sum) (front_of r version) (coded_form_bytes r version step form) (raster_of r version step size sum form)
unfolding coded_form_bytes
form_stands r is version step size sum some sweep may = sweep_form r is version step size sum
form_stands r is version step size sum some blocks_8 may = block_form r is version step 8 size sum some (omega arith) (omega arith)
form_stands r is version step size sum some blocks_16 may = block_form r is version step 16 size sum some (omega arith) (omega arith)
form_stands r is version step size sum some delta may = delta_form r is version step size sum may
form_stands r is version step size sum some plain may = plain_form r is version step size sum may

-- ---- and for one that is near

pub near_itself : (r : Pixels) (step : ℕ) → IsBeside r r step
near_itself r step = record { shape = record { kind = refl; rows = refl; cols = refl; depth = refl }; marks = refl; each = λ k d h m low. nothing_off step (value_in r d k) }

pub form_sound : (r : Pixels) → IsRaster r → (version : Version) (step size sum : ℕ) → 0 < step → (form : CodedForm) → IsRaster (raster_of r version step size sum form)
form_sound r is version step size sum some sweep = is
form_sound r is version step size sum some delta = is
form_sound r is version step size sum some plain = is
form_sound r is version step size sum some blocks_8 = kept_sound _ _ r (suits r is version step 8 size sum some (omega arith) (omega arith))
form_sound r is version step size sum some blocks_16 = kept_sound _ _ r (suits r is version step 16 size sum some (omega arith) (omega arith))

pub form_near : (r : Pixels) → IsRaster r → (version : Version) (step size sum : ℕ) → 0 < step → (form : CodedForm) → IsBeside r (raster_of r version step size sum form) step
unfolding header_of
form_near r is version step size sum some sweep = near_itself r step
form_near r is version step size sum some delta = near_itself r step
form_near r is version step size sum some plain = near_itself r step
form_near r is version step size sum some blocks_8 = kept_raster_near _ _ r (suits r is version step 8 size sum some (omega arith) (omega arith))
form_near r is version step size sum some blocks_16 = kept_raster_near _ _ r (suits r is version step 16 size sum some (omega arith) (omega arith))
