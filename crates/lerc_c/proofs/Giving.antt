-- Arrays that are given, and the raster that they are.
use Rattle.std.proofs.Common.{◌≡◌, ℕ, ◌+◌, ◌*◌, ◌/◌, ◌%◌, ◌<◌, Bool, true, false, cond, List, [], ◌∷◌, length, get_or, drop, None, refl, sym, ap, ◌∙◌, subst, arith}
use Rattle.std.specs.Prelude.{pos, is_some, nat_eq, replicate}
use Rattle.std.proofs.lemmas.List.{get_or-map, get_or-replicate}
use Rattle.std.proofs.lemmas.List.FromFn.{get_or-map-range_with_len}
use Rattle.std.proofs.lemmas.Nat.{div_below}
use Rattle.std.proofs.lemmas.Bool.Decides.{nat_tests}
use Rattle.raster_cells.specs.declared.kind.PixelType.{PixelType}
use Rattle.raster_cells.specs.PixelType.{bytes_of, Spells}
use Rattle.raster_values.specs.Raster.{Pixels, IsRaster, blank, filled}
use Rattle.raster_values.specs.Block.{SameMask}
use Rattle.raster_values.specs.Order.{MarksBits}
use Rattle.raster_cells.specs.Masks.{mask_bit, marks_in}
use Rattle.raster_values.specs.Flat.{PutsAll, marks_of, value_in}
use Rattle.lerc_c.specs.Arrays.{IsGiven, mark_at}
use Rattle.lerc_c.specs.inside.Marked.{IsMarked}

pub none_is_nil : (xs : List ℕ) → length xs ≡ 0 → xs ≡ []
none_is_nil [] h = refl
none_is_nil (x ∷ xs) h = absurd (let no : ⊥ = omega arith in no)

pub bits_marked : (old new : Pixels) (mask : List ℕ) → (length mask ≡ 0 → ⊥) → MarksBits old new mask → IsRaster new → IsMarked old.kind old.rows old.cols old.depth mask new
bits_marked old new mask some h sound = record {
  raster = sound;
  kind_is = sym h.shape.kind;
  rows_are = sym h.shape.rows;
  cols_are = sym h.shape.cols;
  depth_is = sym h.shape.depth;
  marks = λ k below.
      let wide : 0 < old.cols = omega (arith, sound.shape.cols_above, h.shape.cols) in
      let row : k / old.cols < old.rows = div_below k old.cols old.rows wide below in
      let col : k % old.cols < old.cols = omega arith in
      let at : k / old.cols * old.cols + k % old.cols ≡ k = omega arith in
      let there : k / old.cols * new.cols + k % old.cols ≡ k = ap (λ m. k / old.cols * m + k % old.cols) (sym h.shape.cols) ∙ at in
      let not : nat_eq (length mask) 0 ≡ false = grind (arith, nat_tests, some) in
      ap (λ j. is_some (get_or new.pixels j None)) (sym there) ∙ h.places (k / old.cols) (k % old.cols) (row, col) ∙ ap (mask_bit mask) at ∙ ap (λ b. cond b true (mask_bit mask k)) (sym not);
}

same_mark : (r s : Pixels) (k : ℕ) → 0 < r.cols → SameMask r s → k < r.rows * r.cols → is_some (get_or s.pixels k None) ≡ is_some (get_or r.pixels k None)
same_mark r s k wide same below =
    let row : k / r.cols < r.rows = div_below k r.cols r.rows wide below in
    let col : k % r.cols < r.cols = omega arith in
    let at : k / r.cols * r.cols + k % r.cols ≡ k = omega arith in
    let there : k / r.cols * s.cols + k % r.cols ≡ k = ap (λ m. k / r.cols * m + k % r.cols) (sym same.shape.cols) ∙ at in
    ap (λ j. is_some (get_or s.pixels j None)) (sym there) ∙ same.places (k / r.cols) (k % r.cols) (row, col) ∙ ap (λ j. is_some (get_or r.pixels j None)) at

pub given_of : (kind : PixelType) (rows cols depth : ℕ) (values mask : List ℕ) (mid new : Pixels) → IsMarked kind rows cols depth mask mid → PutsAll mid new values → IsRaster new → IsGiven kind rows cols depth values mask new
given_of kind rows cols depth values mask mid new m puts sound =
    let size : mid.rows * mid.cols ≡ rows * cols = ap (λ n. n * mid.cols) m.rows_are ∙ ap (λ n. rows * n) m.cols_are in
    record {
      raster = sound;
      kind_is = sym puts.same.shape.kind ∙ m.kind_is;
      rows_are = sym puts.same.shape.rows ∙ m.rows_are;
      cols_are = sym puts.same.shape.cols ∙ m.cols_are;
      depth_is = sym puts.same.shape.depth ∙ m.depth_is;
      marks = λ k below. same_mark mid new k m.raster.shape.cols_above puts.same (omega (arith, size)) ∙ m.marks k below;
      each = λ k d below on less.
          let put : Spells mid.kind (drop ((k * mid.depth + d) * bytes_of mid.kind) values) (value_in new d k) = puts.put k d (omega (arith, size)) (m.marks k below ∙ on) (omega (arith, m.depth_is)) in
          subst (λ n. Spells kind (drop ((k * n + d) * bytes_of kind) values) (value_in new d k)) m.depth_is
          (subst (λ (t : PixelType). Spells t (drop ((k * mid.depth + d) * bytes_of t) values) (value_in new d k)) m.kind_is put);
    }

-- all pixels valid, and the values put
pub whole_given : (kind : PixelType) (rows cols depth : ℕ) (values : List ℕ) (new : Pixels) → PutsAll (filled (blank kind rows cols depth) (pos 0)) new values → IsRaster new → IsGiven kind rows cols depth values [] new
whole_given kind rows cols depth values new puts sound =
    let old = filled (blank kind rows cols depth) (pos 0) in
    let wide : 0 < cols = omega (arith, sound.shape.cols_above, puts.same.shape.cols) in
    let all : (k : ℕ) → k < rows * cols → is_some (get_or old.pixels k None) ≡ true = λ k below. ap is_some (get_or-replicate (rows * cols) k _ None below) in
    record {
      raster = sound;
      kind_is = sym puts.same.shape.kind;
      rows_are = sym puts.same.shape.rows;
      cols_are = sym puts.same.shape.cols;
      depth_is = sym puts.same.shape.depth;
      marks = λ k below. same_mark old new k wide puts.same below ∙ all k below;
      each = λ k d below on less. puts.put k d below (all k below) less;
    }

-- ---- a raster that is read in the arrays

bit_of : (pixels : ℕ) (mask : List ℕ) (k : ℕ) → k < pixels → get_or (marks_in pixels mask) k false ≡ mask_bit mask k
unfolding marks_in
bit_of pixels mask k below = get_or-map-range_with_len (mask_bit mask) 0 pixels k k false below (omega arith)

pub seen_given : (kind : PixelType) (rows cols depth : ℕ) (values mask : List ℕ) (r : Pixels) → (length mask ≡ 0 → ⊥) → IsRaster r → r.kind ≡ kind → r.rows ≡ rows → r.cols ≡ cols → r.depth ≡ depth → marks_of r ≡ marks_in (rows * cols) mask
    → ((k d : ℕ) → k < rows * cols → d < depth → mask_bit mask k ≡ true → Spells kind (drop ((k * depth + d) * bytes_of kind) values) (value_in r d k)) → IsGiven kind rows cols depth values mask r
seen_given kind rows cols depth values mask r some sound ek er ec ed marks spelled =
    let not : nat_eq (length mask) 0 ≡ false = grind (arith, nat_tests, some) in
    let bit : (k : ℕ) → mark_at mask k ≡ mask_bit mask k = λ k. ap (λ b. cond b true (mask_bit mask k)) not in
    let size : r.rows * r.cols ≡ rows * cols = λ i. er i * ec i in
    record {
      raster = sound;
      kind_is = ek;
      rows_are = er;
      cols_are = ec;
      depth_is = ed;
      marks = λ k below. sym (get_or-map is_some r.pixels k None false (omega (arith, below, size, sound.places))) ∙ ap (λ (ms : List Bool). get_or ms k false) marks ∙ bit_of (rows * cols) mask k below ∙ sym (bit k);
      each = λ k d below on less. spelled k d below less (sym (bit k) ∙ on);
    }

pub seen_whole : (kind : PixelType) (rows cols depth : ℕ) (values : List ℕ) (r : Pixels) → IsRaster r → r.kind ≡ kind → r.rows ≡ rows → r.cols ≡ cols → r.depth ≡ depth → marks_of r ≡ replicate (rows * cols) true
    → ((k d : ℕ) → k < rows * cols → d < depth → Spells kind (drop ((k * depth + d) * bytes_of kind) values) (value_in r d k)) → IsGiven kind rows cols depth values [] r
seen_whole kind rows cols depth values r sound ek er ec ed marks spelled =
    let size : r.rows * r.cols ≡ rows * cols = λ i. er i * ec i in
    record {
      raster = sound;
      kind_is = ek;
      rows_are = er;
      cols_are = ec;
      depth_is = ed;
      marks = λ k below. sym (get_or-map is_some r.pixels k None false (omega (arith, below, size, sound.places))) ∙ ap (λ (ms : List Bool). get_or ms k false) marks ∙ get_or-replicate (rows * cols) k true false below;
      each = λ k d below on less. spelled k d below less;
    }
