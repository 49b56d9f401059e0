-- The blob of a raster whose pixels are all alike.
use Rattle.std.proofs.Common.{◌≡◌, ℕ, ◌+◌, ◌*◌, ◌<◌, ◌≤◌, zero, suc, Bool, true, false, cond, List, [], ◌∷◌, ◌++◌, length, replicate, Option, Some, None, refl, sym, ap, ◌∙◌, subst, arith, append-nil}
use Rattle.std.specs.Prelude.{ℤ, pos, IsTrue, ◌↔◌, is_some, unwrap_or, nat_eq, ◌||◌, fold, IfSome}
use Rattle.std.specs.Int.{int_min, int_max}
use Rattle.std.proofs.lemmas.Bool.{eq-eqb}
use Rattle.std.proofs.lemmas.Bool.Decides.{nat_tests, Decides-int_eq}
use Rattle.std.proofs.lemmas.List.{length-replicate, get_or-replicate}
use Rattle.std.proofs.lemmas.List.Elements.{All-replicate}
use Rattle.std.proofs.lemmas.List.Folds.{sum_by-replicate}
use Rattle.std.proofs.Math.Nat.{mul-le-mul_left}
use mir.Syntax.{w64}
use mir.Val.{to_z, of_z}
use Rattle.raster_cells.specs.declared.kind.PixelType.{PixelType}
use Rattle.raster_cells.specs.PixelType.{InRange}
use Rattle.raster_values.specs.Raster.{IsRaster, IsPixel, values_of, valid_count}
use Rattle.raster_cells.specs.Shapes.{IsShape}
use Rattle.raster_values.specs.Flat.{marks_of}
use Rattle.raster_values.proofs.Deep.{values_next}
use Rattle.raster_cells.proofs.ValueBits.{same_bits}
use Rattle.lerc_header.specs.declared.header.Header.{Header}
use Rattle.lerc_header.specs.declared.header.Version.{Version}
use Rattle.lerc_header.specs.declared.header.Version.TheVariants.{V3}
use Rattle.lerc_header.specs.Head.{head_length}
use Rattle.micro_block.specs.ChosenBlock.{least_value}
use Rattle.lerc_encode.specs.AllAlike.{alike}
use Rattle.lerc_encode.specs.Choice.{chosen_blob, chosen_with, header_with, mask_and_image}
use Rattle.lerc_encode.specs.Heads.{header_of}
use Rattle.lerc_encode.specs.Images.{tail, image_bytes, side_at, constant, empty}
use Rattle.lerc_encode.specs.Masks.{mask_part, mask_runs_of}
use Rattle.lerc_encode.specs.Ranges.{greatest_value, is_constant, is_empty}
use Rattle.lerc_encode.proofs.Extremes.{all_least_fits, all_greatest_fits}
use Rattle.lerc_encode.proofs.Forming.{ends_empty, ends_constant}
use Rattle.lerc_encode.specs.Encoded.{NeedsV4}
use Rattle.lerc_encode.specs.inside.Layout.{IsSealed}
use Rattle.lerc_encode.proofs.Encoded.{length_choice}
use Rattle.lerc_encode.proofs.Laying.{length_part, sealed_is}
use Rattle.lerc_encode.proofs.Packing.{alike_is, alike_runs}

-- ---- one value, again and again

fold_same : (f : ℤ → ℤ → ℤ) (v : ℤ) → f v v ≡ v → (m : ℕ) → fold f v (replicate m v) ≡ v
fold_same f v e zero = refl
fold_same f v e (suc m) = ap (λ (a : ℤ). fold f a (replicate m v)) e ∙ fold_same f v e m

either : (b : Bool) (v : ℤ) → cond b v v ≡ v
either true v = refl
either false v = refl

joined : (a b : ℕ) (v : ℤ) → replicate a v ++ replicate b v ≡ replicate (a + b) v
joined zero b v = ap (λ n. replicate n v) (let e : b ≡ 0 + b = omega arith in e)
joined (suc a) b v = ap (λ xs. v ∷ xs) (joined a b v) ∙ ap (λ n. replicate n v) (let e : suc (a + b) ≡ suc a + b = omega arith in e)

values_same : (n d : ℕ) (v : ℤ) → values_of (replicate n (Some (replicate d v))) ≡ replicate (n * d) v
values_same zero d v = ap (λ m. replicate m v) (let e : 0 ≡ 0 * d = omega arith in e)
values_same (suc n) d v =
    values_next (Some (replicate d v)) (replicate n (Some (replicate d v))) ∙ ap (λ xs. replicate d v ++ xs) (values_same n d v) ∙ joined d (n * d) v
    ∙ ap (λ m. replicate m v) (let e : d + n * d ≡ suc n * d = omega arith in e)

no_values : (n : ℕ) → values_of (replicate n None) ≡ []
no_values zero = refl
no_values (suc n) = values_next None (replicate n None) ∙ no_values n

least_same : (m : ℕ) (v : ℤ) → 0 < m → least_value (replicate m v) ≡ v
least_same zero v some = absurd (let no : ⊥ = omega (arith, some) in no)
least_same (suc m) v some = fold_same int_min v (either _ v) m

greatest_same : (m : ℕ) (v : ℤ) → 0 < m → greatest_value (replicate m v) ≡ v
greatest_same zero v some = absurd (let no : ⊥ = omega (arith, some) in no)
greatest_same (suc m) v some = fold_same int_max v (either _ v) m

-- ---- the raster

places_above : (rows cols depth : ℕ) → IsShape rows cols depth → 0 < rows * cols
places_above rows cols depth shape = let a = shape.rows_above in let one : rows * 1 ≤ rows * cols = mul-le-mul_left rows shape.cols_above in omega (arith, a, one)

values_above : (rows cols depth : ℕ) → IsShape rows cols depth → 0 < rows * cols * depth
values_above rows cols depth shape =
    let a = places_above rows cols depth shape in
    let one : rows * cols * 1 ≤ rows * cols * depth = mul-le-mul_left (rows * cols) shape.depth_above in
    omega (arith, a, one)

pub alike_sound : (kind : PixelType) (rows cols depth : ℕ) (value : Option ℤ) → IsShape rows cols depth → IfSome value (InRange kind) → IsRaster (alike kind rows cols depth value)
alike_sound kind rows cols depth None shape h =
    let p : Option (List ℤ) = None in
    record {
      shape = shape;
      places = length-replicate (rows * cols) p;
      each = λ k low. subst (IsPixel kind depth) (sym (get_or-replicate (rows * cols) k p None (subst (λ n. k < n) (length-replicate (rows * cols) p) low))) tt;
    }
alike_sound kind rows cols depth (Some value) shape h =
    let p : Option (List ℤ) = Some (replicate depth value) in
    record {
      shape = shape;
      places = length-replicate (rows * cols) p;
      each = λ k low. subst (IsPixel kind depth) (sym (get_or-replicate (rows * cols) k p None (subst (λ n. k < n) (length-replicate (rows * cols) p) low))) (length-replicate depth value, All-replicate (InRange kind) depth value h);
    }

pub none_count : (kind : PixelType) (rows cols depth : ℕ) → 0 ≡ valid_count (alike kind rows cols depth None)
none_count kind rows cols depth = sym (sum_by-replicate (λ p. cond (is_some p) 1 0) (rows * cols) None ∙ (let e : rows * cols * 0 ≡ 0 = omega arith in e))

pub all_count : (kind : PixelType) (rows cols depth : ℕ) (value : ℤ) → rows * cols ≡ valid_count (alike kind rows cols depth (Some value))
all_count kind rows cols depth value = sym (sum_by-replicate (λ p. cond (is_some p) 1 0) (rows * cols) (Some (replicate depth value)) ∙ (let e : rows * cols * 1 ≡ rows * cols = omega arith in e))

pub none_least : (kind : PixelType) (rows cols depth : ℕ) → pos 0 ≡ least_value (values_of (alike kind rows cols depth None).pixels)
none_least kind rows cols depth = ap least_value (sym (no_values (rows * cols)))

pub none_greatest : (kind : PixelType) (rows cols depth : ℕ) → pos 0 ≡ greatest_value (values_of (alike kind rows cols depth None).pixels)
none_greatest kind rows cols depth = ap greatest_value (sym (no_values (rows * cols)))

pub one_least : (kind : PixelType) (rows cols depth : ℕ) (value : ℤ) → IsShape rows cols depth → value ≡ least_value (values_of (alike kind rows cols depth (Some value)).pixels)
one_least kind rows cols depth value shape =
    sym (least_same (rows * cols * depth) value (values_above rows cols depth shape)) ∙ ap least_value (sym (values_same (rows * cols) depth value))

pub one_greatest : (kind : PixelType) (rows cols depth : ℕ) (value : ℤ) → IsShape rows cols depth → value ≡ greatest_value (values_of (alike kind rows cols depth (Some value)).pixels)
one_greatest kind rows cols depth value shape =
    sym (greatest_same (rows * cols * depth) value (values_above rows cols depth shape)) ∙ ap greatest_value (sym (values_same (rows * cols) depth value))

pub level_bits : (kind : PixelType) (value : Option ℤ) → IfSome value (InRange kind) → to_z w64 (of_z w64 (unwrap_or value (pos 0))) ≡ unwrap_or value (pos 0)
level_bits kind None h = refl
level_bits kind (Some value) h = same_bits kind value h

pub level_least : (kind : PixelType) (rows cols depth : ℕ) (value : Option ℤ) → IsShape rows cols depth → unwrap_or value (pos 0) ≡ least_value (values_of (alike kind rows cols depth value).pixels)
level_least kind rows cols depth None shape = none_least kind rows cols depth
level_least kind rows cols depth (Some value) shape = one_least kind rows cols depth value shape

pub level_greatest : (kind : PixelType) (rows cols depth : ℕ) (value : Option ℤ) → IsShape rows cols depth → unwrap_or value (pos 0) ≡ greatest_value (values_of (alike kind rows cols depth value).pixels)
level_greatest kind rows cols depth None shape = none_greatest kind rows cols depth
level_greatest kind rows cols depth (Some value) shape = one_greatest kind rows cols depth value shape

-- ---- there are neither runs nor an image

pub no_runs : (kind : PixelType) (rows cols depth : ℕ) (value : Option ℤ) → IsShape rows cols depth → IfSome value (InRange kind) → mask_runs_of (marks_of (alike kind rows cols depth value)) ≡ []
no_runs kind rows cols depth None shape h =
    alike_runs (marks_of (alike kind rows cols depth None)) (sym (alike_is (alike kind rows cols depth None) (alike_sound kind rows cols depth None shape h) 0 (none_count kind rows cols depth)))
no_runs kind rows cols depth (Some value) shape h =
    let n = rows * cols in
    let all : (nat_eq n 0 || nat_eq n n) ≡ true = grind (arith, nat_tests) in
    alike_runs (marks_of (alike kind rows cols depth (Some value))) (sym (alike_is (alike kind rows cols depth (Some value)) (alike_sound kind rows cols depth (Some value) shape h) n (all_count kind rows cols depth value)) ∙ all)

no_image : (kind : PixelType) (rows cols depth : ℕ) (value : Option ℤ) (version : Version) (step : ℕ) → IsShape rows cols depth
    → (side_at (tail (alike kind rows cols depth value) version step) ≡ 8) × (image_bytes (alike kind rows cols depth value) version step (tail (alike kind rows cols depth value) version step) ≡ [])
no_image kind rows cols depth None version step shape =
    let r = alike kind rows cols depth None in
    let e : tail r version step ≡ empty = ends_empty r version step (eq-eqb (valid_count r) 0 (sym (none_count kind rows cols depth))) in
    (ap side_at e, ap (image_bytes r version step) e)
no_image kind rows cols depth (Some value) version step shape =
    let r = alike kind rows cols depth (Some value) in
    let some = places_above rows cols depth shape in
    let count = all_count kind rows cols depth value in
    let more : is_empty r ≡ false = (let above : 0 < valid_count r = omega (arith, some, count) in grind (arith, nat_tests, above)) in
    let one : is_constant r ≡ true = (Decides-int_eq (least_value (values_of r.pixels)) (greatest_value (values_of r.pixels))).1 (sym (one_least kind rows cols depth value shape) ∙ one_greatest kind rows cols depth value shape) in
    let e : tail r version step ≡ constant = ends_constant r version step more one in
    (ap side_at e, ap (image_bytes r version step) e)

pub alike_behind : (kind : PixelType) (rows cols depth : ℕ) (value : Option ℤ) (version : Version) (step : ℕ) → IsShape rows cols depth → mask_part [] ≡ mask_and_image [] (alike kind rows cols depth value) version step
unfolding mask_and_image
alike_behind kind rows cols depth value version step shape =
    sym (ap (λ xs. mask_part [] ++ xs) (no_image kind rows cols depth value version step shape).1 ∙ append-nil (mask_part []))

pub alike_long : (kind : PixelType) (rows cols depth : ℕ) (value : Option ℤ) (version : Version) (step : ℕ) → IsShape rows cols depth → length (mask_and_image [] (alike kind rows cols depth value) version step) ≡ 4
alike_long kind rows cols depth value version step shape =
    let part = length_part [] in
    let same = ap length (alike_behind kind rows cols depth value version step shape) in
    omega (arith, part, same)

-- ---- the header and the blob

pub alike_head : (kind : PixelType) (rows cols depth : ℕ) (value : Option ℤ) (version : Version) (step : ℕ) → IsShape rows cols depth → IfSome value (InRange kind) → (valid size : ℕ) (level : ℤ)
    → valid ≡ valid_count (alike kind rows cols depth value) → size ≡ head_length version + 4
    → level ≡ least_value (values_of (alike kind rows cols depth value).pixels) → level ≡ greatest_value (values_of (alike kind rows cols depth value).pixels)
    → ◌≡◌ {A = Header} (record { version = version; checksum = 0; rows = rows; cols = cols; depth = depth; valid = valid; side = 8; size = size; kind = kind; step = step; least = to_z w64 (of_z w64 level); greatest = to_z w64 (of_z w64 level) })
    (header_with [] (alike kind rows cols depth value) version step 0)
unfolding header_with header_of
alike_head kind rows cols depth value version step shape h valid size level count long least greatest =
    by value shape h count least greatest (sym (no_image kind rows cols depth value version step shape).0) (long ∙ (let e = alike_long kind rows cols depth value version step shape in omega (arith, e)))
  where
    by : (value : Option ℤ) → IsShape rows cols depth → IfSome value (InRange kind) → valid ≡ valid_count (alike kind rows cols depth value)
        → level ≡ least_value (values_of (alike kind rows cols depth value).pixels) → level ≡ greatest_value (values_of (alike kind rows cols depth value).pixels)
        → 8 ≡ side_at (tail (alike kind rows cols depth value) version step) → size ≡ head_length version + length (mask_and_image [] (alike kind rows cols depth value) version step)
        → ◌≡◌ {A = Header} (record { version = version; checksum = 0; rows = rows; cols = cols; depth = depth; valid = valid; side = 8; size = size; kind = kind; step = step; least = to_z w64 (of_z w64 level); greatest = to_z w64 (of_z w64 level) })
        (header_with [] (alike kind rows cols depth value) version step 0)
    by None shape h count least greatest side size_is =
        let r = alike kind rows cols depth None in
        let low = ap (λ (z : ℤ). to_z w64 (of_z w64 z)) least ∙ same_bits kind (least_value (values_of r.pixels)) (all_least_fits r (alike_sound kind rows cols depth None shape h)) in
        let high = ap (λ (z : ℤ). to_z w64 (of_z w64 z)) greatest ∙ same_bits kind (greatest_value (values_of r.pixels)) (all_greatest_fits r (alike_sound kind rows cols depth None shape h)) in
        λ t. record { version = version; checksum = 0; rows = rows; cols = cols; depth = depth; valid = count t; side = side t; size = size_is t; kind = kind; step = step; least = low t; greatest = high t }
    by (Some v) shape h count least greatest side size_is =
        let r = alike kind rows cols depth (Some v) in
        let low = ap (λ (z : ℤ). to_z w64 (of_z w64 z)) least ∙ same_bits kind (least_value (values_of r.pixels)) (all_least_fits r (alike_sound kind rows cols depth (Some v) shape h)) in
        let high = ap (λ (z : ℤ). to_z w64 (of_z w64 z)) greatest ∙ same_bits kind (greatest_value (values_of r.pixels)) (all_greatest_fits r (alike_sound kind rows cols depth (Some v) shape h)) in
        λ t. record { version = version; checksum = 0; rows = rows; cols = cols; depth = depth; valid = count t; side = side t; size = size_is t; kind = kind; step = step; least = low t; greatest = high t }

pub alike_blob : (kind : PixelType) (rows cols depth : ℕ) (value : Option ℤ) (version : Version) (step : ℕ) → IsShape rows cols depth → IfSome value (InRange kind)
    → chosen_with [] (alike kind rows cols depth value) version step ≡ chosen_blob (alike kind rows cols depth value) version step
unfolding chosen_blob
alike_blob kind rows cols depth value version step shape h = ap (λ (runs : List ℕ). chosen_with runs (alike kind rows cols depth value) version step) (sym (no_runs kind rows cols depth value shape h))

pub alike_size : (kind : PixelType) (rows cols depth : ℕ) (value : Option ℤ) (version : Version) (step : ℕ) → IsShape rows cols depth → IfSome value (InRange kind)
    → length (chosen_blob (alike kind rows cols depth value) version step) ≡ head_length version + 4
alike_size kind rows cols depth value version step shape h =
    ap length (sym (alike_blob kind rows cols depth value version step shape h)) ∙ length_choice [] (alike kind rows cols depth value) version step
    ∙ ap (λ n. head_length version + n) (alike_long kind rows cols depth value version step shape)

pub alike_laid : (kind : PixelType) (rows cols depth : ℕ) (value : Option ℤ) (version : Version) (step : ℕ) → IsShape rows cols depth → IfSome value (InRange kind) → (h : Header) (blob : List ℕ)
    → h ≡ header_with [] (alike kind rows cols depth value) version step 0 → IsSealed h (mask_part []) blob → blob ≡ chosen_blob (alike kind rows cols depth value) version step
alike_laid kind rows cols depth value version step shape range h blob is sealed =
    sealed_is [] (alike kind rows cols depth value) version step h (mask_part []) blob is (alike_behind kind rows cols depth value version step shape) sealed
    ∙ alike_blob kind rows cols depth value version step shape range

pub alike_fits : (kind : PixelType) (rows cols depth : ℕ) (value : Option ℤ) (version : Version) (b : Bool) → b ≡ false → (IsTrue b ↔ ((version ≡ V3) × (1 < depth))) → NeedsV4 version (alike kind rows cols depth value) → ⊥
alike_fits kind rows cols depth None version b off tells needs = let t : b ≡ true = tells.1 needs in cc
alike_fits kind rows cols depth (Some value) version b off tells needs = let t : b ≡ true = tells.1 needs in cc
