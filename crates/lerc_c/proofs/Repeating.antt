-- Bytes that repeat those before them, and the rasters whose pixels are all alike.
use Rattle.std.proofs.Common.{◌≡◌, ℕ, ◌+◌, ◌-◌, ◌*◌, ◌/◌, ◌%◌, ◌^◌, ◌<◌, ◌≤◌, ◌⊎◌, inl, inr, zero, suc, true, false, cond, List, [], ◌++◌, length, length-append, get_or, slice_index, take, drop, replicate, Option, None, Some, refl, sym, ap, ◌∙◌, subst, arith}
use Rattle.std.specs.Prelude.{ℤ, pos, is_some, unwrap_or, nat_eq}
use Rattle.std.proofs.lemmas.Bool.{cases_lt}
use Rattle.std.proofs.lemmas.List.{get_or-drop, get_or-take, get_or_past, get_or-replicate}
use Rattle.std.proofs.lemmas.Nat.{div_below, pow_pos}
use Rattle.std.proofs.Math.Nat.{mul-le-mul_right}
use Rattle.lerc_encode.specs.Endian.{little_from}
use Rattle.raster_cells.specs.declared.kind.PixelType.{PixelType}
use Rattle.raster_cells.specs.PixelType.{InRange, Spells, bytes_of, value_of}
use Rattle.raster_cells.specs.Masks.{mask_bit}
use Rattle.raster_cells.specs.Shapes.{IsShape}
use Rattle.raster_values.specs.Flat.{value_in}
use Rattle.lerc_encode.specs.AllAlike.{alike}
use Rattle.lerc_encode.proofs.AlikeBlobs.{alike_sound}
use Rattle.lerc_c.specs.Arrays.{IsGiven, mark_at}
use Rattle.lerc_c.specs.inside.Repeated.{IsOneValue}
use Rattle.lerc_c.proofs.Giving.{none_is_nil}

-- ---- bytes that repeat those before them

next_byte : (size : ℕ) (xs : List ℕ) (j : ℕ) → drop size xs ≡ take (length xs - size) xs → size + j < length xs → get_or xs (size + j) 0 ≡ get_or xs j 0
next_byte size xs j e low = sym (get_or-drop size xs j 0) ∙ ap (λ (ys : List ℕ). get_or ys j 0) e ∙ get_or-take (length xs - size) xs j 0 (omega (arith, low))

first_byte : (size : ℕ) (xs : List ℕ) (k j : ℕ) → drop size xs ≡ take (length xs - size) xs → k * size + j < length xs → get_or xs (k * size + j) 0 ≡ get_or xs j 0
first_byte size xs zero j e low = ap (λ n. get_or xs n 0) (let t : 0 * size + j ≡ j = omega arith in t)
first_byte size xs (suc k) j e low =
    let at : suc k * size + j ≡ size + (k * size + j) = omega arith in
    ap (λ n. get_or xs n 0) at ∙ next_byte size xs (k * size + j) e (omega (arith, low)) ∙ first_byte size xs k j e (omega (arith, low))

same_from : (n i : ℕ) (xs ys : List ℕ) → ((j : ℕ) → i ≤ j → j < i + n → slice_index xs j ≡ slice_index ys j) → little_from i n xs ≡ little_from i n ys
same_from zero i xs ys h = refl
same_from (suc n) i xs ys h =
    let first = h i (omega arith) (omega arith) in
    let rest = same_from n (suc i) xs ys (λ j lo hi. h j (omega (arith, lo)) (omega (arith, hi))) in
    λ t. first t + 256 * rest t

pub told_drop : (xs : List ℕ) (size n : ℕ) → size ≡ n → drop size xs ≡ take (length xs - size) xs → drop n xs ≡ take (length xs - n) xs
told_drop xs size n same e = subst (λ m. drop m xs ≡ take (length xs - m) xs) same e

pub one_is : (kind : PixelType) (xs : List ℕ) (v : ℤ) → drop (bytes_of kind) xs ≡ take (length xs - bytes_of kind) xs → InRange kind v → Spells kind xs v → IsOneValue kind xs v
one_is kind xs v e range spelled = record {
  in_range = range;
  each = λ k low.
      let n = bytes_of kind in
      spelled ∙ ap (value_of kind) (same_from n 0 xs (drop (k * n) xs) (λ j lo hi. sym (get_or-drop (k * n) xs j 0 ∙ first_byte n xs k j e (omega (arith, low, hi)))));
}

pub all_zero : (xs : List ℕ) → get_or xs 0 0 ≡ 0 → drop 1 xs ≡ take (length xs - 1) xs → (k : ℕ) → get_or xs k 0 ≡ 0
all_zero xs first e zero = first
all_zero xs first e (suc k) = by (cases_lt (1 + k) (length xs)) (all_zero xs first e k)
  where
    at : suc k ≡ 1 + k
    at = omega arith

    by : (1 + k < length xs) ⊎ (length xs ≤ 1 + k) → get_or xs k 0 ≡ 0 → get_or xs (suc k) 0 ≡ 0
    by (inl low) before = ap (λ n. get_or xs n 0) at ∙ next_byte 1 xs k e low ∙ before
    by (inr past) before = get_or_past xs (suc k) 0 (omega (arith, past))

-- ---- the rasters

-- of no bytes that are not 0 no bit is 1
no_bit : (mask : List ℕ) → ((k : ℕ) → get_or mask k 0 ≡ 0) → (k : ℕ) → mask_bit mask k ≡ false
no_bit mask zeros k =
    let d : ℕ = 2 ^ (7 - k % 8) in
    let above : 0 < d = pow_pos (7 - k % 8) in
    let none : 0 / d < 1 = div_below 0 d 1 above (omega (arith, above)) in
    let rest : 0 / d % 2 ≡ 0 = omega (arith, none) in
    ap (λ b. nat_eq (b / d % 2) 1) (zeros (k / 8)) ∙ ap (λ n. nat_eq n 1) rest

pub none_given : (kind : PixelType) (rows cols depth : ℕ) (values mask : List ℕ) → IsShape rows cols depth → nat_eq (length mask) 0 ≡ false → ((k : ℕ) → get_or mask k 0 ≡ 0)
    → IsGiven kind rows cols depth values mask (alike kind rows cols depth None)
none_given kind rows cols depth values mask shape some zeros =
    let off : (k : ℕ) → mark_at mask k ≡ false = λ k. ap (λ b. cond b true (mask_bit mask k)) some ∙ no_bit mask zeros k in
    record {
      raster = alike_sound kind rows cols depth None shape tt;
      kind_is = refl;
      rows_are = refl;
      cols_are = refl;
      depth_is = refl;
      marks = λ k low. ap is_some (get_or-replicate (rows * cols) k None None low) ∙ sym (off k);
      each = λ k d low on deep. absurd (let no = sym (off k) ∙ on in cc);
    }

place_fits : (k d n depth b : ℕ) → k < n → d < depth → (k * depth + d) * b + b ≤ n * depth * b
place_fits k d n depth b low deep =
    let inner : k * depth + d + 1 ≤ (k + 1) * depth = omega (arith, deep) in
    let outer : (k + 1) * depth ≤ n * depth = mul-le-mul_right depth (omega (arith, low)) in
    let all : (k * depth + d + 1) * b ≤ n * depth * b = mul-le-mul_right b (omega (arith, inner, outer)) in
    omega (arith, all)

pub one_given : (kind : PixelType) (rows cols depth : ℕ) (values mask : List ℕ) (v : ℤ) → IsShape rows cols depth → length mask ≡ 0 → length values ≡ rows * cols * depth * bytes_of kind → IsOneValue kind values v
    → IsGiven kind rows cols depth values mask (alike kind rows cols depth (Some v))
one_given kind rows cols depth values mask v shape none size one =
    let p : Option (List ℤ) = Some (replicate depth v) in
    let on : (k : ℕ) → mark_at mask k ≡ true = λ k. ap (λ (xs : List ℕ). mark_at xs k) (none_is_nil mask none) in
    record {
      raster = alike_sound kind rows cols depth (Some v) shape one.in_range;
      kind_is = refl;
      rows_are = refl;
      cols_are = refl;
      depth_is = refl;
      marks = λ k low. ap is_some (get_or-replicate (rows * cols) k p None low) ∙ sym (on k);
      each = λ k d low there deep.
          let here : value_in (alike kind rows cols depth (Some v)) d k ≡ v = ap (λ (q : Option (List ℤ)). get_or (unwrap_or q []) d (pos 0)) (get_or-replicate (rows * cols) k p None low) ∙ get_or-replicate depth d v (pos 0) deep in
          here ∙ one.each (k * depth + d) (let fits = place_fits k d (rows * cols) depth (bytes_of kind) low deep in omega (arith, fits, size));
    }

-- ---- their blobs

pub alike_deep : (kind : PixelType) (rows cols depth : ℕ) (value : Option ℤ) → 1 < (alike kind rows cols depth value).depth → 1 < depth
alike_deep kind rows cols depth None more = more
alike_deep kind rows cols depth (Some value) more = more

-- what is laid over the front of a list that stays as long fits into it
pub blob_fits : (blob old new : List ℕ) (n : ℕ) → n ≡ length blob → new ≡ blob ++ drop n old → length new ≡ length old → n ≤ length old
blob_fits blob old new n size laid same =
    let joined = length-append blob (drop n old) in
    let all = ap length laid in
    omega (arith, size, joined, all, same)
