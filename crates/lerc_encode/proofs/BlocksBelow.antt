-- Every byte of what stands for values is below 256.
use Rattle.std.proofs.Common.{◌≡◌, ℕ, ◌+◌, ◌^◌, ◌<◌, ◌≤◌, suc, Bool, true, false, List, [], ◌∷◌, ◌++◌, length, map, arith}
use Rattle.std.specs.Prelude.{ℤ, slice_index, nat_le, not, ◌&&◌, if◌then◌else◌}
use Rattle.std.specs.List.{range_with_len}
use Rattle.std.proofs.lemmas.Bool.{leb-true, ltb-true}
use Rattle.byteorder.specs.Endian.{little_bytes}
use Rattle.bit_stuff.specs.Head.{chosen_code, count_size, list_head_bytes, table_flag}
use Rattle.bit_stuff.specs.Simple.{binary_digits, greatest_number, simple_bytes, width_of}
use Rattle.bit_stuff.specs.Stuffed.{number_of_values, stuffed_bytes, stuffed_size}
use Rattle.bit_stuff.proofs.Digits.{digits-le}
use Rattle.bit_stuff.proofs.HeadLaws.{chosen_code-lt}
use Rattle.bit_stuff.proofs.Numbers.{little_bytes-lt}
use Rattle.lut_stuff.specs.Tables.{distinct_above_0, entries_of, index_in, table_bytes}
use Rattle.raster_cells.specs.declared.kind.PixelType.{PixelType}
use Rattle.raster_cells.specs.declared.kind.PixelType.TheVariants.{I8, U8, I16, U16, I32, U32}
use Rattle.raster_cells.specs.PixelType.{bytes_of, complement_of, value_bytes}
use Rattle.raster_cells.specs.Values.{values_bytes}
use Rattle.raster_values.specs.Raster.{Pixels}
use Rattle.raster_cells.proofs.Every.{Every, every_append, every_flat_map}
use Rattle.lerc_header.specs.declared.header.Header.{Header}
use Rattle.micro_block.specs.ChosenBlock as micro
use Rattle.micro_block.specs.ChosenBlock.{WrittenForm, May, block_bytes, chosen_form, written_form_bytes, holds, is_flat, is_stuffable, least_value, narrow_type, narrowest, narrow_code, offset_bytes, quantised_values, tag_byte}
use Rattle.micro_block.proofs.Written.{chosen_may, left, right}
use Rattle.lerc_grammar.specs.Blocks.{block_col, coded_blocks, coded_values}
use Rattle.lerc_encode.specs.Images.{blocks_bytes, coded_bytes}
use Rattle.lerc_encode.proofs.Sums.{AreBelow}

pub joined : (xs ys : List ℕ) → AreBelow xs → AreBelow ys → AreBelow (xs ++ ys)
joined xs ys h k = every_append (λ b. b < 256) xs ys h k

indexed : (xs : List ℕ) → ((i : ℕ) → slice_index xs i < 256) → AreBelow xs
indexed [] h = tt
indexed (x ∷ xs) h = (h 0, indexed xs (λ i. h (suc i)))

pub little : (n x : ℕ) → AreBelow (little_bytes n x)
little n x = indexed (little_bytes n x) (little_bytes-lt n x)

always : {X : Type 0} (P : X → Type 0) (xs : List X) → ((x : X) → P x) → Every P xs
always P [] h = tt
always P (x ∷ xs) h = (h x, always P xs h)

pub values_below : (kind : PixelType) (xs : List ℤ) → AreBelow (values_bytes kind xs)
values_below kind xs =
    every_flat_map (λ b. b < 256) (value_bytes kind) xs (always (λ v. AreBelow (value_bytes kind v)) xs (λ v. little (bytes_of kind) (complement_of (bytes_of kind) v)))

-- ---- lists

flag_low : (table : Bool) → table_flag table ≤ 1
flag_low true = omega arith
flag_low false = omega arith

head_below : (w : ℕ) (table : Bool) (n : ℕ) → w < 32 → AreBelow (list_head_bytes w table n)
unfolding list_head_bytes
head_below w table n low =
    (let code = chosen_code-lt n in let flag = flag_low table in omega (arith, low, code, flag), little (count_size (chosen_code n)) n)

stuffed_below : (w : ℕ) (xs : List ℕ) → AreBelow (stuffed_bytes w xs)
unfolding stuffed_bytes
stuffed_below w xs = little (stuffed_size (length xs) w) (number_of_values w xs)

pub simple_below : (xs : List ℕ) → width_of xs < 32 → AreBelow (simple_bytes xs)
unfolding simple_bytes
simple_below xs low =
    joined (list_head_bytes (width_of xs) false (length xs)) (stuffed_bytes (width_of xs) xs) (head_below (width_of xs) false (length xs) low) (stuffed_below (width_of xs) xs)

table_below : (xs : List ℕ) → width_of xs < 32 → distinct_above_0 xs ≤ 254 → AreBelow (table_bytes xs)
unfolding table_bytes
table_below xs low few =
    let entries = stuffed_bytes (width_of xs) (entries_of xs) in
    let indexes = stuffed_bytes (binary_digits (distinct_above_0 xs)) (map (index_in (entries_of xs)) xs) in
    joined (list_head_bytes (width_of xs) true (length xs)) ((distinct_above_0 xs + 1) ∷ (entries ++ indexes)) (head_below (width_of xs) true (length xs) low)
    (omega (arith, few), joined entries indexes (stuffed_below (width_of xs) (entries_of xs)) (stuffed_below (binary_digits (distinct_above_0 xs)) (map (index_in (entries_of xs)) xs)))

-- ---- blocks

pick : (P : ℕ × PixelType → Type 0) (b : Bool) (x y : ℕ × PixelType) → P x → P y → P (if b then x else y)
pick P true x y h k = h
pick P false x y h k = k

abbrev HasCode : ℕ × PixelType → Type 0
HasCode named = named.0 ≤ 3

narrow_few : (kind : PixelType) (v : ℤ) → HasCode (narrowest kind v)
narrow_few I8 v = omega arith
narrow_few U8 v = omega arith
narrow_few I16 v = pick HasCode (holds I8 v) (2, I8) _ (omega arith) (pick HasCode (holds U8 v) (1, U8) (0, I16) (omega arith) (omega arith))
narrow_few U16 v = pick HasCode (holds U8 v) (1, U8) (0, U16) (omega arith) (omega arith)
narrow_few I32 v =
    pick HasCode (holds U8 v) (3, U8) _ (omega arith)
    (pick HasCode (holds I16 v) (2, I16) _ (omega arith) (pick HasCode (holds U16 v) (1, U16) (0, I32) (omega arith) (omega arith)))
narrow_few U32 v = pick HasCode (holds U8 v) (2, U8) _ (omega arith) (pick HasCode (holds U16 v) (1, U16) (0, U32) (omega arith) (omega arith))

tag_below : (col form code : ℕ) → form ≤ 3 → code ≤ 3 → tag_byte col form code < 256
tag_below col form code h k = omega (arith, h, k)

offset_below : (kind : PixelType) (v : ℤ) → AreBelow (offset_bytes kind v)
unfolding offset_bytes
offset_below kind v = little (bytes_of (narrow_type kind v)) (complement_of (bytes_of (narrow_type kind v)) v)

width_low : (step : ℕ) (values : List ℤ) → is_stuffable step values ≡ true → width_of (quantised_values step values) < 32
width_low step values h =
    let n = greatest_number (quantised_values step values) in
    let few : binary_digits n ≤ 30 = digits-le 30 n (ltb-true n (2 ^ 30) h) in
    omega (arith, few)

form_below : (kind : PixelType) (col step : ℕ) (values : List ℤ) (form : WrittenForm) → May step values form → AreBelow (written_form_bytes kind col step values form)
unfolding written_form_bytes
form_below kind col step values micro.zero may = (tag_below col 2 0 (omega arith) (omega arith), tt)
form_below kind col step values micro.constant may =
    (tag_below col 3 (narrow_code kind (least_value values)) (omega arith) (narrow_few kind (least_value values)), offset_below kind (least_value values))
form_below kind col step values micro.raw may = (tag_below col 0 0 (omega arith) (omega arith), values_below kind values)
form_below kind col step values micro.simple may =
    let stuffable = right (not (is_flat step values)) (is_stuffable step values) may in (
      tag_below col 1 (narrow_code kind (least_value values)) (omega arith) (narrow_few kind (least_value values)),
      joined (offset_bytes kind (least_value values)) (simple_bytes (quantised_values step values)) (offset_below kind (least_value values)) (simple_below (quantised_values step values) (width_low step values stuffable)),
    )
form_below kind col step values micro.table may =
    let few = nat_le (distinct_above_0 (quantised_values step values)) 254 in
    let both = right (not (is_flat step values)) (is_stuffable step values && few) may in
    let stuffable = left (is_stuffable step values) few both in
    let low = leb-true (distinct_above_0 (quantised_values step values)) 254 (right (is_stuffable step values) few both) in (
      tag_below col 1 (narrow_code kind (least_value values)) (omega arith) (narrow_few kind (least_value values)),
      joined (offset_bytes kind (least_value values)) (table_bytes (quantised_values step values)) (offset_below kind (least_value values)) (table_below (quantised_values step values) (width_low step values stuffable) low),
    )

block_below : (kind : PixelType) (col step : ℕ) (values : List ℤ) → AreBelow (block_bytes kind col step values)
unfolding block_bytes
block_below kind col step values = form_below kind col step values (chosen_form kind col step values) (chosen_may kind col step values)

pub blocks_below : (h : Header) (r : Pixels) → AreBelow (blocks_bytes h r)
unfolding blocks_bytes
blocks_below h r =
    every_flat_map (λ b. b < 256) (coded_bytes h r) (range_with_len 0 (coded_blocks h))
    (always (λ k. AreBelow (coded_bytes h r k)) (range_with_len 0 (coded_blocks h)) (λ k. block_below h.kind (block_col h k) h.step (coded_values h r k)))
