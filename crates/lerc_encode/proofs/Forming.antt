-- The forms of an image's values, and the choice among them.
use Rattle.std.proofs.Common.{◌≡◌, ℕ, ◌+◌, ◌-◌, ◌*◌, ◌/◌, ◌<◌, ◌≤◌, Bool, true, false, List, [], ◌∷◌, ◌++◌, length, take, drop, get_or, refl, sym, ap, ◌∙◌, subst, arith, length-append}
use Rattle.std.specs.Prelude.{ℤ, pos, nat_eq, ◌&&◌, if◌then◌else◌, set}
use Rattle.std.proofs.lemmas.Bool.{eqb-true}
use Rattle.std.proofs.lemmas.List.{append-nil, drop_all, take_all}
use Rattle.std.proofs.Math.Nat.{mul-le-mul_right}
use Rattle.std.proofs.lemmas.Bool.Decides.{nat_tests, Decides-int_eq}
use Rattle.std.specs.Ordering.{int_eq}
use Rattle.std.specs.Cmp.Lexicographic.{pointwise}
use Rattle.std.proofs.lemmas.List.Concat.{flat_map-append}
use Rattle.std.proofs.Math.ListN.{length-set}
use borrow.Rule.Slice.PartMut.{put_mid}
use mir.Syntax.{w64}
use mir.Val.{to_z, of_z}
use Rattle.bit_stuff.proofs.Buffers.{end_written}
use Rattle.raster_cells.specs.declared.kind.PixelType.{PixelType}
use Rattle.raster_cells.specs.PixelType.{InRange, bytes_of, value_bytes}
use Rattle.raster_values.specs.Raster.{Pixels, IsRaster, values_of, valid_count}
use Rattle.raster_cells.specs.Values.{values_bytes}
use Rattle.raster_cells.proofs.Pack.{length-values_bytes, value_put}
use Rattle.lerc_header.specs.declared.header.Header.{Header}
use Rattle.lerc_header.specs.declared.header.Version.{Version}
use Rattle.lerc_header.specs.declared.header.Version.TheVariants.{V4}
use Rattle.micro_block.specs.ChosenBlock.{least_value}
use Rattle.raster_cells.proofs.ValueBits.{same_bits}
use Rattle.lerc_encode.specs.Heads.{header_of}
use Rattle.lerc_encode.specs.Ranges.{greatest_value, leasts, greatests, lists_bytes, has_equal_ranges, is_constant, is_empty}
use Rattle.lerc_encode.specs.Images as images
use Rattle.lerc_encode.specs.Images.{blocks_bytes, mode_bytes, coded_form_bytes, chosen_coded_form, tail, is_v4}
use Rattle.lerc_encode.specs.inside.Blocked.{IsBlocked}
use Rattle.lerc_encode.specs.inside.Choosing.{IsBase}
use Rattle.lerc_encode.proofs.Extremes.{all_least_fits, all_greatest_fits, length_values, length_leasts, length_greatests}

-- ---- the header so far

pub base_blocked : (h : Header) (r : Pixels) → IsBase h r → IsBlocked h r
unfolding header_of
base_blocked h r b =
    let is = b.is in
    record {
      sound = b.sound;
      kind = ap (λ (x : Header). x.kind) is;
      rows = ap (λ (x : Header). x.rows) is;
      cols = ap (λ (x : Header). x.cols) is;
      depth = ap (λ (x : Header). x.depth) is;
      side_above = let e : h.side ≡ 8 = ap (λ (x : Header). x.side) is in omega (arith, e);
      side_below = let e : h.side ≡ 8 = ap (λ (x : Header). x.side) is in omega (arith, e);
      step = b.step;
    }

pub large_blocked : (h g : Header) (r : Pixels) → IsBase h r → g ≡ record h { side = 16 } → IsBlocked g r
large_blocked h g r b e =
    let is = base_blocked h r b in
    subst (λ (x : Header). IsBlocked x r) (sym e) (record { sound = is.sound; kind = is.kind; rows = is.rows; cols = is.cols; depth = is.depth; side_above = omega arith; side_below = omega arith; step = is.step })

-- ---- forms

pub sweep_is : (r : Pixels) (version : Version) (step : ℕ) → 1 ∷ values_bytes r.kind (values_of r.pixels) ≡ coded_form_bytes r version step images.sweep
unfolding coded_form_bytes
sweep_is r version step = refl

pub small_is : (h : Header) (r : Pixels) → IsBase h r → 0 ∷ (mode_bytes r h.step ++ blocks_bytes h r) ≡ coded_form_bytes r h.version h.step images.blocks_8
unfolding coded_form_bytes
small_is h r b = ap (λ (x : Header). 0 ∷ (mode_bytes r h.step ++ blocks_bytes x r)) b.is

pub large_header : (h : Header) (r : Pixels) → IsBase h r → record h { side = 16 } ≡ header_of r h.version h.step 16 0 0
unfolding header_of
large_header h r b = ap (λ (x : Header). record x { side = 16 }) b.is

pub large_is : (h g : Header) (r : Pixels) → IsBase h r → g ≡ record h { side = 16 } → 0 ∷ (mode_bytes r g.step ++ blocks_bytes g r) ≡ coded_form_bytes r h.version h.step images.blocks_16
unfolding coded_form_bytes
large_is h g r b e = ap (λ (x : Header). 0 ∷ (mode_bytes r x.step ++ blocks_bytes x r)) e ∙ ap (λ (x : Header). 0 ∷ (mode_bytes r h.step ++ blocks_bytes x r)) (large_header h r b)

-- ---- lengths

pub length_sweep : (r : Pixels) → IsRaster r → (valid depth bytes : ℕ) → valid ≡ valid_count r → depth ≡ r.depth → bytes ≡ bytes_of r.kind → 1 + valid * depth * bytes ≡ length (1 ∷ values_bytes r.kind (values_of r.pixels))
length_sweep r is valid depth bytes v d b =
    let long = length-values_bytes r.kind (values_of r.pixels) in
    let same : valid * depth * bytes ≡ length (values_of r.pixels) * bytes_of r.kind = (λ t. v t * d t * b t) ∙ ap (λ n. n * bytes_of r.kind) (sym (length_values r is)) in
    omega (arith, long, same)

front_half : (r : Pixels) (vs : List ℤ) → length vs ≡ r.depth → length (values_bytes r.kind vs) ≡ r.depth * bytes_of r.kind
front_half r vs e = length-values_bytes r.kind vs ∙ ap (λ n. n * bytes_of r.kind) e

pub front_split : (kind : PixelType) (vs ws : List ℤ) → values_bytes kind (vs ++ ws) ≡ values_bytes kind vs ++ values_bytes kind ws
front_split kind vs ws = flat_map-append (value_bytes kind) vs ws

pub length_front : (r : Pixels) → length (lists_bytes r V4) ≡ 2 * (r.depth * bytes_of r.kind)
length_front r =
    let a = front_half r (leasts r) (length_leasts r) in
    let b = front_half r (greatests r) (length_greatests r) in
    let both : length (lists_bytes r V4) ≡ length (values_bytes r.kind (leasts r)) + length (values_bytes r.kind (greatests r)) = ap length (front_split r.kind (leasts r) (greatests r)) ∙ length-append (values_bytes r.kind (leasts r)) (values_bytes r.kind (greatests r)) in
    omega (arith, a, b, both)

pub front_long : (r : Pixels) (depth bytes : ℕ) → depth ≡ r.depth → bytes ≡ bytes_of r.kind → 2 * depth * bytes ≡ length (lists_bytes r V4)
front_long r depth bytes d b = (λ t. 2 * d t * b t) ∙ (let e : 2 * r.depth * bytes_of r.kind ≡ 2 * (r.depth * bytes_of r.kind) = omega arith in e) ∙ sym (length_front r)

-- a value of the type is the same as a number of 64 bits
pub as_kept : (kind : PixelType) (v want : ℤ) → v ≡ want → InRange kind want → to_z w64 (of_z w64 v) ≡ want
as_kept kind v want is fits = ap (λ (z : ℤ). to_z w64 (of_z w64 z)) is ∙ same_bits kind want fits

pub kept_fits : (kind other : PixelType) (v want : ℤ) → other ≡ kind → v ≡ want → InRange kind want → InRange other (to_z w64 (of_z w64 v))
kept_fits kind other v want same is fits =
    subst (λ (t : PixelType). InRange t (to_z w64 (of_z w64 v))) (sym same) (subst (InRange kind) (sym (as_kept kind v want is fits)) fits)

-- the value of one depth more, in its place
pub list_put : (kind : PixelType) (vs : List ℤ) (out old piece : List ℕ) (d size : ℕ) (v : ℤ) → d < length vs → length old ≡ length vs * bytes_of kind → length out ≡ length old → size ≡ bytes_of kind → v ≡ get_or vs d (pos 0)
    → out ≡ values_bytes kind (take d vs) ++ drop (d * bytes_of kind) old
    → piece ≡ value_bytes kind v ++ drop (bytes_of kind) (take (length out - d * size) (drop (d * size) out))
    → put_mid (d * size) (length out - d * size) out piece ≡ values_bytes kind (take (d + 1) vs) ++ drop ((d + 1) * bytes_of kind) old
list_put kind vs out old piece d size v low room same is_size is_value is laid =
    let up : (d + 1) * bytes_of kind ≤ length vs * bytes_of kind = mul-le-mul_right (bytes_of kind) (omega (arith, low)) in
    subst (λ s. piece ≡ value_bytes kind v ++ drop (bytes_of kind) (take (length out - d * s) (drop (d * s) out)) → put_mid (d * s) (length out - d * s) out piece ≡ values_bytes kind (take (d + 1) vs) ++ drop ((d + 1) * bytes_of kind) old)
    (sym is_size)
    (λ l. value_put kind vs out old piece d low (omega (arith, room)) same (omega (arith, up, room)) is (l ∙ ap (λ (x : ℤ). value_bytes kind x ++ drop (bytes_of kind) (take (length out - d * bytes_of kind) (drop (d * bytes_of kind) out))) is_value))
    laid

-- and all of them
pub list_whole : (kind other : PixelType) (vs : List ℤ) (out old : List ℕ) (d : ℕ) → kind ≡ other → length old ≡ length vs * bytes_of kind → d ≡ length vs → out ≡ values_bytes kind (take d vs) ++ drop (d * bytes_of kind) old → out ≡ values_bytes other vs
list_whole kind other vs out old d same room all is =
    is
    ∙ (λ t. values_bytes kind (take_all d vs (omega (arith, all)) t) ++ drop_all (d * bytes_of kind) old (let e : d * bytes_of kind ≡ length vs * bytes_of kind = ap (λ n. n * bytes_of kind) all in omega (arith, e, room)) t)
    ∙ append-nil (values_bytes kind vs) ∙ ap (λ (k : PixelType). values_bytes k vs) same

-- ---- what is written behind a byte or two

abbrev pub mode_if : Bool → List ℕ
mode_if b = if b then 0 ∷ [] else []

pub behind_two : (out new all : List ℕ) (b : Bool) → b ≡ true → length out ≡ length (0 ∷ (mode_if b ++ all)) → new ≡ all
    → put_mid 2 (length (set (set out 0 0) 1 0) - 2) (set (set out 0 0) 1 0) new ≡ 0 ∷ (mode_if b ++ all)
behind_two [] new all b on room e = absurd (omega (arith, room))
behind_two (x ∷ []) new all b on room e = absurd (let two = ap (λ (c : Bool). length (0 ∷ (mode_if c ++ all))) on in omega (arith, room, two))
behind_two (x ∷ y ∷ zs) new all b on room e =
    end_written (0 ∷ 0 ∷ []) zs new 2 (length (0 ∷ 0 ∷ zs) - 2) refl (omega arith) ∙ ap (λ (u : List ℕ). 0 ∷ 0 ∷ u) e ∙ ap (λ (c : Bool). 0 ∷ (mode_if c ++ all)) (sym on)

pub behind_one : (first : ℕ) (out new all : List ℕ) → 0 < length out → new ≡ all → put_mid 1 (length (set out 0 first) - 1) (set out 0 first) new ≡ first ∷ all
behind_one first [] new all some e = absurd (omega (arith, some))
behind_one first (x ∷ xs) new all some e = end_written (first ∷ []) xs new 1 (length (first ∷ xs) - 1) refl (omega arith) ∙ ap (λ (u : List ℕ). first ∷ u) e

-- ---- numbers and lists that are the same

one_number : (a b : ℤ) → int_eq a b ≡ true → a ≡ b
one_number a b e = (Decides-int_eq a b).0 e

true_both : (p q : Bool) → (p ≡ true → q ≡ true) → (q ≡ true → p ≡ true) → p ≡ q
true_both true q f g = sym (f refl)
true_both false true f g = g refl
true_both false false f g = refl

eq_true : (a b : ℕ) → a ≡ b → nat_eq a b ≡ true
eq_true a b e = grind (arith, nat_tests, e)

pub same_test : (kind : PixelType) (a b : ℤ) → InRange kind a → InRange kind b → nat_eq (of_z w64 a) (of_z w64 b) ≡ int_eq a b
same_test kind a b fa fb =
    true_both (nat_eq (of_z w64 a) (of_z w64 b)) (int_eq a b)
    (λ t. (Decides-int_eq a b).1 (sym (same_bits kind a fa) ∙ ap (to_z w64) (eqb-true (of_z w64 a) (of_z w64 b) t) ∙ same_bits kind b fb))
    (λ t. eq_true (of_z w64 a) (of_z w64 b) (ap (of_z w64) (one_number a b t)))

and_true : (p q : Bool) → (p && q) ≡ true → (p ≡ true) × (q ≡ true)
and_true true q e = (refl, e)
and_true false q e = absurd (cc)

pub same_lists : (vs ws : List ℤ) → pointwise int_eq vs ws ≡ true → vs ≡ ws
same_lists [] [] e = refl
same_lists [] (w ∷ ws) e = absurd (cc)
same_lists (v ∷ vs) [] e = absurd (cc)
same_lists (v ∷ vs) (w ∷ ws) e =
    let both = and_true (int_eq v w) (pointwise int_eq vs ws) e in
    (λ t. one_number v w both.0 t ∷ same_lists vs ws both.1 t)

same_itself : (vs : List ℤ) → pointwise int_eq vs vs ≡ true
same_itself [] = refl
same_itself (v ∷ vs) = (λ t. (Decides-int_eq v v).1 refl t && same_itself vs t)

pub lists_same : (vs ws : List ℤ) → vs ≡ ws → pointwise int_eq vs ws ≡ true
lists_same vs ws e = subst (λ us. pointwise int_eq vs us ≡ true) e (same_itself vs)

neq_false : (a b : ℕ) → (a ≡ b → ⊥) → nat_eq a b ≡ false
neq_false a b ne = grind (arith, nat_tests, ne)

pub empty_is : (h : Header) (r : Pixels) → IsBase h r → nat_eq h.valid 0 ≡ is_empty r
unfolding header_of
empty_is h r b = ap (λ (x : Header). nat_eq x.valid 0) b.is

pub constant_is : (h : Header) (r : Pixels) → IsBase h r → nat_eq (of_z w64 h.least) (of_z w64 h.greatest) ≡ is_constant r
unfolding header_of
constant_is h r b =
    let least : h.least ≡ least_value (values_of r.pixels) = ap (λ (x : Header). x.least) b.is in
    let greatest : h.greatest ≡ greatest_value (values_of r.pixels) = ap (λ (x : Header). x.greatest) b.is in
    (λ i. nat_eq (of_z w64 (least i)) (of_z w64 (greatest i)))
    ∙ same_test r.kind (least_value (values_of r.pixels)) (greatest_value (values_of r.pixels)) (all_least_fits r b.sound) (all_greatest_fits r b.sound)

-- ---- the tail

pub ends_empty : (r : Pixels) (version : Version) (step : ℕ) → is_empty r ≡ true → tail r version step ≡ images.empty
unfolding tail
ends_empty r version step e =
    ap (λ (b : Bool). if b then images.empty else (if is_constant r then images.constant else (if is_v4 version && has_equal_ranges r then images.ranges else images.coded (chosen_coded_form r version step)))) e

pub ends_constant : (r : Pixels) (version : Version) (step : ℕ) → is_empty r ≡ false → is_constant r ≡ true → tail r version step ≡ images.constant
unfolding tail
ends_constant r version step e d =
    (λ t. if e t then images.empty else (if d t then images.constant else (if is_v4 version && has_equal_ranges r then images.ranges else images.coded (chosen_coded_form r version step))))

pub ends_ranges : (r : Pixels) (version : Version) (step : ℕ) → is_empty r ≡ false → is_constant r ≡ false → (is_v4 version && has_equal_ranges r) ≡ true → tail r version step ≡ images.ranges
unfolding tail
ends_ranges r version step e d f = (λ t. if e t then images.empty else (if d t then images.constant else (if f t then images.ranges else images.coded (chosen_coded_form r version step))))

pub ends_coded : (r : Pixels) (version : Version) (step : ℕ) → is_empty r ≡ false → is_constant r ≡ false → (is_v4 version && has_equal_ranges r) ≡ false
    → tail r version step ≡ images.coded (chosen_coded_form r version step)
unfolding tail
ends_coded r version step e d f = (λ t. if e t then images.empty else (if d t then images.constant else (if f t then images.ranges else images.coded (chosen_coded_form r version step))))

pub length_set : (xs : List ℕ) (i v : ℕ) → length (set xs i v) ≡ length xs
length_set xs i v = length-set xs i v

-- half of the room for both lists
pub front_room : (r : Pixels) (out : List ℕ) → length out ≡ length (lists_bytes r V4) → length out / 2 ≡ r.depth * bytes_of r.kind
front_room r out e = let whole = length_front r in omega (arith, e, whole)
