-- How a blob is laid out.
use Rattle.std.proofs.Common.{◌≡◌, ℕ, ◌+◌, ◌-◌, ◌≤◌, List, ◌++◌, length, take, drop, refl, sym, ap, ◌∙◌, arith, length-append, length-drop}
use Rattle.std.specs.Prelude.{ℤ}
use Rattle.std.proofs.lemmas.List.{drop_at, length-take-le, take-append-drop}
use Rattle.byteorder.specs.Endian.{little_bytes}
use borrow.Rule.Slice.PartMut.{put_mid}
use mir.Syntax.{w64}
use mir.Val.{to_z, of_z}
use Rattle.bit_stuff.proofs.Buffers.{end_written}
use Rattle.raster_cells.specs.declared.kind.PixelType.{PixelType}
use Rattle.raster_values.specs.Raster.{Pixels, values_of, valid_count}
use Rattle.lerc_header.specs.declared.header.Header.{Header}
use Rattle.lerc_header.specs.declared.header.Version.{Version}
use Rattle.lerc_header.specs.Head.{head_length}
use Rattle.lerc_header.specs.Written.{head_bytes}
use Rattle.lerc_header.specs.Checksum.{sum_of}
use Rattle.lerc_header.proofs.WrittenHeads.{length-head}
use Rattle.micro_block.specs.ChosenBlock.{least_value}
use Rattle.raster_cells.proofs.ValueBits.{same_bits}
use Rattle.lerc_encode.specs.Ranges.{greatest_value}
use Rattle.lerc_encode.specs.Masks.{mask_part}
use Rattle.lerc_encode.specs.Heads.{header_of}
use Rattle.lerc_encode.specs.Images.{tail, image_bytes, side_at}
use Rattle.lerc_encode.specs.Choice.{mask_and_image, header_with, checksum_of, chosen_with}
use Rattle.lerc_encode.specs.inside.Asked.{IsAsked}
use Rattle.lerc_encode.specs.inside.Choosing.{IsBase}
use Rattle.lerc_encode.specs.inside.Layout.{IsSealed}
use Rattle.lerc_encode.proofs.Extremes.{all_least_fits, all_greatest_fits}

-- the header so far, field by field
pub base_of : (r : Pixels) (version : Version) (step : ℕ) → IsAsked r version step → (rows cols depth valid : ℕ) (kind : PixelType) (least greatest : ℤ)
    → rows ≡ r.rows → cols ≡ r.cols → depth ≡ r.depth → valid ≡ valid_count r → kind ≡ r.kind → least ≡ least_value (values_of r.pixels) → greatest ≡ greatest_value (values_of r.pixels)
    → IsBase (record { version = version; checksum = 0; rows = rows; cols = cols; depth = depth; valid = valid; side = 8; size = 0; kind = kind; step = step; least = to_z w64 (of_z w64 least); greatest = to_z w64 (of_z w64 greatest) }) r
unfolding header_of
base_of r version step asked rows cols depth valid kind least greatest e1 e2 e3 e4 e5 e6 e7 =
    let low = ap (λ (z : ℤ). to_z w64 (of_z w64 z)) e6 ∙ same_bits r.kind (least_value (values_of r.pixels)) (all_least_fits r asked.sound) in
    let high = ap (λ (z : ℤ). to_z w64 (of_z w64 z)) e7 ∙ same_bits r.kind (greatest_value (values_of r.pixels)) (all_greatest_fits r asked.sound) in
    record {
      sound = asked.sound;
      step = asked.step_allowed;
      flat = asked.flat;
      is = λ t. record { version = version; checksum = 0; rows = e1 t; cols = e2 t; depth = e3 t; valid = e4 t; side = 8; size = 0; kind = e5 t; step = step; least = low t; greatest = high t };
    }

-- and with its side and size
pub laid_out : (runs : List ℕ) (b : Header) (r : Pixels) → IsBase b r → (side size : ℕ) → side ≡ side_at (tail r b.version b.step) → size ≡ head_length b.version + length (mask_and_image runs r b.version b.step)
    → ◌≡◌ {A = Header} (record { version = b.version; checksum = b.checksum; rows = b.rows; cols = b.cols; depth = b.depth; valid = b.valid; side = side; size = size; kind = b.kind; step = b.step; least = to_z w64 (of_z w64 b.least); greatest = to_z w64 (of_z w64 b.greatest) })
    (header_with runs r b.version b.step 0)
unfolding header_with header_of
laid_out runs b r base side size e f =
    let is = base.is in
    let low = ap (λ (x : Header). to_z w64 (of_z w64 x.least)) is ∙ same_bits r.kind (least_value (values_of r.pixels)) (all_least_fits r base.sound) in
    let high = ap (λ (x : Header). to_z w64 (of_z w64 x.greatest)) is ∙ same_bits r.kind (greatest_value (values_of r.pixels)) (all_greatest_fits r base.sound) in
    λ t. record {
      version = b.version;
      checksum = ap (λ (x : Header). x.checksum) is t;
      rows = ap (λ (x : Header). x.rows) is t;
      cols = ap (λ (x : Header). x.cols) is t;
      depth = ap (λ (x : Header). x.depth) is t;
      valid = ap (λ (x : Header). x.valid) is t;
      side = e t;
      size = f t;
      kind = ap (λ (x : Header). x.kind) is t;
      step = b.step;
      least = low t;
      greatest = high t;
    }

pub length_part : (runs : List ℕ) → length (mask_part runs) ≡ 4 + length runs
unfolding mask_part
length_part runs = length-append (little_bytes 4 (length runs)) runs

pub behind_length : (runs : List ℕ) (r : Pixels) (version : Version) (step size image : ℕ) → size ≡ length runs → image ≡ length (image_bytes r version step (tail r version step))
    → 4 + size + image ≡ length (mask_and_image runs r version step)
unfolding mask_and_image
behind_length runs r version step size image e f =
    let part = length_part runs in
    let joined = length-append (mask_part runs) (image_bytes r version step (tail r version step)) in
    omega (arith, e, f, part, joined)

-- a mask, and an image behind it
pub behind_written : (runs : List ℕ) (r : Pixels) (version : Version) (step front : ℕ) (first second rest : List ℕ) → length first ≡ front → first ≡ mask_part runs → second ≡ image_bytes r version step (tail r version step)
    → put_mid front (length (first ++ rest) - front) (first ++ rest) second ≡ mask_and_image runs r version step
unfolding mask_and_image
behind_written runs r version step front first second rest long a b =
    end_written first rest second front (length (first ++ rest) - front) long (let l = length-append first rest in omega (arith, l, long))
    ∙ (λ t. a t ++ b t)

-- a part over the front, and a second one behind it
pub two_written : (front : ℕ) (first second rest a b : List ℕ) → length first ≡ front → first ≡ a → second ≡ b → put_mid front (length (first ++ rest) - front) (first ++ rest) second ≡ a ++ b
two_written front first second rest a b long e f =
    end_written first rest second front (length (first ++ rest) - front) long (let l = length-append first rest in omega (arith, l, long)) ∙ (λ t. e t ++ f t)

-- what stands behind a place that was written over up to the end
pub end_behind : (n : ℕ) (old new : List ℕ) → n ≤ length old → drop n (put_mid n (length old - n) old new) ≡ new
end_behind n old new low =
    ap (drop n) (ap (λ (xs : List ℕ). put_mid n (length old - n) xs new) (sym (take-append-drop n old))
    ∙ end_written (take n old) (drop n old) new n (length old - n) (length-take-le n old low) (let l = length-drop n old in omega (arith, l)))
    ∙ drop_at (take n old) new n (length-take-le n old low)

pub put_long : (n : ℕ) (old new : List ℕ) → n ≤ length old → n + length new ≡ length old → length (put_mid n (length old - n) old new) ≡ length old
put_long n old new low e =
    ap length (ap (λ (xs : List ℕ). put_mid n (length old - n) xs new) (sym (take-append-drop n old))
    ∙ end_written (take n old) (drop n old) new n (length old - n) (length-take-le n old low) (let l = length-drop n old in omega (arith, l)))
    ∙ length-append (take n old) new ∙ (let l = length-take-le n old low in omega (arith, l, e))

pub version_with : (runs : List ℕ) (r : Pixels) (version : Version) (step sum : ℕ) → head_length (header_with runs r version step sum).version ≡ head_length version
unfolding header_with header_of
version_with runs r version step sum = refl

pub sealed : (h g : Header) (old mid new rest : List ℕ) (n sum : ℕ) → g ≡ record h { checksum = sum } → n ≡ head_length h.version → mid ≡ head_bytes h ++ drop n old → sum ≡ sum_of rest → rest ≡ drop 14 mid
    → new ≡ head_bytes g ++ drop (head_length g.version) mid → IsSealed h (drop n old) new
sealed h g old mid new rest n sum e is first sum_is rest_is second =
    let covered : sum ≡ sum_of (drop 14 (head_bytes h ++ drop n old)) = sum_is ∙ ap sum_of (rest_is ∙ ap (drop 14) first) in
    let behind : drop (head_length g.version) mid ≡ drop n old = ap (λ (x : Header). drop (head_length x.version) mid) e ∙ ap (λ (xs : List ℕ). drop (head_length h.version) xs) first ∙ drop_at (head_bytes h) (drop n old) (head_length h.version) (length-head h) in
    second ∙ (λ t. head_bytes (e t) ++ behind t) ∙ ap (λ k. head_bytes (record h { checksum = k }) ++ drop n old) covered

-- the sealed blob is the chosen one
other_sum : (runs : List ℕ) (r : Pixels) (version : Version) (step sum : ℕ) → header_with runs r version step sum ≡ record (header_with runs r version step 0) { checksum = sum }
unfolding header_with header_of
other_sum runs r version step sum = refl

pub sealed_is : (runs : List ℕ) (r : Pixels) (version : Version) (step : ℕ) (h : Header) (behind blob : List ℕ) → h ≡ header_with runs r version step 0 → behind ≡ mask_and_image runs r version step → IsSealed h behind blob → blob ≡ chosen_with runs r version step
unfolding chosen_with checksum_of
sealed_is runs r version step h behind blob e f s =
    s ∙ (λ t. head_bytes (record (e t) { checksum = sum_of (drop 14 (head_bytes (e t) ++ f t)) }) ++ f t)
    ∙ ap (λ (x : Header). head_bytes x ++ mask_and_image runs r version step) (sym (other_sum runs r version step (sum_of (drop 14 (head_bytes (header_with runs r version step 0) ++ mask_and_image runs r version step)))))
