-- The laws of stuffed bytes, of heads and of simple lists.
use Rattle.std.proofs.Common.{◌≡◌, ℕ, ◌*◌, ◌/◌, ◌^◌, ◌<◌, ◌≤◌, List, length, slice_index, sym, ap, ◌∙◌, arith}
use Rattle.std.specs.Prelude.{map}
use Rattle.std.specs.List.{range_with_len}
use Rattle.std.proofs.lemmas.List.FromFn.{get_or-map-range_with_len, length-map-range_with_len}
use Rattle.std.proofs.lemmas.Nat.{pow_pos, mul-le}
use Rattle.std.proofs.lemmas.List.{ext_get_or}
use Rattle.std.proofs.lemmas.List.Elements.{All-from_get_or}
use Rattle.std.proofs.Math.Nat.{mod-lt, mod-eq_of_lt, pow-le-pow_right}
use Rattle.std.specs.Prelude.{All}
use Rattle.byteorder.specs.Endian.{little_bytes}
use Rattle.bit_stuff.specs.Stuffed.{number_of_bytes, number_of_values, field_at, stuffed_size, stuffed_bytes, IsStuffed, HasClearSpareBits}
use Rattle.bit_stuff.proofs.Numbers.{number_none, bytes_of_number, length-little_bytes, number-little_bytes}
use Rattle.bit_stuff.proofs.Fields.{field_of_zero, values-lt, field_of_values, values_from_fields}

-- the bits of more numbers, or of wider ones, take no fewer bytes
pub stuffed_size-le : (m n v w : ℕ) → m ≤ n → v ≤ w → stuffed_size m v ≤ stuffed_size n w
stuffed_size-le m n v w h k = omega (arith, mul-le m v n w h k)

-- the bits of the fields fit the bytes
pub fields_fit : (n w : ℕ) → w * n ≤ 8 * stuffed_size n w
fields_fit n w = omega arith

-- values that are fields of `width` bits are below 2 ^ width
pub fields_below : (n width : ℕ) (values : List ℕ) → ((i : ℕ) → i < length values → slice_index values i ≡ field_at width n i) → All (λ v. v < 2 ^ width) values
fields_below n width values fields =
    All-from_get_or (λ v. v < 2 ^ width) values 0 (λ i lt. rw (fields i lt) (mod-lt (n / 2 ^ (width * i)) (pow_pos width)))

pub stuffed_below : (bytes : List ℕ) (width : ℕ) (values : List ℕ) → IsStuffed bytes width values → All (λ v. v < 2 ^ width) values
stuffed_below bytes width values s = fields_below (number_of_bytes bytes) width values s.fields

-- stuffed bytes of one count and width stand for one list
pub stuffed_unique : (bytes : List ℕ) (width : ℕ) (xs ys : List ℕ) → IsStuffed bytes width xs → IsStuffed bytes width ys → length xs ≡ length ys → xs ≡ ys
stuffed_unique bytes width xs ys a b e = ext_get_or 0 xs ys e (λ i lt. a.fields i lt ∙ sym (b.fields i (omega arith)))

pub clear_from_number : (bytes : List ℕ) (width : ℕ) (values : List ℕ) → All (λ v. v < 2 ^ width) values → number_of_bytes bytes ≡ number_of_values width values → HasClearSpareBits bytes width (length values)
clear_from_number bytes width values below e = rw e (values-lt width values (λ i lt. below i 0 lt))

pub stuffed_from_number : (bytes : List ℕ) (width : ℕ) (values : List ℕ) → All (λ v. v < 2 ^ width) values → length bytes ≡ stuffed_size (length values) width
    → number_of_bytes bytes ≡ number_of_values width values → IsStuffed bytes width values
stuffed_from_number bytes width values below size e = record {
  size = size;
  fields = λ i lt. sym (ap (λ (n : ℕ). field_at width n i) e ∙ field_of_values width values i (λ k h. below k 0 h) lt);
}

pub bytes_from_number : (bytes : List ℕ) (width : ℕ) (values : List ℕ) → ((i : ℕ) → slice_index bytes i < 256) → length bytes ≡ stuffed_size (length values) width
    → number_of_bytes bytes ≡ number_of_values width values → bytes ≡ stuffed_bytes width values
unfolding stuffed_bytes
bytes_from_number bytes width values byte size e =
    bytes_of_number bytes byte ∙ ap (λ (n : ℕ). little_bytes n (number_of_bytes bytes)) size ∙ ap (little_bytes (stuffed_size (length values) width)) e

pub length-stuffed_bytes : (width : ℕ) (values : List ℕ) → length (stuffed_bytes width values) ≡ stuffed_size (length values) width
unfolding stuffed_bytes
length-stuffed_bytes width values = length-little_bytes (stuffed_size (length values) width) (number_of_values width values)

pub number-stuffed_bytes : (width : ℕ) (values : List ℕ) → All (λ v. v < 2 ^ width) values → number_of_bytes (stuffed_bytes width values) ≡ number_of_values width values
unfolding stuffed_bytes
number-stuffed_bytes width values below =
    let low : number_of_values width values < 2 ^ (width * length values) = values-lt width values (λ i lt. below i 0 lt) in
    let wider : 2 ^ (width * length values) ≤ 2 ^ (8 * stuffed_size (length values) width) = pow-le-pow_right (omega arith) (fields_fit (length values) width) in
    number-little_bytes (stuffed_size (length values) width) (number_of_values width values) (omega arith)

-- what is written is stuffed
pub stuffed_bytes-stuffed : (width : ℕ) (values : List ℕ) → All (λ v. v < 2 ^ width) values → IsStuffed (stuffed_bytes width values) width values
stuffed_bytes-stuffed width values below =
    stuffed_from_number (stuffed_bytes width values) width values below (length-stuffed_bytes width values) (number-stuffed_bytes width values below)

pub stuffed_bytes-clear : (width : ℕ) (values : List ℕ) → All (λ v. v < 2 ^ width) values → HasClearSpareBits (stuffed_bytes width values) width (length values)
stuffed_bytes-clear width values below = clear_from_number (stuffed_bytes width values) width values below (number-stuffed_bytes width values below)

-- stuffed bytes whose spare bits are 0 are the written ones
pub stuffed_bytes_only : (bytes : List ℕ) (width : ℕ) (values : List ℕ) → ((i : ℕ) → slice_index bytes i < 256) → IsStuffed bytes width values
    → HasClearSpareBits bytes width (length values) → bytes ≡ stuffed_bytes width values
stuffed_bytes_only bytes width values byte s clear =
    let same : number_of_bytes bytes ≡ number_of_values width values =
    sym (values_from_fields width (number_of_bytes bytes) values s.fields ∙ mod-eq_of_lt clear) in
    bytes_from_number bytes width values byte s.size same

-- no bytes are stuffed of zeros
pub none_stuffed : (bytes : List ℕ) (width : ℕ) (values : List ℕ) → length bytes ≡ 0 → length bytes ≡ stuffed_size (length values) width
    → ((i : ℕ) → i < length values → slice_index values i ≡ 0) → IsStuffed bytes width values
none_stuffed bytes width values empty size zeros = record {
  size = size;
  fields = λ i lt. zeros i lt ∙ sym (field_of_zero width (number_of_bytes bytes) i (number_none bytes empty));
}

-- so many bytes are stuffed of some list
pub some_stuffed : (bytes : List ℕ) (width n : ℕ) → length bytes ≡ stuffed_size n width → (values : List ℕ) × ((length values ≡ n) × IsStuffed bytes width values)
some_stuffed bytes width n size =
    let field : ℕ → ℕ = field_at width (number_of_bytes bytes) in
    let values : List ℕ = map field (range_with_len 0 n) in
    let long : length values ≡ n = length-map-range_with_len field 0 n in (
      values,
      (
        long,
        record {
          size = size ∙ ap (λ (k : ℕ). stuffed_size k width) (sym long);
          fields = λ i lt. get_or-map-range_with_len field 0 n i i 0 (omega (arith, lt, long)) (omega arith);
        },
      ),
    )
