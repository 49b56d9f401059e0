-- The fields of the first bytes alone.
use Rattle.std.proofs.Common.{◌≡◌, ℕ, ◌+◌, ◌-◌, ◌*◌, ◌/◌, ◌%◌, ◌^◌, ◌<◌, ◌≤◌, List, length, slice_index, take, sym, ap, ◌∙◌, arith}
use Rattle.std.proofs.lemmas.Nat.{field_of, mul-le}
use Rattle.std.proofs.lemmas.List.{length-take-le}
use Rattle.std.proofs.Math.Pow.{mod-mod-pow}
use Rattle.bit_stuff.specs.Stuffed.{IsStuffed, field_at, number_of_bytes, stuffed_size}
use Rattle.bit_stuff.proofs.Numbers.{number-take}

-- bits from s to s + w of a number are bits of its lowest b, where these reach as far
pub low_field : (n b s w : ℕ) → s + w ≤ b → n % 2 ^ b / 2 ^ s % 2 ^ w ≡ n / 2 ^ s % 2 ^ w
low_field n b s w h =
    let high : b ≡ b - s + s = omega (arith, h) in
    let low : b - s ≡ b - s - w + w = omega (arith, h) in
    ap (λ (k : ℕ). n % 2 ^ k / 2 ^ s % 2 ^ w) high
    ∙ ap (λ (m : ℕ). m % 2 ^ w) (field_of n (b - s) s)
    ∙ ap (λ (k : ℕ). n / 2 ^ s % 2 ^ k % 2 ^ w) low
    ∙ mod-mod-pow (n / 2 ^ s) (b - s - w) w

-- n numbers that are the fields of bytes are stuffed in as many of the first of these as they take
pub front_stuffed : (bytes : List ℕ) (width n : ℕ) (values : List ℕ) → ((i : ℕ) → slice_index bytes i < 256)
    → length values ≡ n → stuffed_size n width ≤ length bytes
    → ((k : ℕ) → k < n → slice_index values k ≡ field_at width (number_of_bytes bytes) k)
    → IsStuffed (take (stuffed_size n width) bytes) width values
front_stuffed bytes width n values are count room fields =
    let size = stuffed_size n width in record {
      size = length-take-le size bytes room ∙ ap (λ (k : ℕ). stuffed_size k width) (sym count);
      fields = λ i lt.
          let within : i + 1 ≤ n = omega (arith, lt, count) in
          let product = mul-le width (i + 1) width n (omega arith) within in
          let fits : width * i + width ≤ 8 * size = omega (arith, product) in
          fields i (omega (arith, within)) ∙ sym (ap (λ (m : ℕ). field_at width m i) (number-take size bytes room are) ∙ low_field (number_of_bytes bytes) (8 * size) (width * i) width fits);
    }
