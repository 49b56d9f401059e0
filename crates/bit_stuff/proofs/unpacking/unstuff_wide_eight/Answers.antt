use Rattle.std.proofs.Common.{◌≡◌, ◌≢◌, ◌<◌, ◌∙◌, ◌+◌, ◌*◌, ◌/◌, ◌%◌, ◌^◌, ℕ, ap, arith, length, slice_index, slice_set, get_or-set_other, get_or-set_same, below_more}
use Rattle.bit_stuff.specs.Stuffed.{field_at, number_of_bytes}
use Rattle.bit_stuff.proofs.unpacking.unstuff_wide_eight.Goals as goal

pub loop-k-preserved : goal.loop-k-preserved
loop-k-preserved c j below =
    let w = c.args.width in
    let number = number_of_bytes c.args.bytes.now in
    let i = c.args.done + c.loop-k.k in
    let place = w * c.loop-k.k in
    let parts : 8 * (c.args.at + place / 8) + place % 8 ≡ w * i = omega (arith, c.requires.place) in
    let here : c.bits_from.result ≡ field_at w number i = c.bits_from.ensures ∙ ap (λ (k : ℕ). number / 2 ^ k % 2 ^ w) parts in
    let all : (m : ℕ) → m < i + 1 → slice_index (slice_set c.loop-k.out i c.bits_from.result) m ≡ field_at w number m =
    below_more _ i
    (λ m lt. let ne : m ≢ i = omega arith in rw get_or-set_other (c.loop-k.invariant m lt))
    (let lt : i < length c.loop-k.out = omega arith in rw get_or-set_same here) in
    all j (omega arith)
