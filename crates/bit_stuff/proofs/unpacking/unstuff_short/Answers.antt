use Rattle.std.proofs.Common.{◌≡◌, ◌≢◌, ◌<◌, ◌∙◌, ◌*◌, ◌/◌, ◌%◌, ◌^◌, ℕ, ap, arith, refl, length, get_or-set_other, get_or-set_same, below_more}
use Rattle.bit_stuff.specs.Stuffed.{field_at, number_of_bytes}
use Rattle.bit_stuff.proofs.Numbers.{number_all}
use Rattle.bit_stuff.proofs.unpacking.unstuff_short.Goals as goal

pub loop-i-preserved : goal.loop-i-preserved
loop-i-preserved c =
    let bytes = c.args.bytes.now in
    let i = c.loop-i.i in
    let read = c.read_uint-word.ensures ∙ number_all (length bytes) bytes refl in
    let here : c.field.result ≡ field_at c.args.width (number_of_bytes bytes) i =
    c.field.ensures ∙ ap (λ (n : ℕ). n / 2 ^ (c.args.width * i) % 2 ^ c.args.width) read in
    below_more _ _
    (λ k h. let ne : k ≢ i = omega arith in rw get_or-set_other (c.loop-i.invariant k h))
    (let lt : i < length c.loop-i.out = omega arith in rw get_or-set_same here)
