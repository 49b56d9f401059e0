use Rattle.std.proofs.Common.{◌≡◌, ◌+◌, ◌-◌, ◌*◌, ◌/◌, ◌^◌, ℕ, ap, ◌∙◌, arith}
use Rattle.std.specs.Prelude.{min}
use Rattle.bit_stuff.specs.Stuffed.{stuffed_size}
use Rattle.micro_block.proofs.ShortTables.{bound_at, bound_low, few_entries, none_shorter, shifted}
use Rattle.micro_block.proofs.shorter.entries_at.Goals as goal

pub returns-then-whole-rest : goal.returns-then-whole-rest
returns-then-whole-rest c =
    let e : c.stuffed_len.result ≡ stuffed_size (2 ^ c.args.k) c.args.width = c.stuffed_len.ensures.value ∙ ap (λ (n : ℕ). stuffed_size n c.args.width) (shifted c.args.k (omega arith)) in
    none_shorter c.args.count c.args.width c.args.k (omega (arith, c.if-whole-rest.true, e, c.stuffed_len-rest.ensures.value, c.stuffed_len-whole.ensures.value))

pub returns : goal.returns
returns c =
    let e : c.stuffed_len.result ≡ stuffed_size (2 ^ c.args.k) c.args.width = c.stuffed_len.ensures.value ∙ ap (λ (n : ℕ). stuffed_size n c.args.width) (shifted c.args.k (omega arith)) in
    let is : c.min.result ≡ min (8 * (stuffed_size c.args.count c.args.width - 1 - (1 + stuffed_size c.args.count (c.args.k + 1))) / c.args.width) (2 * 2 ^ c.args.k - 1) =
    c.min.ensures ∙ (λ i. min (8 * (c.stuffed_len-whole.ensures.value i - 1 - (1 + c.stuffed_len-rest.ensures.value i)) / c.args.width) (2 * shifted c.args.k (omega arith) i - 1)) in (
      bound_low c.args.count c.args.width c.args.k c.min.result (omega arith) (omega (arith, c.if-whole-rest.false, e, c.stuffed_len-rest.ensures.value, c.stuffed_len-whole.ensures.value)) is,
      (
        few_entries c.args.k c.min.result (8 * (stuffed_size c.args.count c.args.width - 1 - (1 + stuffed_size c.args.count (c.args.k + 1))) / c.args.width) (omega arith) is,
        λ d few digits above. bound_at c.args.count c.args.width c.args.k d c.min.result (omega arith) few digits is above,
      ),
    )
