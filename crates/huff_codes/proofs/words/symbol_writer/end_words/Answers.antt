use Rattle.std.proofs.Common.{◌≡◌, ◌-◌, ◌*◌, ◌/◌, ◌≤◌, List, ◌++◌, length, take, drop, ℕ, ap, ◌∙◌, sym, subst, arith}
use Rattle.huff_codes.specs.inside.Filling.{IsPending}
use Rattle.huff_codes.proofs.Filling.{cleared, filled}
use Rattle.huff_codes.proofs.words.symbol_writer.end_words.Goals as goal

pub returns : goal.returns
returns c = λ bits h.
    let p = c.args.pending in
    let out = c.flush-end.new.out in
    let end = c.flush-end.result in
    let pending = subst (λ held. IsPending bits c.args.out.now held p.count p.at) (sym c.lowest_bits-held.ensures.value) h in
    let flushed = c.flush-end.ensures.flushed bits pending in
    let size : length out ≡ length c.args.out.now = c.flush-end.auto.out in
    let whole : length out ≡ 4 * (length c.args.out.now / 4) = omega (arith, size, c.requires.words) in
    let within : end ≤ length out = omega (arith, c.flush-end.ensures.within, c.flush-end.auto.out) in
    filled bits out _ end (length c.args.out.now / 4) flushed whole
    (ap (λ (xs : List ℕ). take end out ++ (xs ++ drop (length out - end) (drop end out))) c.clear.ensures ∙ cleared out end within)
