use Rattle.std.proofs.Common.{◌≡◌, ◌+◌, ◌-◌, ◌<◌, ◌≤◌, ℕ, sym, ap, ◌∙◌, subst, arith, ⊎_elim}
use Rattle.std.proofs.lemmas.Bool.{cases_lt}
use Rattle.raster_cells.specs.Masks.{mask_bit}
use Rattle.raster_cells.proofs.marks.bits.past.Goals as goal

pub returns-clause-run : goal.returns-clause-run
returns-clause-run c k low high =
    ⊎_elim
    (λ (lt : c.args.at < k).
    let q = k - c.args.at in
    let there : k ≡ c.args.at + q = omega (arith, lt) in
    let equal : q < c.equal_in_front.result = omega (arith, lt, high, c.max.ensures) in
    ap (mask_bit c.args.bytes.now) there ∙ sym (c.word_from.ensures.bits q (omega (arith, equal, c.equal_in_front.ensures.within))) ∙ c.equal_in_front.ensures.equal q equal)
    (λ (ge : k ≤ c.args.at).
    let same : c.args.at ≡ k = omega (arith, low, ge) in
    subst (λ (j : ℕ). mask_bit c.args.bytes.now j ≡ c.args.mark) same c.requires.here)
    (cases_lt c.args.at k)
