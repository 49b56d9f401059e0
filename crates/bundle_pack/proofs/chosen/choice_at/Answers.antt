use Rattle.std.proofs.Common.{◌≡◌, inl, inr, ◌-◌, ◌<◌, length, slice_get, Some, sym, ap, ◌∙◌, arith}
use Rattle.std.proofs.lemmas.Bool.{cases_lt}
use Rattle.std.proofs.lemmas.Option.{slice_get-get_or}
use Rattle.bundle_pack.proofs.Choosing.{size_of_one}
use Rattle.bundle_pack.proofs.Volumes.{get_some}
use Rattle.bundle_pack.proofs.chosen.choice_at.Goals as goal

pub returns-then-size-gt0-clause-is : goal.returns-then-size-gt0-clause-is
returns-then-size-gt0-clause-is c = λ bundles served.
    let inv = c.loop-at.invariant in
    let s = c.index-sessions-at.result in
    let at = c.loop-at.at - 1 in
    let less : at < length c.args.sessions.now = omega (arith, inv.within, c.loop-at-test.true) in
    let first : slice_get c.args.sessions.now at ≡ Some s = slice_get-get_or c.args.sessions.now at s less ∙ ap Some (sym c.index-sessions-at.is) in
    let b = get_some bundles at (omega (arith, served.many, less)) in
    let size = size_of_one bundles c.args.sessions.now c.args.slot at s b.0 c.kept_entry-size.result served first b.1 c.kept_entry-size.ensures.value in
    (b.0, (record { there = b.1; some = omega (arith, size, c.if-size-gt0.true); last = λ i later above is. inv.later bundles served i later (omega (arith, above)) is }, size))

pub loop-at-preserved : goal.loop-at-preserved
loop-at-preserved c =
    let inv = c.loop-at.invariant in
    let s = c.index-sessions-at.result in
    let at = c.loop-at.at - 1 in
    let less : at < length c.args.sessions.now = omega (arith, inv.within, c.loop-at-test.true) in
    let first : slice_get c.args.sessions.now at ≡ Some s = slice_get-get_or c.args.sessions.now at s less ∙ ap Some (sym c.index-sessions-at.is) in
    record {
      within = omega (arith, inv.within);
      later = λ bundles served i b le there. elim (cases_lt i c.loop-at.at) [
        | inl under ↦
            let same : i ≡ at = omega (arith, le, under) in
            let here : slice_get bundles at ≡ Some b = ap (slice_get bundles) (sym same) ∙ there in
            size_of_one bundles c.args.sessions.now c.args.slot at s b c.kept_entry-size.result served first here c.kept_entry-size.ensures.value ∙ (let zero : c.kept_entry-size.result.size ≡ 0 = omega (arith, c.if-size-gt0.false) in zero)
        | inr past ↦ inv.later bundles served i b past there
      ];
    }
