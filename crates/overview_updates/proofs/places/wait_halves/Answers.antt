use Rattle.std.proofs.Common.{◌≡◌, ◌∙◌, ◌<◌, ◌+◌, ℕ, List, length, sym, ap, subst, arith}
use Rattle.overview_updates.specs.declared.halves.Half.{Half}
use Rattle.overview_updates.specs.declared.places.Next.{Next}
use Rattle.overview_updates.specs.inside.Fours.{AreHalves}
use Rattle.overview_updates.specs.inside.SoFar.{IsFilled}
use Rattle.overview_updates.proofs.Rounds.{one_longer}
use Rattle.overview_updates.proofs.SoFar.{read_on}
use Rattle.overview_updates.proofs.places.wait_halves.Goals as goal

pub loop-half-init : goal.loop-half-init
loop-half-init c =
    let same = c.into_iter-half-iterator.ensures.into_iter_gives.0 in
    record {
      left = ap (λ (halves : List Half). c.args.waiting.now.place + length halves) same;
      few = c.requires.few;
      waits = λ told bundle from w are. (w, subst (AreHalves told bundle c.args.asked.now.coding.version c.args.waiting.now.place) (sym same) are);
    }

pub wait_half-requires-clause-few : goal.wait_half-requires-clause-few
wait_half-requires-clause-few c = c.loop-half.invariant.few

pub wait_half-requires-clause-place : goal.wait_half-requires-clause-place
wait_half-requires-clause-place c =
    let inv = c.loop-half.invariant in
    let rest = one_longer c.loop-half.half-iterator.rest.items c.in-Some.half c.next.new.self.rest.items c.in-Some.ensures.steps.0 in
    omega (arith, inv.left, rest, c.requires.within)

pub loop-half-preserved : goal.loop-half-preserved
loop-half-preserved c =
    let inv = c.loop-half.invariant in
    let v = c.args.asked.now.coding.version in
    let rest = c.next.new.self.rest.items in
    let split = c.in-Some.ensures.steps.0 in
    let longer = one_longer c.loop-half.half-iterator.rest.items c.in-Some.half rest split in
    let forth = c.in-Ok-More.ensures.forth c.in-Ok-More.field-0-is in
    record {
      left = omega (arith, inv.left, longer, forth);
      few = c.in-Ok-More.ensures.few c.in-Ok-More.field-0-is;
      waits = λ told bundle from w are.
          let before = inv.waits told bundle from w are in
          let halves = subst (AreHalves told bundle v c.loop-half.waiting.place) split before.1 in
          let filled = c.in-Ok-More.ensures.waits told bundle from before.0 halves.0 in
          (filled.waiting, subst (λ (k : ℕ). AreHalves told bundle v k rest) (sym forth) halves.1);
    }

pub returns-in-Ok-Refused-clause-waits : goal.returns-in-Ok-Refused-clause-waits
returns-in-Ok-Refused-clause-waits c = λ told bundle from w are.
    let v = c.args.asked.now.coding.version in
    let before = c.loop-half.invariant.waits told bundle from w are in
    let halves = subst (AreHalves told bundle v c.loop-half.waiting.place) c.in-Some.ensures.steps.0 before.1 in
    subst (λ (n : Next). IsFilled told bundle c.args.asked.now.quarter v from c.wait_half.new.waiting n) c.in-Ok-Refused.field-0-is (c.in-Ok-Refused.ensures.waits told bundle from before.0 halves.0)

pub returns-clause-waits : goal.returns-clause-waits
returns-clause-waits c = λ told bundle from w are.
    let inv = c.loop-half.invariant in
    let rest = c.loop-half.half-iterator.rest.items in
    let none : length rest ≡ 0 = sym c.loop-half.half-iterator.rest.ok.0 ∙ c.in-None.ensures.steps.0 in
    let further : c.args.waiting.now.place < c.loop-half.waiting.place = omega (arith, inv.left, none, c.requires.some) in
    read_on told bundle c.args.asked.now.quarter c.args.asked.now.coding.version from c.args.waiting.now c.loop-half.waiting w further (inv.waits told bundle from w are).0

pub returns-clause-forth : goal.returns-clause-forth
returns-clause-forth c = λ more.
    let inv = c.loop-half.invariant in
    let rest = c.loop-half.half-iterator.rest.items in
    let none : length rest ≡ 0 = sym c.loop-half.half-iterator.rest.ok.0 ∙ c.in-None.ensures.steps.0 in
    omega (arith, inv.left, none, c.requires.some)
