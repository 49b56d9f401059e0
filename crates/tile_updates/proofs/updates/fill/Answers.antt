use Rattle.std.proofs.Common.{◌≡◌, ◌∙◌, ◌+◌, ◌<◌, [], ◌∷◌, length, ap, subst, arith, length-append}
use Rattle.tile_updates.specs.declared.updates.Next.{Next}
use Rattle.tile_updates.specs.inside.SoFar.{Follows}
use Rattle.tile_updates.proofs.SoFar.{one_waits, same_count, waiting_read}
use Rattle.tile_updates.proofs.updates.fill.Goals as goal

pub loop-waiting-preserved : goal.loop-waiting-preserved
loop-waiting-preserved g c =
    let inv = c.loop-waiting.invariant in
    let old = g.S.Source.left c.args.src.now in
    let mid = g.S.Source.left c.loop-waiting.src in
    let new = g.S.Source.left c.wait_next.new.src in
    let before = c.loop-waiting.waiting in
    let after = c.wait_next.new.waiting in
    let less : length before.batch < c.args.room = omega (arith, c.len.ensures, c.loop-waiting-test.true) in
    let one = subst (λ (e : Next). Follows c.args.coding.now.version mid new before after e) c.in-Ok-More.field-0-is c.in-Ok-More.ensures.ok in
    let more : length after.batch ≡ length before.batch + 1 = ap length one.batch ∙ length-append before.batch (one.tile ∷ []) in (
      one_waits c.args.coding.now.version c.args.place old mid new before after inv.0 one,
      (omega (arith, less, more), same_count _ (g.S.Source.faults c.loop-waiting.src) (g.S.Source.faults c.wait_next.new.src) c.in-Ok-More.ensures.counted (λ e. let no : ⊥ = cc e in no) ∙ inv.1.1),
    )

pub returns-in-Ok-Refused-clause-some : goal.returns-in-Ok-Refused-clause-some
returns-in-Ok-Refused-clause-some g c =
    waiting_read c.args.coding.now.version c.args.place (g.S.Source.left c.args.src.now) (g.S.Source.left c.loop-waiting.src) (g.S.Source.left c.wait_next.new.src) c.loop-waiting.waiting c.loop-waiting.invariant.0 c.in-Ok-Refused.ensures.some

pub returns-in-Err-clause-some : goal.returns-in-Err-clause-some
returns-in-Err-clause-some g c =
    waiting_read c.args.coding.now.version c.args.place (g.S.Source.left c.args.src.now) (g.S.Source.left c.loop-waiting.src) (g.S.Source.left c.wait_next.new.src) c.loop-waiting.waiting c.loop-waiting.invariant.0 c.in-Err.ensures.some
