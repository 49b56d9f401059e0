use Rattle.std.proofs.Common.{◌≡◌, ◌+◌, Bool, sym, subst, arith}
use Rattle.tile_audit.specs.Audit.{damaged_count}
use Rattle.tile_audit.proofs.Counts.{strict_count}
use Rattle.tile_audit.proofs.totals.Totals.damage.Goals as goal

pub returns-then-strict-clause-value : goal.returns-then-strict-clause-value
returns-then-strict-clause-value c = λ tiles are.
    let t = c.args.self.now in
    subst (λ (b : Bool). t.damaged + t.foreign + t.unread ≡ damaged_count b tiles) (sym c.if-strict.true) (omega (arith, are.damaged, are.foreign, are.unread, strict_count tiles))
