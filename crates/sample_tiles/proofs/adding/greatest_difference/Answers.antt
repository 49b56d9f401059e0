use Rattle.std.proofs.Common.{◌≡◌, rules, max, ap, ◌∙◌}
use Rattle.sample_tiles.proofs.Summing.{bound_more, met_more, off_at}
use Rattle.sample_tiles.proofs.adding.greatest_difference.Goals as goal

pub loop-i-preserved : goal.loop-i-preserved
loop-i-preserved c =
    let given = c.args.given.now in
    let found = c.args.found.now in
    let off : c.unsigned_abs.result ≡ off_at given found c.loop-i.i = search rules in
    let top : c.max-greatest.result ≡ max c.loop-i.greatest c.unsigned_abs.result = search rules in
    let is : c.max-greatest.result ≡ max c.loop-i.greatest (off_at given found c.loop-i.i) = top ∙ ap (max c.loop-i.greatest) off in
    record {
      bound = bound_more given found c.loop-i.i c.loop-i.greatest c.max-greatest.result is c.loop-i.invariant.bound;
      met = met_more given found c.loop-i.i c.loop-i.greatest c.max-greatest.result is c.loop-i.invariant.met;
    }
