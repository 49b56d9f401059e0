use Rattle.std.proofs.Common.{◌≡◌, ◌+◌, ◌-◌, ◌≤◌, List, ℕ, take, drop, ap, ◌∙◌, arith}
use Rattle.raster_grids.specs.inside.TakenRun.{AheadOf}
use Rattle.raster_grids.proofs.TakenAhead.{piece_rest}
use Rattle.raster_grids.proofs.ahead.Ahead.lay.Goals as goal

pub returns-clause-rest : goal.returns-clause-rest
returns-clause-rest c =
    let a = c.self.inside in
    let n = c.min-n.result in
    let within : a.from + n ≤ a.end = omega (arith, c.min-n.ensures, c.self.invariant.0) in
    let rest : take (a.end - (a.from + n)) (drop (a.from + n) a.buffer) ≡ drop n (take (a.end - a.from) (drop a.from a.buffer)) = piece_rest a.buffer a.from a.end n within in
    ap (λ (w : List ℕ). record { waiting = w; more = a.more }) rest ∙ ap (λ (v : AheadOf). record { waiting = drop n v.waiting; more = v.more }) c.self.view_is
