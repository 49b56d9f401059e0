use Rattle.std.proofs.Common.{sym, ◌∙◌, ap, subst}
use Rattle.std.proofs.lemmas.Result.{IfOk-weaker}
use Rattle.outside_io.specs.declared.volume.image.Pick.{Pick}
use Rattle.outside_io.specs.volume.Disk.{File, file_of}
use Rattle.outside_io.specs.volume.Pick.{IsPicked}
use Rattle.outside_io.specs.volume.Recorded.{replay}
use Rattle.outside_io.specs.volume.Sparse.{sparse_bytes}
use Rattle.outside_io.specs.inside.Effects.{effects}
use Rattle.outside_io.proofs.Inside.Kept.{all_end_within-take, all_in_pool-take, fit_take}
use Rattle.outside_io.proofs.volume.image.image.Goals as goal

pub held_after-requires-clause-pool : goal.held_after-requires-clause-pool
held_after-requires-clause-pool c = all_in_pool-take _ c.synced_by.result c.args.log.now c.requires.pool

pub held_after-requires-clause-ends : goal.held_after-requires-clause-ends
held_after-requires-clause-ends c = all_end_within-take c.synced_by.result c.args.log.now c.requires.ends

pub returns-in-Oldest : goal.returns-in-Oldest
returns-in-Oldest c = IfOk-weaker c.held_after.result _ _ (λ s each d fit is.
    let written = c.args.written.now in
    let log = c.args.log.now in
    subst (λ (p : Pick). IsPicked p (file_of c.args.file (replay (effects written log) d)) (sparse_bytes s)) (sym c.in-Oldest.is)
    (each d (fit_take written log c.synced_by.result d fit) (ap (λ (g : File). g.now) is)
    ∙ sym (c.synced_by.ensures.base written d (ap (λ (g : File). g.base) is ∙ sym (ap (λ (g : File). g.now) is))))) c.held_after.ensures
