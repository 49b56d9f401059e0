use Rattle.std.proofs.Common.{◌≡◌, min, length, sym, ◌∙◌, ap, rules}
use Rattle.std.proofs.lemmas.Result.{IfOk-weaker}
use Rattle.outside_io.specs.declared.volume.VolFile.{VolFile}
use Rattle.outside_io.proofs.Inside.Held.{start_in}
use Rattle.outside_io.proofs.Inside.Kept.{all_end_within-take, all_in_pool-take}
use Rattle.outside_io.proofs.Inside.Picked.{picked}
use Rattle.outside_io.proofs.volume.mem_volume.MemVolume.pick_image.Goals as goal
use Rattle.outside_io.proofs.volume.mem_volume.MemVolume.pick_image.Goals.{in-Bundle, in-Journal}

pub image-requires-clause-pool : goal.image-requires-clause-pool
image-requires-clause-pool c = rw (c.deref-2.ensures.value, c.deref.ensures.value) (all_in_pool-take _ c.min-upto.result c.self.inside.log.items c.self.invariant.pool)

pub image-requires-clause-ends : goal.image-requires-clause-ends
image-requires-clause-ends c = rw c.deref.ensures.value (all_end_within-take c.min-upto.result c.self.inside.log.items c.self.invariant.ends)

pub returns : goal.returns
returns c =
    let a = c.self.inside in
    let upto : c.min-upto.result ≡ min (length a.log.items) c.args.moment = search rules in
    let start : c.match-file.start.now ≡ start_in c.args.file a = elim c.match-file.branch [
      | in-Bundle w ↦ ap (λ (b : _). b.now) w.start-is ∙ ap (λ (f : VolFile). start_in f a) (sym w.in-Bundle.is)
      | in-Journal w ↦ ap (λ (b : _). b.now) w.start-is ∙ ap (λ (f : VolFile). start_in f a) (sym w.in-Journal.is)
    ] in
    IfOk-weaker c.image.result _ _ (λ s each.
    picked a c.args.self.now c.args.file c.args.pick c.args.moment c.min-upto.result c.deref-2.result.now c.deref.result.now c.match-file.start.now s c.self.invariant c.self.view_is upto c.deref-2.ensures.value c.deref.ensures.value start each)
    c.image.ensures
