use Rattle.std.proofs.Common.{refl, ap}
use Rattle.rough_volume.specs.State.{RoughState}
use Rattle.rough_volume.proofs.Acting.{kept_failed, on_err}
use Rattle.rough_volume.proofs.rough.RoughVolumeVolume.write.Goals as goal

pub returns-in-None-clause-failed : goal.returns-in-None-clause-failed
returns-in-None-clause-failed c told =
    on_err c.end.result (rw c.end.ensures.inner (kept_failed c.args.file c.args.at c.args.bytes.now c.args.bytes.now c.args.self.now.inner c.self.inside.inner c.write-answer.new.self c.write-answer.result (ap (λ (s : RoughState). s.inner) c.self.view_is) refl
    c.write-answer.ensures.ok c.write-answer.ensures.err (c.requires.within told)))
