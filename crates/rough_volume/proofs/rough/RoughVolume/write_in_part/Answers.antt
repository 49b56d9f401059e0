use Rattle.std.proofs.Common.{refl, ap}
use Rattle.rough_volume.specs.State.{RoughState}
use Rattle.rough_volume.proofs.Acting.{kept_failed, kept_struck}
use Rattle.rough_volume.proofs.rough.RoughVolume.write_in_part.Goals as goal

pub returns-then-count-len-clause-failed : goal.returns-then-count-len-clause-failed
returns-then-count-len-clause-failed c =
    rw c.end.ensures.inner (kept_failed c.args.file c.args.at c.args.bytes.now c.args.bytes.now c.args.self.now.inner c.self.inside.inner c.write-answer.new.self c.write-answer.result (ap (λ (s : RoughState). s.inner) c.self.view_is) refl
    c.write-answer.ensures.ok c.write-answer.ensures.err c.requires.within)

pub returns-clause-failed : goal.returns-clause-failed
returns-clause-failed c =
    rw c.end-2.ensures.inner (kept_failed c.args.file c.args.at c.args.bytes.now c.land.new.part c.args.self.now.inner c.self.inside.inner c.write-answer-2.new.self c.write-answer-2.result (ap (λ (s : RoughState). s.inner) c.self.view_is)
    c.land.ensures c.write-answer-2.ensures.ok c.write-answer-2.ensures.err c.requires.within)

pub returns-clause-crash : goal.returns-clause-crash
returns-clause-crash c =
    rw c.end-2.ensures.inner (kept_struck c.args.file c.args.at c.args.bytes.now c.land.new.part c.args.self.now.inner c.self.inside.inner c.write-answer-2.new.self c.write-answer-2.result (ap (λ (s : RoughState). s.inner) c.self.view_is)
    c.land.ensures c.write-answer-2.ensures.ok c.write-answer-2.ensures.err c.write-answer-2.ensures.crash c.requires.within)
