use Rattle.std.proofs.Common.{◌+◌, ◌≤◌, inl, length, sym, subst, refl, arith}
use Rattle.outside_io.specs.declared.volume.VolFile.TheVariants.{Bundle}
use Rattle.outside_io.specs.volume.History.{contents}
use Rattle.tile_updates.proofs.SoFar.{no_cause, same_count}
use Rattle.overview_updates.specs.declared.places.Next.{Next}
use Rattle.overview_updates.specs.declared.updates.SoFar.{SoFar}
use Rattle.overview_updates.specs.Stops.{OverviewFails, TellsStop}
use Rattle.overview_updates.specs.inside.SoFar.{EndsSo}
use Rattle.overview_updates.proofs.Refusing.{fails_at_once, fails_encoding, fails_reading, refused_encoding, refused_reading, tells_at_once}
use Rattle.overview_updates.proofs.SoFar.{list_longer, so_far_more}
use Rattle.overview_updates.proofs.updates.add_batch.Goals as goal

pub returns-in-Err-clause-refused : goal.returns-in-Err-clause-refused
returns-in-Err-clause-refused g c = λ s tells. tells_at_once _ c.args.asked.now.quarter c.args.asked.now.coding.version c.args.asked.now.coding.step c.in-Err.stop c.in-Err.ensures.at_once

pub returns-in-Err-clause-answers : goal.returns-in-Err-clause-answers
returns-in-Err-clause-answers g c = fails_at_once c.in-Err.stop c.in-Err.ensures.at_once

pub returns-in-Err-encode_batch-clause-refused : goal.returns-in-Err-encode_batch-clause-refused
returns-in-Err-encode_batch-clause-refused g c = λ s tells.
    let bundle = contents Bundle (g.V.Volume.history c.args.vol.now) in
    let f = c.in-Ok.ensures.ok in
    subst (TellsStop bundle c.args.asked.now.quarter c.args.asked.now.coding.version c.args.asked.now.coding.step) (sym c.overview_stop.ensures)
    (refused_encoding (g.V.Volume.told c.args.vol.now) bundle c.args.asked.now.quarter c.args.asked.now.coding.version c.args.asked.now.coding.step c.args.done.now c.in-Ok.filled.0 c.in-Err-encode_batch.stop tells s f.waiting c.requires.few c.in-Err-encode_batch.ensures.refused)

pub returns-in-Err-encode_batch-clause-answers : goal.returns-in-Err-encode_batch-clause-answers
returns-in-Err-encode_batch-clause-answers g c =
    let w = c.in-Ok.ensures.ok.waiting in
    let few : length c.args.done.now.list + length c.in-Ok.filled.0.batch ≤ 4096 = omega (arith, c.requires.few, w.few, w.within) in
    subst OverviewFails (sym c.overview_stop.ensures) (fails_encoding c.args.asked.now.coding.version c.args.asked.now.coding.step c.args.done.now.list c.in-Ok.filled.0.batch c.in-Err-encode_batch.stop few c.in-Err-encode_batch.ensures.refused)

pub returns-in-More-clause-ok : goal.returns-in-More-clause-ok
returns-in-More-clause-ok g c = λ s.
    let m = contents Bundle (g.V.Volume.history c.args.vol.now) in
    let w = c.in-Ok.filled.0 in
    let after : SoFar = record { list = c.encode_batch.new.list; place = w.place } in
    so_far_more (g.V.Volume.told c.args.vol.now) m c.args.asked.now.quarter c.args.asked.now.coding.version c.args.asked.now.coding.step c.args.done.now after w s c.in-Ok.ensures.ok.waiting c.requires.few c.in-Ok-encode_batch.ensures.passed c.in-Ok-encode_batch.ensures.encoded c.in-Ok-encode_batch.ensures.added refl

pub returns-in-More-clause-grows : goal.returns-in-More-clause-grows
returns-in-More-clause-grows g c =
    subst (λ (e : Next). EndsSo (g.V.Volume.told c.args.vol.now) (contents Bundle (g.V.Volume.history c.args.vol.now)) c.args.asked.now.coding.version c.args.done.now.place c.in-Ok.filled.0 e) c.in-More.is c.in-Ok.ensures.ok.ends

pub returns-in-More-clause-few : goal.returns-in-More-clause-few
returns-in-More-clause-few g c =
    let longer = list_longer c.args.asked.now.coding.version c.args.asked.now.coding.step c.args.done.now.list c.encode_batch.new.list c.in-Ok.filled.0.batch c.in-Ok-encode_batch.ensures.added in
    omega (arith, longer, c.requires.few, c.in-Ok.ensures.ok.waiting.few)

pub returns-in-Refused-clause-refused : goal.returns-in-Refused-clause-refused
returns-in-Refused-clause-refused g c = λ s tells.
    let told = g.V.Volume.told c.args.vol.now in
    let bundle = contents Bundle (g.V.Volume.history c.args.vol.now) in
    let v = c.args.asked.now.coding.version in
    let w = c.in-Ok.filled.0 in
    let after : SoFar = record { list = c.encode_batch.new.list; place = w.place } in
    let ends = subst (λ (e : Next). EndsSo told bundle v c.args.done.now.place w e) c.in-Refused.is c.in-Ok.ensures.ok.ends in
    let here = ends.1.1.1 tells in
    refused_reading told bundle c.args.asked.now.quarter v c.args.asked.now.coding.step after c.in-Refused.stop tells
    (so_far_more told bundle c.args.asked.now.quarter v c.args.asked.now.coding.step c.args.done.now after w s c.in-Ok.ensures.ok.waiting c.requires.few c.in-Ok-encode_batch.ensures.passed c.in-Ok-encode_batch.ensures.encoded c.in-Ok-encode_batch.ensures.added refl)
    ends.0 here.0 here.1

pub returns-in-Refused-clause-answers : goal.returns-in-Refused-clause-answers
returns-in-Refused-clause-answers g c =
    let ends = subst (λ (e : Next). EndsSo (g.V.Volume.told c.args.vol.now) (contents Bundle (g.V.Volume.history c.args.vol.now)) c.args.asked.now.coding.version c.args.done.now.place c.in-Ok.filled.0 e) c.in-Refused.is c.in-Ok.ensures.ok.ends in
    fails_reading c.in-Refused.stop ends.1.0

pub returns-in-Refused-clause-reads : goal.returns-in-Refused-clause-reads
returns-in-Refused-clause-reads g c =
    let ends = subst (λ (e : Next). EndsSo (g.V.Volume.told c.args.vol.now) (contents Bundle (g.V.Volume.history c.args.vol.now)) c.args.asked.now.coding.version c.args.done.now.place c.in-Ok.filled.0 e) c.in-Refused.is c.in-Ok.ensures.ok.ends in
    record {
      same = c.fill.ensures.reads.same;
      counted = no_cause _ (g.V.Volume.faults c.args.vol.now) (g.V.Volume.faults c.fill.new.vol) (λ is. ends.1.1.0 (inl cc)) (same_count _ (g.V.Volume.faults c.args.vol.now) (g.V.Volume.faults c.fill.new.vol) c.in-Ok.ensures.reads.counted (λ e. let no : ⊥ = cc e in no));
      during = c.fill.ensures.reads.during;
    }
