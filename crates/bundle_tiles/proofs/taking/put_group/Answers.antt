use Rattle.std.proofs.Common.{refl}
use Rattle.bundle_tiles.proofs.Importing.{is_put, output_as, puts_as, volume_as}
use Rattle.bundle_tiles.proofs.taking.put_group.Goals as goal

pub returns-in-Err-clause-puts : goal.returns-in-Err-clause-puts
returns-in-Err-clause-puts g c = (refl, (refl, refl))

pub returns-in-Ok-put_all-clause-puts : goal.returns-in-Ok-put_all-clause-puts
returns-in-Ok-put_all-clause-puts g c = (c.put_all.new.marks.marks, c.in-Ok-put_all.ensures.ended)

pub returns-clause-puts : goal.returns-clause-puts
returns-clause-puts g c = rw c.put_stop.ensures (puts_as c.in-Err-put_all.stop c.args.tiles.now c.put_all.new.marks.marks _ _ _ _ _ _ _ c.in-Err-put_all.ensures.ended)

pub returns-clause-told : goal.returns-clause-told
returns-clause-told g c = rw c.put_stop.ensures (record { same = c.in-Err-put_all.ensures.told.same; counted = volume_as c.in-Err-put_all.stop _ _ c.in-Err-put_all.ensures.told.counted })

pub returns-clause-output_failed : goal.returns-clause-output_failed
returns-clause-output_failed g c = rw c.put_stop.ensures (output_as c.in-Err-put_all.stop _ _ c.in-Err-put_all.ensures.output_failed)

pub returns-clause-never : goal.returns-clause-never
returns-clause-never g c = rw c.put_stop.ensures (is_put c.in-Err-put_all.stop)
