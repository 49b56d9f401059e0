use Rattle.std.proofs.Common.{◌≡◌, Ok, Err, ap, refl, sym}
use Rattle.program_ends.specs.declared.stop.Stop.TheVariants.{Volume}
use Rattle.overview_cli.proofs.Runs.{first_failed, second_failed}
use Rattle.overview_cli.proofs.dispatch.perform.Goals as goal

pub returns-in-Err-clause-done : goal.returns-in-Err-clause-done
returns-in-Err-clause-done g c = record {
  taken = Err c.in-Err.stop;
  takes = c.in-Err.ensures.takes;
  reading = c.in-Err.ensures.reading;
  from_rests = c.in-Err.ensures.rests;
  ends = (refl, (c.in-Err.ensures.none, (refl, refl)));
}

pub returns-in-Err-clause-volume : goal.returns-in-Err-clause-volume
returns-in-Err-clause-volume g c = first_failed _ _ _ _ (λ is. let same : c.in-Err.stop ≡ Volume = cc in ap (λ s. Err s) same) (λ is. let same : c.in-Err.stop ≡ Volume = cc in ap (λ s. Err s) same) c.in-Err.ensures.reading.cause

pub returns-clause-done : goal.returns-clause-done
returns-clause-done g c = record {
  taken = Ok c.in-Ok.updates;
  takes = c.in-Ok.ensures.takes;
  reading = c.in-Ok.ensures.reading;
  from_rests = c.in-Ok.ensures.rests;
  ends = rw (sym c.as_slice.ensures.value) (c.put_overview.ensures.volume, c.put_overview.ensures.output);
}

pub returns-clause-volume : goal.returns-clause-volume
returns-clause-volume g c = second_failed _ _ _ _ (λ is. absurd cc) c.in-Ok.ensures.reading.cause c.put_overview.ensures.volume.cause

pub returns-clause-output : goal.returns-clause-output
returns-clause-output g c = c.put_overview.ensures.output.cause
