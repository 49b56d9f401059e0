use Rattle.std.proofs.Common.{◌-◌, ◌∙◌, List, ℕ, length, sym, ap, arith}
use Rattle.std.proofs.lemmas.List.{length-set}
use Rattle.mask_runs.specs.Chosen.{chosen_runs}
use Rattle.mask_runs.specs.Ending.{ending_with}
use Rattle.raster_values.specs.Flat.{marks_of}
use Rattle.lerc_encode.proofs.Packing.{no_runs, runs_small, some_runs, taken_runs}
use Rattle.lerc_encode.proofs.blobs.masks.runs_size.Goals.{then-taken-via-then-taken, then-taken-via-else-taken+then-is_alike}
use Rattle.lerc_encode.proofs.blobs.masks.runs_size.Goals as goal

pub returns-then-taken-clause-value : goal.returns-then-taken-clause-value
returns-then-taken-clause-value g c =
    let marks = marks_of (g.V.View.pixels c.args.raster.now) in
    sym (ap length (elim c.then-taken.branch [
      | then-taken-via-then-taken w ↦ taken_runs c.args.taken marks w.if-taken.true
      | then-taken-via-else-taken+then-is_alike w ↦ no_runs c.args.taken marks w.if-taken.false (sym w.is_alike.ensures.value ∙ w.if-is_alike.true)
    ]))

pub returns-clause-value : goal.returns-clause-value
returns-clause-value g c =
    let marks = marks_of (g.V.View.pixels c.args.raster.now) in
    c.runs_len_with.ensures
    ∙ ap (λ (xs : List ℕ). length (chosen_runs xs)) c.last_of-last.ensures.packed
    ∙ sym (ap length (some_runs c.args.taken marks c.if-taken.false (sym c.is_alike.ensures.value ∙ c.if-is_alike.false)))

pub returns-clause-few : goal.returns-clause-few
returns-clause-few g c =
    let mask = c.mask_slice-mask.result.now in
    let last = c.last_of-last.result in
    omega (arith, c.runs_len_with.ensures, runs_small (ending_with mask last), length-set mask (length mask - 1) last, c.last_of-last.ensures.few)
