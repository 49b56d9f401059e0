use Rattle.std.proofs.Common.{◌≡◌, ◌*◌, length, sym, subst, ap, arith, ◌∙◌}
use Rattle.std.specs.Prelude.{IfErr}
use Rattle.first_fault.specs.Faults.{moved}
use Rattle.lerc_grammar.specs.Mask.{count_of, mask_size, runs_faults}
use Rattle.lerc_decode.specs.inside.Body.{IsFaultIn}
use Rattle.lerc_decode.proofs.Bodies.{run_place, bad_run, bad_count}
use Rattle.lerc_decode.proofs.blob.masks.bits_of_runs.Goals as goal

pub overflow_add-place : goal.overflow_add-place
overflow_add-place c = omega (arith, c.requires.few, run_place _ c.args.runs.now c.in-Err.fault c.read_runs.result c.read_runs.ensures.fault c.in-Err.is)

pub returns-in-Err-clause-fault : goal.returns-in-Err-clause-fault
returns-in-Err-clause-fault c =
    let h = c.args.header.now in
    subst (λ r. IfErr r (IsFaultIn (moved c.args.place (runs_faults (h.rows * h.cols) h.valid c.args.runs.now)))) (sym c.refuse.ensures)
    (bad_run (h.rows * h.cols) h.valid c.args.place _ c.args.runs.now c.in-Err.fault c.read_runs.result c.read_runs.ensures.fault c.in-Err.is c.requires.room)

pub returns-then-counted-header-clause-fault : goal.returns-then-counted-header-clause-fault
returns-then-counted-header-clause-fault c =
    let h = c.args.header.now in
    let size : length c.read_runs.new.out ≡ mask_size (h.rows * h.cols) = c.read_runs.auto.out ∙ c.requires.room in
    subst (λ r. IfErr r (IsFaultIn (moved c.args.place (runs_faults (h.rows * h.cols) h.valid c.args.runs.now)))) (sym c.refuse-then-counted-header.ensures)
    (bad_count (h.rows * h.cols) h.valid c.args.place c.count_marked-counted.result c.args.runs.now c.read_runs.new.out c.in_default.ensures.ok size (c.count_marked-counted.ensures.value ∙ ap count_of c.clear_spare.ensures.marks) c.if-counted-header.true)

pub returns-clause-ok : goal.returns-clause-ok
returns-clause-ok c = record {
  mask = c.read_runs.new.out;
  runs_of = c.in_default.ensures.ok;
  size = c.read_runs.auto.out ∙ c.requires.room;
  marks_are = c.clear_spare.ensures.marks;
  count = sym (c.count_marked-counted.ensures.value ∙ ap count_of c.clear_spare.ensures.marks) ∙ c.if-counted-header.false;
}
