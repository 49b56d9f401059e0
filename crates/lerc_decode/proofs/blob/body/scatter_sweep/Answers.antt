use Rattle.std.proofs.Common.{◌≡◌, ◌*◌, ◌∙◌, length, refl, subst, sym, arith}
use Rattle.std.specs.Prelude.{IfErr}
use Rattle.first_fault.specs.Faults.{moved}
use Rattle.raster_cells.specs.PixelType.{bytes_of}
use Rattle.lerc_grammar.specs.Image.{sweep_faults, value_count}
use Rattle.lerc_decode.specs.inside.Body.{IsFaultIn}
use Rattle.lerc_decode.proofs.Filling.{keeps, left_over, marked_count, same_frame, swept}
use Rattle.lerc_decode.proofs.blob.body.scatter_sweep.Goals as goal

pub returns-then-sweep-need-2-clause-fault : goal.returns-then-sweep-need-2-clause-fault
returns-then-sweep-need-2-clause-fault g c =
    subst (λ r. IfErr r (IsFaultIn (moved c.args.place (sweep_faults c.args.header.now c.args.sweep.now)))) (sym c.refuse-then-sweep-need-2.ensures)
    (left_over c.args.header.now c.args.sweep.now c.args.place c.sweep_len-need.result c.sweep_len-need.ensures.value c.if-sweep-need-2.true)

pub returns-then-sweep-need-clause-frame : goal.returns-then-sweep-need-clause-frame
returns-then-sweep-need-clause-frame g c = same_frame _ _ c.requires.marked.shaped.raster

pub returns-then-sweep-need-2-clause-frame : goal.returns-then-sweep-need-2-clause-frame
returns-then-sweep-need-2-clause-frame g c = same_frame _ _ c.requires.marked.shaped.raster

pub scatter-requires : goal.scatter-requires
scatter-requires g c =
    let h = c.args.header.now in
    let r = g.T.Target.pixels c.args.raster.now in
    let shape = c.requires.marked.shaped.shape in
    let valid = marked_count r r h.valid (record { kind = refl; rows = refl; cols = refl; depth = refl; marks = refl }) c.requires.marked.valid in
    let size : length c.args.sweep.now ≡ value_count h * bytes_of h.kind = omega (arith, c.if-sweep-need.false, c.if-sweep-need-2.false, c.sweep_len-need.ensures.value) in
    record { size = size ∙ (λ i. sym valid i * shape.depth i * bytes_of (shape.kind i)) }

pub returns-clause-frame : goal.returns-clause-frame
returns-clause-frame g c = record {
  raster = c.scatter.ensures.sound;
  marks = keeps _ _ c.requires.marked.shaped.raster c.scatter.ensures.sound c.scatter.ensures.scattered.same;
  kept = c.scatter.ensures.kept;
}

pub returns-clause-ok : goal.returns-clause-ok
returns-clause-ok g c = swept c.args.header.now _ _ c.args.sweep.now c.sweep_len-need.result c.requires.marked.shaped.shape c.scatter.ensures.scattered c.sweep_len-need.ensures.value (omega (arith, c.if-sweep-need.false, c.if-sweep-need-2.false))
