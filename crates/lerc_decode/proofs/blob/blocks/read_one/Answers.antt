use Rattle.std.proofs.Common.{◌≡◌, ◌*◌, ℤ, List, length, ap, sym, subst, arith, ◌∙◌}
use Rattle.std.specs.Prelude.{IfErr, All}
use Rattle.std.proofs.lemmas.List.{length-drop, length-map, take_rest}
use Rattle.std.proofs.lemmas.Int.{ints, to_z-of_z}
use mir.Syntax.{w64}
use mir.Val.{SFits, of_z, to_z}
use Rattle.raster_cells.specs.declared.kind.PixelType.{PixelType}
use Rattle.raster_cells.specs.PixelType.{InRange}
use Rattle.raster_cells.specs.Listed.{sums_of}
use Rattle.raster_values.specs.Block.{ScattersBlock}
use Rattle.raster_cells.proofs.ValueBits.{same_bits}
use Rattle.raster_values.specs.Flat.{marks_of}
use Rattle.micro_block.specs.declared.context.SteppedBlock.{SteppedBlock}
use Rattle.micro_block.specs.ReadSteps.{stepped_values}
use Rattle.lerc_decode.specs.inside.ImageBlocks.{IsBlockFault}
use Rattle.lerc_decode.proofs.Filling.{keeps, same_frame}
use Rattle.lerc_decode.proofs.BlockReading.{row_begins, col_begins, one_read, one_fault, square_within}
use Rattle.lerc_decode.proofs.blob.blocks.read_one.Goals as goal

pub invariant_of-ctx-clause-top_of_type : goal.invariant_of-ctx-clause-top_of_type
invariant_of-ctx-clause-top_of_type g c =
    let fit = c.at.ensures.in_range in
    subst (InRange c.args.blocks.now.header.now.kind) (sym (same_bits c.args.blocks.now.header.now.kind c.at.result fit)) fit

pub invariant_of-ctx-clause-twice_error : goal.invariant_of-ctx-clause-twice_error
invariant_of-ctx-clause-twice_error g c = c.args.blocks.now.topped.head.step

pub at-requires-clause-maxima : goal.at-requires-clause-maxima
at-requires-clause-maxima g c = c.args.blocks.now.topped.maxima_of

pub scatter_given-requires-clause-place : goal.scatter_given-requires-clause-place
scatter_given-requires-clause-place g c =
    square_within c.args.blocks.now.header.now (g.T.Target.pixels c.args.raster.now) c.args.a c.args.b c.args.blocks.now.topped.head c.requires.square c.requires.shaped.shape

pub scatter_given-requires-clause-count : goal.scatter_given-requires-clause-count
scatter_given-requires-clause-count g c =
    ap length c.of-sums.ensures.listed ∙ length-map _ _ ∙ length-map _ _ ∙ c.read_steps.auto.numbers ∙ c.requires.count

pub scatter_given-requires-clause-in_range : goal.scatter_given-requires-clause-in_range
scatter_given-requires-clause-in_range g c =
    subst (λ (k : PixelType). All (InRange k) (sums_of c.of-sums.result)) c.requires.shaped.shape.kind c.of-sums.ensures.in_range

pub returns-in-Ok-clause-frame : goal.returns-in-Ok-clause-frame
returns-in-Ok-clause-frame g c = record {
  raster = c.scatter_given.ensures.sound;
  marks = keeps _ _ c.requires.shaped.raster c.scatter_given.ensures.sound c.scatter_given.ensures.scattered.same;
  kept = c.scatter_given.ensures.kept;
}

pub returns-in-Err-clause-frame : goal.returns-in-Err-clause-frame
returns-in-Err-clause-frame g c = same_frame _ _ c.requires.shaped.raster

pub returns-in-Ok-clause-ok : goal.returns-in-Ok-clause-ok
returns-in-Ok-clause-ok g c =
    let h = c.args.blocks.now.header.now in
    let kind = h.kind in
    let read = c.in-Ok.read in
    let numbers = c.read_steps.new.numbers in
    let size = c.in-Ok.ensures.step in
    let fits : SFits w64 read.step = omega (arith, ints, size) in
    let low : to_z w64 (of_z w64 read.offset) ≡ read.offset = same_bits kind read.offset c.in-Ok.ensures.offset in
    let far : to_z w64 (of_z w64 read.step) ≡ read.step = to_z-of_z w64 read.step fits in
    let high : to_z w64 (of_z w64 read.top) ≡ read.top = same_bits kind read.top c.in-Ok.ensures.top in
    let near : SteppedBlock = record { used = read.used; offset = to_z w64 (of_z w64 read.offset); step = to_z w64 (of_z w64 read.step); top = to_z w64 (of_z w64 read.top) } in
    let given : ScattersBlock (g.T.Target.pixels c.args.raster.now) (g.T.Target.pixels c.scatter_given.new.self) (c.args.a * h.side) (c.args.b * h.side) h.side c.args.d (stepped_values near numbers) =
    subst (λ (u : List ℤ). ScattersBlock (g.T.Target.pixels c.args.raster.now) (g.T.Target.pixels c.scatter_given.new.self) (c.args.a * h.side) (c.args.b * h.side) h.side c.args.d u) c.of-sums.ensures.listed c.scatter_given.ensures.scattered in
    let scattered : ScattersBlock (g.T.Target.pixels c.args.raster.now) (g.T.Target.pixels c.scatter_given.new.self) (c.args.a * h.side) (c.args.b * h.side) h.side c.args.d (stepped_values read numbers) =
    subst (λ (u : List ℤ). ScattersBlock (g.T.Target.pixels c.args.raster.now) (g.T.Target.pixels c.scatter_given.new.self) (c.args.a * h.side) (c.args.b * h.side) h.side c.args.d u)
    (λ i. stepped_values (record { used = read.used; offset = low i; step = far i; top = high i }) numbers) given in
    one_read h (g.T.Target.pixels c.args.raster.now) (g.T.Target.pixels c.scatter_given.new.self) c.args.blocks.now.maxima.now (stepped_values read numbers) c.args.blocks.now.rest.now _ c.args.a c.args.b c.args.d c.args.at read.used (length c.args.numbers.now)
    c.args.blocks.now.topped.head c.requires.square c.requires.depth c.requires.shaped.shape (same_bits kind c.at.result c.at.ensures.in_range ∙ c.at.ensures.value) c.requires.count c.requires.read c.in-Ok.ensures.ok scattered

pub returns-in-Err-clause-fault : goal.returns-in-Err-clause-fault
returns-in-Err-clause-fault g c =
    let rest = c.args.blocks.now.rest.now in
    subst (λ r. IfErr r (IsBlockFault c.args.blocks.now (marks_of (g.T.Target.pixels c.args.raster.now)))) (sym c.refuse_block.ensures)
    (record {
      first = one_fault c.args.blocks.now.header.now (g.T.Target.pixels c.args.raster.now) c.args.blocks.now.maxima.now rest _ c.args.a c.args.b c.args.d c.args.at (length c.args.numbers.now) c.in-Err.fault
          c.requires.square c.requires.depth c.requires.shaped.shape (same_bits c.args.blocks.now.header.now.kind c.at.result c.at.ensures.in_range ∙ c.at.ensures.value) c.requires.count c.requires.read ((c.read_steps.ensures.fault c.in-Err.fault).0 c.in-Err.is);
      near = omega (arith, c.requires.read.within, c.in-Err.ensures.within, ap length (take_rest rest c.args.at), length-drop c.args.at rest);
    })

pub overflow_mul-row : goal.overflow_mul-row
overflow_mul-row g c =
    omega (arith, row_begins c.args.blocks.now.header.now c.args.a c.args.blocks.now.topped.head c.requires.square.down)

pub overflow_mul-col : goal.overflow_mul-col
overflow_mul-col g c =
    omega (arith, col_begins c.args.blocks.now.header.now c.args.b c.args.blocks.now.topped.head c.requires.square.across)
