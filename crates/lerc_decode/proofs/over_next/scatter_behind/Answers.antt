use Rattle.std.proofs.Common.{sym, ap, ◌∙◌, arith, rules}
use Rattle.raster_cells.specs.Masks.{count_of}
use Rattle.raster_values.specs.RasterMut.{lent_pixels}
use Rattle.lerc_decode.proofs.Bodies.{ok_map}
use Rattle.lerc_decode.proofs.OverBands.{err_to, marked_by}
use Rattle.lerc_decode.proofs.over_next.scatter_behind.Goals as goal

pub fill_behind-requires-clause-shape : goal.fill_behind-requires-clause-shape
fill_behind-requires-clause-shape c =
    let e = c.over-lent.ensures in
    record { kind = sym e.kind; rows = sym e.rows; cols = sym e.cols; depth = sym e.depth }

pub fill_behind-requires-clause-valid : goal.fill_behind-requires-clause-valid
fill_behind-requires-clause-valid c = ap count_of c.over-lent.ensures.marks ∙ c.requires.valid

pub returns-clause-bytes : goal.returns-clause-bytes
returns-clause-bytes c = λ k. omega (arith, c.type_inv.mask k)

pub returns-clause-ok : goal.returns-clause-ok
returns-clause-ok c =
    let h = c.args.blob.now.header in
    let e = c.over-lent.ensures in
    let k = c.fill_behind.ensures.marks in
    ok_map (λ made before m. record {
      raster = lent_pixels c.fill_behind.new.lent;
      blob_of = made before (marked_by before h c.args.blob.now.bytes.now c.args.form.now c.args.mask.now (lent_pixels c.over-lent.result) (record { kind = sym e.kind; rows = sym e.rows; cols = sym e.cols; depth = sym e.depth }) e.marks m);
      shape = record { kind = sym e.kind ∙ k.kind; rows = sym e.rows ∙ k.rows; cols = sym e.cols ∙ k.cols; depth = sym e.depth ∙ k.depth };
      marks = sym k.marks ∙ e.marks;
      values_are = search rules;
    }) c.fill_behind.result c.fill_behind.ensures.ok

pub returns-clause-fault : goal.returns-clause-fault
returns-clause-fault c =
    let h = c.args.blob.now.header in
    let e = c.over-lent.ensures in
    err_to (λ f w before m. w before (marked_by before h c.args.blob.now.bytes.now c.args.form.now c.args.mask.now (lent_pixels c.over-lent.result) (record { kind = sym e.kind; rows = sym e.rows; cols = sym e.cols; depth = sym e.depth }) e.marks m)) c.fill_behind.result c.fill_behind.ensures.fault
