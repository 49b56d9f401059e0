use Rattle.std.proofs.Common.{Bool, Err, Ok, subst, sym}
use Rattle.outside_io.specs.streams.Asks.{AsksOne}
use Rattle.grid_blobs.specs.declared.stop.InputStop.{InputStop}
use Rattle.grid_blobs.specs.inside.Reads.{ReadsGrid}
use Rattle.grid_blobs.proofs.Reading.{reads_all, reads_more, told_stop, took_more, took_some}
use Rattle.grid_blobs.proofs.encode.read_grid.Goals as goal

pub returns-in-Err-clause-grid : goal.returns-in-Err-clause-grid
returns-in-Err-clause-grid g c =
    subst (λ (s : InputStop). ReadsGrid (g.S.Source.left c.args.src.now) (Err s)) (sym c.grid_stop.ensures)
    (told_stop c.in-Err.fault (g.S.Source.left c.args.src.now) c.in-Err.ensures.fault)

pub returns-in-Ok-true-clause-grid : goal.returns-in-Ok-true-clause-grid
returns-in-Ok-true-clause-grid g c =
    subst (λ (s : InputStop). ReadsGrid (g.S.Source.left c.args.src.now) (Err s)) (sym c.leftover_stop.ensures)
    (reads_more c.in-Ok.bands c.bands_size.result (g.S.Source.left c.args.src.now) (g.S.Source.left c.bands_read.new.src) (g.S.Source.left c.has_more.new.src) c.bands_size.ensures.size c.in-Ok.ensures.ok
    (subst (λ (b : Bool). AsksOne (Ok b) (g.S.Source.left c.bands_read.new.src) (g.S.Source.left c.has_more.new.src)) c.in-Ok-true.field-0-test c.in-Ok-true.ensures.asks))

pub returns-in-Ok-false-clause-grid : goal.returns-in-Ok-false-clause-grid
returns-in-Ok-false-clause-grid g c =
    reads_all c.in-Ok.bands (g.S.Source.left c.args.src.now) (g.S.Source.left c.bands_read.new.src) (g.S.Source.left c.has_more.new.src) c.in-Ok.ensures.ok
    (subst (λ (b : Bool). AsksOne (Ok b) (g.S.Source.left c.bands_read.new.src) (g.S.Source.left c.has_more.new.src)) c.in-Ok-false.field-0-test c.in-Ok-false.ensures.asks)

pub returns-in-Ok-true-clause-taken : goal.returns-in-Ok-true-clause-taken
returns-in-Ok-true-clause-taken g c =
    took_more (Ok c.in-Ok-true.field-0) (g.S.Source.left c.args.src.now) (g.S.Source.left c.bands_read.new.src) (g.S.Source.left c.has_more.new.src) (took_some c.in-Ok.bands _ _ c.in-Ok.ensures.ok) c.in-Ok-true.ensures.asks

pub returns-in-Ok-false-clause-taken : goal.returns-in-Ok-false-clause-taken
returns-in-Ok-false-clause-taken g c =
    took_more (Ok c.in-Ok-false.field-0) (g.S.Source.left c.args.src.now) (g.S.Source.left c.bands_read.new.src) (g.S.Source.left c.has_more.new.src) (took_some c.in-Ok.bands _ _ c.in-Ok.ensures.ok) c.in-Ok-false.ensures.asks
