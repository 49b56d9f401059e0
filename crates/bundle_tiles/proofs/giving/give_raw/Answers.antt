use Rattle.bundle_tiles.proofs.Exporting.{head_cut, tile_cut, tile_given}
use Rattle.bundle_tiles.proofs.giving.give_raw.Goals as goal

pub returns-in-Ok-clause-ok : goal.returns-in-Ok-clause-ok
returns-in-Ok-clause-ok g c = tile_given c.args.slot c.args.tile.now _ c.head_bytes.ensures _ (g.K.Sink.held c.give_all.new.sink) _ c.give_all-in-Ok.result c.in-Ok.ensures.ok c.give_all-in-Ok.ensures.ok

pub returns-in-Ok-clause-err : goal.returns-in-Ok-clause-err
returns-in-Ok-clause-err g c = tile_cut c.args.slot c.args.tile.now _ c.head_bytes.ensures _ (g.K.Sink.held c.give_all.new.sink) _ c.give_all-in-Ok.result c.in-Ok.ensures.ok c.give_all-in-Ok.ensures.err

pub returns-in-Err-clause-err : goal.returns-in-Err-clause-err
returns-in-Err-clause-err g c = head_cut c.args.slot c.args.tile.now _ c.head_bytes.ensures _ (g.K.Sink.held c.give_all.new.sink) _ c.in-Err.ensures.err
