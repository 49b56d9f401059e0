use Rattle.std.proofs.Common.{◌≡◌, ◌+◌, length, take, refl, sym, subst, arith}
use Rattle.std.proofs.lemmas.List.{length-take-le}
use Rattle.raster_grids.proofs.Taken.{ended, took_front}
use Rattle.raster_grids.proofs.TakenBytes.{took_more, took_some}
use Rattle.tile_stream.specs.declared.tile.Tile.{Tile}
use Rattle.tile_stream.specs.declared.tile.TileStop.{TileStop}
use Rattle.tile_stream.specs.Tile.{IsToldStop}
use Rattle.tile_stream.proofs.Tiles.{grid_told, head_told, none_left, tile_taken}
use Rattle.tile_stream.proofs.tile.next_tile.Goals as goal

pub returns-in-Err-clause-some : goal.returns-in-Err-clause-some
returns-in-Err-clause-some g c = took_some _ _ _ c.in-Err.ensures.err

pub returns-in-Err-slot_of-clause-some : goal.returns-in-Err-slot_of-clause-some
returns-in-Err-slot_of-clause-some g c = (take c.in-Ok.taken c.take_all.new.buf, took_front _ _ c.in-Ok.taken c.take_all.new.buf c.in-Ok.ensures.bytes)

pub returns-in-Ok-bands_read-clause-ok : goal.returns-in-Ok-bands_read-clause-ok
returns-in-Ok-bands_read-clause-ok g c =
    let grid = c.in-Ok-bands_read.ensures.ok in
    let tile : Tile = record { slot = c.in-Ok-slot_of.slot; bands = c.in-Ok-bands_read.bands } in
    tile_taken _ _ _ (take c.in-Ok.taken c.take_all.new.buf) grid.0 tile c.in-Ok-slot_of.ensures grid.1.0 (took_front _ _ c.in-Ok.taken c.take_all.new.buf c.in-Ok.ensures.bytes) grid.1.1

pub returns-in-Err-bands_read-clause-fault : goal.returns-in-Err-bands_read-clause-fault
returns-in-Err-bands_read-clause-fault g c =
    subst (λ (stop : TileStop). IsToldStop (g.S.Source.left c.args.src.now) c.args.at stop) (sym c.grid_stop.ensures)
    (grid_told c.in-Ok-slot_of.slot _ _ (take c.in-Ok.taken c.take_all.new.buf) c.args.at (c.args.at + 3) c.in-Err-bands_read.stop c.in-Ok-slot_of.ensures
    (took_front _ _ c.in-Ok.taken c.take_all.new.buf c.in-Ok.ensures.bytes) refl c.in-Err-bands_read.ensures.fault)

pub returns-in-Err-bands_read-clause-some : goal.returns-in-Err-bands_read-clause-some
returns-in-Err-bands_read-clause-some g c =
    took_more _ _ _ (take c.in-Ok.taken c.take_all.new.buf) (took_front _ _ c.in-Ok.taken c.take_all.new.buf c.in-Ok.ensures.bytes) c.in-Err-bands_read.ensures.some

pub returns-then-taken-eq0-clause-ok : goal.returns-then-taken-eq0-clause-ok
returns-then-taken-eq0-clause-ok g c =
    let none = c.if-taken-eq0.true in
    let three : length c.take_all.new.buf ≡ 3 = c.take_all.auto.buf in
    none_left _ _ c.in-Ok.taken c.take_all.new.buf none
    (c.in-Ok.ensures.end (omega (arith, none, three))) c.in-Ok.ensures.bytes

pub returns-in-Err-slot_of-clause-fault : goal.returns-in-Err-slot_of-clause-fault
returns-in-Err-slot_of-clause-fault g c =
    let n = c.in-Ok.taken in
    let buf = c.take_all.new.buf in
    let fault = c.in-Err-slot_of.fault in
    let within = c.in-Ok.ensures.within in
    let some = c.if-taken-eq0.false in
    let three : length buf ≡ 3 = c.take_all.auto.buf in
    let size : length (take n buf) ≡ n = length-take-le n buf within in
    head_told _ _ c.args.at fault.place _ fault.reason (take n buf)
    (took_front _ _ n buf c.in-Ok.ensures.bytes)
    (omega (arith, size, some)) (omega (arith, size, within, three)) refl
    (λ rest is fewer. ended _ rest (c.in-Ok.ensures.end (omega (arith, size, fewer, three))) is)
    c.in-Err-slot_of.ensures.0
