use Rattle.std.proofs.Common.{◌≡◌, ◌+◌, length, take, refl, arith}
use Rattle.std.proofs.lemmas.List.{length-take-le}
use Rattle.raster_grids.proofs.Taken.{ended, took_front}
use Rattle.raster_grids.proofs.TakenBytes.{took_more, took_some}
use Rattle.bundle_store.specs.declared.tile_rec.TileRec.{TileRec}
use Rattle.bundle_tiles.proofs.RawTiles.{body_told, head_told, none_left, raw_taken}
use Rattle.bundle_tiles.proofs.raw_tile.next_raw.Goals as goal

pub returns-in-Err-clause-some : goal.returns-in-Err-clause-some
returns-in-Err-clause-some g c = took_some _ _ _ c.in-Err.ensures.err

pub returns-in-Err-head_of-clause-some : goal.returns-in-Err-head_of-clause-some
returns-in-Err-head_of-clause-some g c = (take c.in-Ok.taken c.take_all.new.buf, took_front _ _ c.in-Ok.taken c.take_all.new.buf c.in-Ok.ensures.bytes)

pub take_body-requires-clause-size : goal.take_body-requires-clause-size
take_body-requires-clause-size g c = c.in-Ok-head_of.ensures.size

pub returns-in-Ok-take_body-clause-ok : goal.returns-in-Ok-take_body-clause-ok
returns-in-Ok-take_body-clause-ok g c =
    let tile : TileRec = record { slot = c.in-Ok-head_of.said.slot; bytes = c.in-Ok-take_body.bytes } in
    raw_taken _ _ _ (take c.in-Ok.taken c.take_all.new.buf) c.in-Ok-head_of.said tile c.in-Ok-head_of.ensures refl c.in-Ok-take_body.ensures.size
    (took_front _ _ c.in-Ok.taken c.take_all.new.buf c.in-Ok.ensures.bytes) c.in-Ok-take_body.ensures.ok

pub returns-in-Err-take_body-clause-fault : goal.returns-in-Err-take_body-clause-fault
returns-in-Err-take_body-clause-fault g c =
    body_told c.in-Ok-head_of.said _ _ (take c.in-Ok.taken c.take_all.new.buf) c.args.at (c.args.at + 7) c.in-Err-take_body.stop c.in-Ok-head_of.ensures
    (took_front _ _ c.in-Ok.taken c.take_all.new.buf c.in-Ok.ensures.bytes) refl c.in-Err-take_body.ensures.cut

pub returns-in-Err-take_body-clause-some : goal.returns-in-Err-take_body-clause-some
returns-in-Err-take_body-clause-some g c =
    took_more _ _ _ (take c.in-Ok.taken c.take_all.new.buf) (took_front _ _ c.in-Ok.taken c.take_all.new.buf c.in-Ok.ensures.bytes) c.in-Err-take_body.ensures.some

pub returns-then-taken-eq0-clause-ok : goal.returns-then-taken-eq0-clause-ok
returns-then-taken-eq0-clause-ok g c =
    let none = c.if-taken-eq0.true in
    let seven : length c.take_all.new.buf ≡ 7 = c.take_all.auto.buf in
    none_left _ _ c.in-Ok.taken c.take_all.new.buf none
    (c.in-Ok.ensures.end (omega (arith, none, seven))) c.in-Ok.ensures.bytes

pub returns-in-Err-head_of-clause-fault : goal.returns-in-Err-head_of-clause-fault
returns-in-Err-head_of-clause-fault g c =
    let n = c.in-Ok.taken in
    let buf = c.take_all.new.buf in
    let fault = c.in-Err-head_of.fault in
    let within = c.in-Ok.ensures.within in
    let some = c.if-taken-eq0.false in
    let seven : length buf ≡ 7 = c.take_all.auto.buf in
    let size : length (take n buf) ≡ n = length-take-le n buf within in
    head_told _ _ c.args.at fault.place _ fault.reason (take n buf)
    (took_front _ _ n buf c.in-Ok.ensures.bytes)
    (omega (arith, size, some)) (omega (arith, size, within, seven)) refl
    (λ rest is fewer. ended _ rest (c.in-Ok.ensures.end (omega (arith, size, fewer, seven))) is)
    c.in-Err-head_of.ensures.0
