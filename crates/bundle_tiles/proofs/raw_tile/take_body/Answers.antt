use Rattle.std.proofs.Common.{◌≡◌, ℕ, [], ◌++◌, length, drop, take, refl, sym, ap, subst, ◌∙◌, arith}
use Rattle.std.proofs.lemmas.List.{length-take-le, take_all}
use Rattle.std.proofs.Math.Seq.{take-append_seam}
use Rattle.raster_grids.specs.Taken.{TookBytes}
use Rattle.raster_grids.proofs.Taken.{took_front, took_none}
use Rattle.raster_grids.proofs.TakenBytes.{took_some}
use Rattle.bundle_tiles.proofs.RawTiles.{body_cut}
use Rattle.bundle_tiles.proofs.raw_tile.take_body.Goals as goal

-- memory was refused: nothing was taken
pub returns-in-Err-clause-some : goal.returns-in-Err-clause-some
returns-in-Err-clause-some g c = ([], took_none _)

pub returns-in-Err-take_all-clause-some : goal.returns-in-Err-take_all-clause-some
returns-in-Err-take_all-clause-some g c = took_some _ _ _ c.in-Err-take_all.ensures.err

pub returns-then-taken-size-clause-some : goal.returns-then-taken-size-clause-some
returns-then-taken-size-clause-some g c = (take c.in-Ok-take_all.taken c.take_all.new.buf, took_front _ _ c.in-Ok-take_all.taken c.take_all.new.buf c.in-Ok-take_all.ensures.bytes)

pub returns-then-taken-size-clause-cut : goal.returns-then-taken-size-clause-cut
returns-then-taken-size-clause-cut g c =
    let n = c.in-Ok-take_all.taken in
    let buf = c.take_all.new.buf in
    let less = c.if-taken-size.true in
    let long : length buf ≡ c.args.size = omega (arith, c.take_all.auto.buf, c.as_mut_slice.ensures.len, c.in-Ok.ensures.len) in
    body_cut _ _ c.args.at c.args.size n _ (take n buf) (took_front _ _ n buf c.in-Ok-take_all.ensures.bytes) (length-take-le n buf c.in-Ok-take_all.ensures.within) less
    (c.in-Ok-take_all.ensures.end (omega (arith, less, long))) refl

-- as many as were asked for are all that the buffer has
pub returns-clause-ok : goal.returns-clause-ok
returns-clause-ok g c =
    let n = c.in-Ok-take_all.taken in
    let buf = c.take_all.new.buf in
    let long : length buf ≡ c.args.size = omega (arith, c.take_all.auto.buf, c.as_mut_slice.ensures.len, c.in-Ok.ensures.len) in
    let all : take n buf ≡ buf = take_all n buf (omega (arith, c.if-taken-size.false, long)) in
    let rest = drop (length buf) c.resize.new.self.items in
    let len : c.resize.new.self.len ≡ length buf = c.in-Ok.ensures.len ∙ sym long in
    let whole : c.from_vec.result ≡ buf = c.from_vec.ensures ∙ ap (λ (k : ℕ). take k (buf ++ rest)) len ∙ take-append_seam buf rest in
    subst (TookBytes _ _) (all ∙ sym whole) (took_front _ _ n buf c.in-Ok-take_all.ensures.bytes)
