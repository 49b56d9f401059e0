use Rattle.std.proofs.Common.{◌≡◌, ◌+◌, ◌<◌, ◌++◌, [], ◌∷◌, length, refl, sym, ap, ◌∙◌, subst, arith, length-append, List}
use Rattle.std.proofs.lemmas.List.{append-nil}
use Rattle.std.proofs.lemmas.Result.{err_from_is_err_and}
use Rattle.first_fault.specs.Faults.{Numbered}
use Rattle.first_fault.proofs.Decided.{numbered_push}
use Rattle.raster_values.specs.Raster.{Pixels}
use Rattle.raster_grids.specs.BandsGrid.{IsBandGrid}
use Rattle.raster_cells.proofs.Pack.{on_err}
use Rattle.raster_grids.proofs.Taken.{took_none}
use Rattle.raster_grids.proofs.TakenBytes.{took_join, took_more}
use Rattle.raster_grids.proofs.BandLists.{may_be}
use Rattle.raster_grids.proofs.BandSizes.{band_long}
use Rattle.raster_grids.proofs.BandsTaken.{next_told}
use Rattle.raster_grids.proofs.bands_grid.read_bands.Goals as goal

pub returns-in_err-first-clause-err : goal.returns-in_err-first-clause-err
returns-in_err-first-clause-err g c =
    let left = g.S.Source.left c.args.src.now in
    let p = err_from_is_err_and c.from_residual.result c.from_residual.ensures.1 in
    rw (p.1, p.2) (next_told left left [] c.args.head c.args.count c.args.at c.args.at [] c.in_err-first.field-0.0 refl (omega (arith, c.requires.least)) (took_none left) (let e : c.args.at ≡ c.args.at + 0 = omega arith in e) c.in_err-first.ensures.err)

pub loop-alloc-init : goal.loop-alloc-init
loop-alloc-init g c =
    let one = c.in_ok-first.ensures.ok in
    let h = c.args.head in
    let first = c.in_ok-first.first in
    let bands : c.in_ok-bands.bands ≡ first ∷ [] = c.in_ok-bands.ensures in
    let long : length one.0 ≡ c.band_size.result = band_long h one.0 first one.1.0 ∙ sym c.band_size.ensures.value in
    let count : length c.in_ok-bands.bands ≡ 1 = ap length bands in
    record {
      read = one.0;
      took = one.1.1;
      stand = subst (λ (xs : List Pixels). Numbered (λ k. IsBandGrid h) 0 one.0 xs) (sym bands) (one.0, ([], (sym (append-nil one.0), (one.1.0, refl))));
      at = ap (λ n. c.args.at + n) (sym long);
      small = omega (arith, long, count, c.band_size.ensures.few);
      fewer = omega (arith, count, c.requires.least);
      faults = c.in_ok-first.ensures.counted;
    }

pub read_band-requires-in-loop-alloc-clause-at : goal.read_band-requires-in-loop-alloc-clause-at
read_band-requires-in-loop-alloc-clause-at g c =
    let loop = c.loop-alloc.invariant in
    omega (arith, loop.at, loop.small, loop.fewer, c.requires.most, c.requires.at)

pub returns-in_err-band-clause-err : goal.returns-in_err-band-clause-err
returns-in_err-band-clause-err g c =
    let loop = c.loop-alloc.invariant in
    let fewer : length c.loop-alloc.bands < c.args.count = omega (arith, c.len.ensures.value, c.loop-alloc-test.true) in
    let p = err_from_is_err_and c.from_residual-in_err-band.result c.from_residual-in_err-band.ensures.1 in
    rw (p.1, p.2) (next_told (g.S.Source.left c.args.src.now) (g.S.Source.left c.loop-alloc.src) loop.read c.args.head c.args.count c.args.at c.loop-alloc.place c.loop-alloc.bands c.in_err-band.field-0.0 loop.stand fewer loop.took loop.at c.in_err-band.ensures.err)

pub returns-in_err-band-clause-some : goal.returns-in_err-band-clause-some
returns-in_err-band-clause-some g c =
    let loop = c.loop-alloc.invariant in
    on_err c.from_residual-in_err-band.result (took_more _ _ _ loop.read loop.took c.in_err-band.ensures.some)

pub push-requires : goal.push-requires
push-requires g c =
    let loop = c.loop-alloc.invariant in
    let one = c.in_ok-band.ensures.ok in
    let fewer : length c.loop-alloc.bands < c.args.count = omega (arith, c.len.ensures.value, c.loop-alloc-test.true) in
    may_be c.args.head (loop.read ++ one.0) (c.loop-alloc.bands ++ c.in_ok-band.band ∷ []) c.args.count (numbered_push (λ k. IsBandGrid c.args.head) 0 (length c.loop-alloc.bands) loop.read one.0 c.loop-alloc.bands c.in_ok-band.band (omega arith) loop.stand one.1.0)
    (omega (arith, fewer, length-append c.loop-alloc.bands (c.in_ok-band.band ∷ []))) c.requires.most c.requires.small

pub loop-alloc-preserved : goal.loop-alloc-preserved
loop-alloc-preserved g c =
    let loop = c.loop-alloc.invariant in
    let one = c.in_ok-band.ensures.ok in
    let h = c.args.head in
    let band = c.in_ok-band.band in
    let fewer : length c.loop-alloc.bands < c.args.count = omega (arith, c.len.ensures.value, c.loop-alloc-test.true) in
    let bands : c.push.new.self ≡ c.loop-alloc.bands ++ band ∷ [] = c.in_ok-push.ensures.ok in
    let long : length one.0 ≡ c.band_size-place.result = band_long h one.0 band one.1.0 ∙ sym c.band_size-place.ensures.value in
    let count : length c.push.new.self ≡ length c.loop-alloc.bands + 1 = ap length bands ∙ length-append c.loop-alloc.bands (band ∷ []) in
    record {
      read = loop.read ++ one.0;
      took = took_join _ _ _ loop.read one.0 loop.took one.1.1;
      stand = subst (λ (xs : List Pixels). Numbered (λ k. IsBandGrid h) 0 (loop.read ++ one.0) xs) (sym bands) (numbered_push (λ k. IsBandGrid h) 0 (length c.loop-alloc.bands) loop.read one.0 c.loop-alloc.bands band (omega arith) loop.stand one.1.0);
      at = omega (arith, loop.at, long, length-append loop.read one.0);
      small = omega (arith, loop.small, long, count, c.band_size-place.ensures.few, length-append loop.read one.0);
      fewer = omega (arith, count, fewer);
      faults = c.in_ok-band.ensures.counted ∙ loop.faults;
    }

pub returns-in_err-push-clause-some : goal.returns-in_err-push-clause-some
returns-in_err-push-clause-some g c =
    let loop = c.loop-alloc.invariant in
    let one = c.in_ok-band.ensures.ok in
    on_err c.from_residual-in_err-push.result (loop.read ++ one.0, took_join _ _ _ loop.read one.0 loop.took one.1.1)
