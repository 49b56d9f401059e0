use Rattle.std.proofs.Common.{◌≡◌, ◌+◌, ◌<◌, ◌-◌, ◌++◌, ◌∷◌, [], List, length, sym, ap, ◌∙◌, subst, arith, length-append}
use Rattle.raster_values.specs.Raster.{Pixels}
use Rattle.lerc_c.specs.Arrays.{IsGiven, values_size, mask_array_size}
use Rattle.lerc_c.specs.BandArrays.{AreGivenFrom, mask_for, part_at}
use Rattle.lerc_c.proofs.BandGiving.{given_more, may_be}
use Rattle.lerc_c.proofs.band_encoding.given_bands.Goals as goal

pub push-requires : goal.push-requires
push-requires c =
    let a = c.args.fit.arrays in
    let loop = c.loop-alloc.invariant in
    let count : c.len-i.result ≡ length c.loop-alloc.bands = c.len-i.ensures.value in
    let one : IsGiven a.kind a.rows a.cols a.depth (part_at (values_size a.kind a.rows a.cols a.depth) (0 + length c.loop-alloc.bands) a.values.now) (mask_for (mask_array_size a.rows a.cols) (0 + length c.loop-alloc.bands) a.masks.now) c.in_ok-band.band =
    subst (λ j. IsGiven a.kind a.rows a.cols a.depth (part_at (values_size a.kind a.rows a.cols a.depth) j a.values.now) (mask_for (mask_array_size a.rows a.cols) j a.masks.now) c.in_ok-band.band) (let e : c.len-i.result ≡ 0 + length c.loop-alloc.bands = omega (arith, count) in e) c.in_ok-band.ensures in
    let fewer : length c.loop-alloc.bands < a.count = omega (arith, c.len.ensures.value, c.loop-alloc-test.true) in
    may_be a.kind a.rows a.cols a.depth a.count a.values.now a.masks.now (c.loop-alloc.bands ++ c.in_ok-band.band ∷ []) (given_more a.kind a.rows a.cols a.depth a.values.now a.masks.now 0 c.loop-alloc.bands c.in_ok-band.band loop.given one)
    (omega (arith, fewer, length-append c.loop-alloc.bands (c.in_ok-band.band ∷ []))) c.args.fit.allowed.few c.args.fit.allowed.together

pub loop-alloc-smaller : goal.loop-alloc-smaller
loop-alloc-smaller c =
    let fewer : length c.loop-alloc.bands < c.args.fit.arrays.count = omega (arith, c.len.ensures.value, c.loop-alloc-test.true) in
    let count : length c.push.new.self ≡ length c.loop-alloc.bands + 1 = ap length c.in-Ok.ensures.ok ∙ length-append c.loop-alloc.bands (c.in_ok-band.band ∷ []) in
    omega (arith, count, fewer)

pub loop-alloc-preserved : goal.loop-alloc-preserved
loop-alloc-preserved c =
    let a = c.args.fit.arrays in
    let loop = c.loop-alloc.invariant in
    let same : c.push.new.self ≡ c.loop-alloc.bands ++ c.in_ok-band.band ∷ [] = c.in-Ok.ensures.ok in
    let count : c.len-i.result ≡ length c.loop-alloc.bands = c.len-i.ensures.value in
    let one : IsGiven a.kind a.rows a.cols a.depth (part_at (values_size a.kind a.rows a.cols a.depth) (0 + length c.loop-alloc.bands) a.values.now) (mask_for (mask_array_size a.rows a.cols) (0 + length c.loop-alloc.bands) a.masks.now) c.in_ok-band.band =
    subst (λ j. IsGiven a.kind a.rows a.cols a.depth (part_at (values_size a.kind a.rows a.cols a.depth) j a.values.now) (mask_for (mask_array_size a.rows a.cols) j a.masks.now) c.in_ok-band.band) (let e : c.len-i.result ≡ 0 + length c.loop-alloc.bands = omega (arith, count) in e) c.in_ok-band.ensures in
    let fewer : length c.loop-alloc.bands < a.count = omega (arith, c.len.ensures.value, c.loop-alloc-test.true) in
    let long : length c.push.new.self ≡ length c.loop-alloc.bands + 1 = ap length same ∙ length-append c.loop-alloc.bands (c.in_ok-band.band ∷ []) in
    record {
      given = subst (λ (xs : List Pixels). AreGivenFrom a.kind a.rows a.cols a.depth a.values.now a.masks.now 0 xs) (sym same) (given_more a.kind a.rows a.cols a.depth a.values.now a.masks.now 0 c.loop-alloc.bands c.in_ok-band.band loop.given one);
      fewer = omega (arith, long, fewer);
    }
