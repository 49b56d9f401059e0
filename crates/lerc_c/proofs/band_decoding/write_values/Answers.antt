use Rattle.std.proofs.Common.{◌≡◌, ◌+◌, ◌*◌, ◌≤◌, ◌++◌, length, take, drop, sym, ap, ◌∙◌, arith, length-append}
use Rattle.std.specs.List.{flat_map}
use Rattle.std.proofs.Math.Nat.{add-mul}
use Rattle.raster_values.specs.Places.{SameShape}
use Rattle.lerc_c.specs.Arrays.{values_size}
use Rattle.lerc_c.specs.BandArrays.{cells_of}
use Rattle.lerc_c.proofs.BandGiving.{room}
use Rattle.lerc_c.proofs.BandLaying.{laid_more, cells_more, same_shape, sizes_of, same_values_size}
use Rattle.lerc_c.proofs.band_decoding.write_values.Goals as goal

pub lay-requires : goal.lay-requires
lay-requires c =
    let bands = c.args.bands.now in
    let first = c.at-first.result.now in
    let band = c.at-band.result.now in
    let shape : SameShape band first = same_shape bands first band c.loop-i.i c.len-i-end.ensures.sound c.at-first.ensures c.at-band.ensures in
    let sizes = sizes_of bands first (length bands) (length c.args.values.now) c.requires.0 c.at-first.ensures c.requires.1 in
    let size : c.band_size-size.result ≡ values_size first.kind first.rows first.cols first.depth = c.band_size-size.ensures ∙ (λ i. values_size (c.kind.ensures.value i) (c.rows.ensures.value i) (c.cols.ensures.value i) (c.depth.ensures.value i)) in
    let long : length c.cells.result.now ≡ c.band_size-size.result = c.cells.ensures.size ∙ same_values_size band first shape ∙ sym size in
    let same : length c.loop-i.values ≡ length c.args.values.now = c.loop-i.auto.values in
    let within : c.loop-i.i * c.band_size-size.result + c.band_size-size.result ≤ length c.args.values.now =
    room (length bands) c.loop-i.i c.band_size-size.result (length c.args.values.now) (omega (arith, c.loop-i-test.true, c.len-i-end.ensures.value)) (sizes.0 ∙ ap (λ m. length bands * m) (sym size)) in
    omega (arith, long, same, within)

pub loop-i-preserved : goal.loop-i-preserved
loop-i-preserved c =
    let bands = c.args.bands.now in
    let first = c.at-first.result.now in
    let band = c.at-band.result.now in
    let i = c.loop-i.i in
    let loop = c.loop-i.invariant in
    let size = c.band_size-size.result in
    let shape : SameShape band first = same_shape bands first band i c.len-i-end.ensures.sound c.at-first.ensures c.at-band.ensures in
    let is_size : size ≡ values_size first.kind first.rows first.cols first.depth = c.band_size-size.ensures ∙ (λ j. values_size (c.kind.ensures.value j) (c.rows.ensures.value j) (c.cols.ensures.value j) (c.depth.ensures.value j)) in
    let run = c.cells.result.now in
    let long : length run ≡ size = c.cells.ensures.size ∙ same_values_size band first shape ∙ sym is_size in
    let cells : flat_map cells_of (take (i + 1) bands) ≡ flat_map cells_of (take i bands) ++ run = cells_more bands i band c.at-band.ensures ∙ ap (λ u. flat_map cells_of (take i bands) ++ u) (sym c.cells.ensures.bytes) in
    let laid : c.lay.new.array ≡ take (i * size) c.loop-i.values ++ (run ++ drop (i * size + size) c.loop-i.values) = c.lay.ensures ∙ ap (λ n. take (i * size) c.loop-i.values ++ (run ++ drop (i * size + n) c.loop-i.values)) long in
    let next : (i + 1) * size ≡ i * size + size = omega (arith, add-mul i 1 size) in
    record {
      values = laid_more c.args.values.now c.loop-i.values c.lay.new.array (flat_map cells_of (take i bands)) run i size loop.values loop.wide laid ∙ ap (λ u. u ++ drop ((i + 1) * size) c.args.values.now) (sym cells);
      wide = ap length cells ∙ length-append (flat_map cells_of (take i bands)) run ∙ omega (arith, loop.wide, long, next);
    }
