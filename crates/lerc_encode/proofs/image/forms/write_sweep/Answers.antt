use Rattle.std.proofs.Common.{◌≡◌, ap, ◌∙◌, length, length-drop, refl, arith}
use Rattle.std.specs.Prelude.{set}
use Rattle.std.proofs.lemmas.List.{take_rest}
use Rattle.raster_values.specs.Raster.{valid_count}
use Rattle.raster_cells.specs.PixelType.{bytes_of}
use Rattle.lerc_encode.proofs.Forming.{length_sweep, behind_one, length_set}
use Rattle.lerc_encode.proofs.image.forms.write_sweep.Goals as goal

pub value_bytes-requires : goal.value_bytes-requires
value_bytes-requires g c =
    let r = (g.V.View.pixels c.args.raster.now) in
    let out = c.args.out.now in
    let rest = ap length (take_rest (set out 0 1) 1) ∙ length-drop 1 (set out 0 1) in
    let kept : length (set out 0 1) ≡ length out = length_set out 0 1 in
    let size = length_sweep r c.kind-kind.ensures.sound (valid_count r) r.depth (bytes_of r.kind) refl refl refl in
    let room = c.requires in
    omega (arith, rest, kept, size, room)

pub returns : goal.returns
returns g c = behind_one 1 c.args.out.now c.value_bytes.new.out _ (let room = c.requires in omega (arith, room)) c.value_bytes.ensures
