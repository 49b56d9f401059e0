use Rattle.std.proofs.Common.{◌*◌, ◌+◌, ◌%◌, map, sym, ap, ◌∙◌}
use Rattle.raster_values.proofs.Deep.{values_in_range}
use Rattle.raster_values.specs.Raster.{valid_count, values_of}
use Rattle.delta_mode.proofs.Bytes.{one_each, plain_signed, plain_unsigned}
use Rattle.delta_mode.proofs.plain.plain_of.Goals as goal

pub value_bytes-requires : goal.value_bytes-requires
value_bytes-requires g c = one_each (g.V.View.pixels c.args.raster.now).kind _ (valid_count (g.V.View.pixels c.args.raster.now) * (g.V.View.pixels c.args.raster.now).depth) c.requires.kind c.requires.count

pub returns-in-I8 : goal.returns-in-I8
returns-in-I8 g c =
    let r = (g.V.View.pixels c.args.raster.now) in
    c.add_bias.ensures ∙ ap (map (λ b. (b + 128) % 256)) c.value_bytes.ensures
    ∙ plain_signed r.kind (values_of r.pixels) (sym c.kind.ensures.value ∙ c.in-I8.is) (values_in_range r.kind r.depth r.pixels c.kind.ensures.sound.each)

pub returns-in_default : goal.returns-in_default
returns-in_default g c =
    let r = (g.V.View.pixels c.args.raster.now) in
    c.value_bytes.ensures
    ∙ plain_unsigned r.kind (values_of r.pixels) c.requires.kind (λ e. c.in_default.not-I8 (c.kind.ensures.value ∙ e)) (values_in_range r.kind r.depth r.pixels c.kind.ensures.sound.each)
