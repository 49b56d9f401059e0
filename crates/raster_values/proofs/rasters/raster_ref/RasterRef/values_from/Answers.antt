use Rattle.std.proofs.Common.{◌≡◌, ◌<◌, ◌+◌, ◌∙◌, sym, subst, get_or}
use Rattle.std.specs.Prelude.{pos}
use Rattle.raster_values.specs.Raster.{Pixels}
use Rattle.raster_values.specs.Flat.{value_in}
use Rattle.raster_values.proofs.RasterRefArrays.{seen_or_none}
use Rattle.raster_values.proofs.rasters.raster_ref.RasterRef.values_from.Goals as goal

pub returns-clause-room : goal.returns-clause-room
returns-clause-room c = c.get_marked.ensures.size

pub returns-clause-values : goal.returns-clause-values
returns-clause-values c i below =
    subst (λ (r : Pixels). c.args.d < r.depth → get_or c.get_marked.new.out i (pos 0) ≡ value_in r c.args.d (c.args.place + i)) c.self.view_is
    (λ deep. c.get_marked.ensures.values i below ∙ sym (seen_or_none c.self.inside (c.args.place + i) c.args.d deep)) c.requires.depth
