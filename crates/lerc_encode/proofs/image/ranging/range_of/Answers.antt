use Rattle.std.proofs.Common.{◌∙◌, sym, ap, rules}
use Rattle.std.proofs.lemmas.Int.{to_z-of_z}
use mir.Syntax.{w64}
use mir.Val.{SFits}
use Rattle.std.specs.Prelude.{is_some}
use Rattle.micro_block.specs.ChosenBlock.{least_value}
use Rattle.lerc_encode.specs.Ranges.{depth_values, greatest_value}
use Rattle.lerc_encode.proofs.Extremes.{least_is, greatest_is}
use Rattle.lerc_encode.proofs.image.ranging.range_of.Goals as goal

pub returns-in-Some-clause-least : goal.returns-in-Some-clause-least
returns-in-Some-clause-least g c =
    let found = (c.range.ensures.found c.in-Some.least c.in-Some.greatest).0 c.in-Some.is in
    let fits : SFits w64 c.in-Some.least = search rules in
    to_z-of_z w64 c.in-Some.least fits ∙ least_is (depth_values (g.V.View.pixels c.args.raster.now) c.args.d) c.in-Some.least found.0

pub returns-in-Some-clause-greatest : goal.returns-in-Some-clause-greatest
returns-in-Some-clause-greatest g c =
    let found = (c.range.ensures.found c.in-Some.least c.in-Some.greatest).0 c.in-Some.is in
    let fits : SFits w64 c.in-Some.greatest = search rules in
    to_z-of_z w64 c.in-Some.greatest fits ∙ greatest_is (depth_values (g.V.View.pixels c.args.raster.now) c.args.d) c.in-Some.greatest found.1

pub returns-in-None-clause-least : goal.returns-in-None-clause-least
returns-in-None-clause-least g c = sym (ap least_value (c.range.ensures.empty.0 (ap is_some c.in-None.is)))

pub returns-in-None-clause-greatest : goal.returns-in-None-clause-greatest
returns-in-None-clause-greatest g c = sym (ap greatest_value (c.range.ensures.empty.0 (ap is_some c.in-None.is)))
