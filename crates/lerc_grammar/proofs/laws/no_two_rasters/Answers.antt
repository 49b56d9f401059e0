use Rattle.std.proofs.Common.{◌∙◌}
use Rattle.std.specs.Prelude.{is_some}
use Rattle.std.proofs.lemmas.List.{length-map}
use Rattle.lerc_grammar.proofs.Blobs.{one_raster}
use Rattle.lerc_grammar.proofs.laws.no_two_rasters.Goals as goal

pub returns-clause-one : goal.returns-clause-one
returns-clause-one c = λ before. one_raster

pub returns-clause-previous : goal.returns-clause-previous
returns-clause-previous c = λ r is. length-map r.pixels is_some ∙ is.places
