use Rattle.std.proofs.Common.{◌≡◌}
use Rattle.std.specs.Prelude.{replicate}
use Rattle.overview_tiles.specs.inside.Numbers.{zero_numbers}
use Rattle.overview_tiles.proofs.mosaic.new_layers.Given as goal

abbrev pub invariant-loop : goal.invariant-loop
invariant-loop l = l.layers.items ≡ replicate l.counter (zero_numbers l.kind l.places l.depth)
