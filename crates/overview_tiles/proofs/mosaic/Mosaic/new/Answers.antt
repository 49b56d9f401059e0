use Rattle.std.proofs.Common.{◌≡◌, ◌*◌, [], ◌∷◌, length, false, refl, ap, ◌∙◌}
use Rattle.std.specs.Prelude.{replicate}
use Rattle.overview_tiles.specs.Sums.{zero_sums}
use Rattle.overview_tiles.specs.Tiles.{no_tiles}
use Rattle.overview_tiles.specs.inside.Numbers.{sums_of, zero_numbers}
use Rattle.overview_tiles.specs.inside.View.{seen}
use Rattle.overview_tiles.proofs.Bands.{zero_kinds_of, zero_sums_of}
use Rattle.overview_tiles.proofs.HalfBands.{zero_layers, zero_room}
use Rattle.overview_tiles.proofs.mosaic.Mosaic.new.Goals as goal

pub invariant_of-result : goal.invariant_of-result
invariant_of-result c =
    let m = seen (record { kind = c.kind-kind.result; rows = c.rows-rows.result; cols = c.cols-cols.result; depth = c.depth-depth.result; laid = false ∷ false ∷ false ∷ false ∷ []; bands = c.in_ok-bands.bands }) in
    let like = c.args.like.now in
    let places = c.rows-rows.result * c.cols-cols.result in
    let depth = c.depth-depth.result in
    let z = zero_numbers c.kind-kind.result places depth in
    let bands = c.in_ok-bands.bands.items in
    let are : bands ≡ replicate (length like) z = c.in_ok-bands.ensures ∙ ap (λ n. replicate n z) c.len-count.ensures.value in
    let is : sums_of bands ≡ replicate (length like) (zero_sums places depth) = zero_sums_of bands (length like) c.kind-kind.result places depth are in
    record {
      kinds = zero_kinds_of bands (length like) c.kind-kind.result places depth are;
      room = zero_room m like c.at-first.result.now c.len-count.ensures.sound c.at-first.ensures c.rows-rows.ensures.sound c.rows-rows.ensures.value c.cols-cols.ensures.value c.depth-depth.ensures.value refl is;
      tiles = no_tiles;
      sums = zero_layers m (length like) refl is;
    }

pub returns-clause-sums : goal.returns-clause-sums
returns-clause-sums c =
    let m = seen (record { kind = c.kind-kind.result; rows = c.rows-rows.result; cols = c.cols-cols.result; depth = c.depth-depth.result; laid = false ∷ false ∷ false ∷ false ∷ []; bands = c.in_ok-bands.bands }) in
    let like = c.args.like.now in
    let places = c.rows-rows.result * c.cols-cols.result in
    let depth = c.depth-depth.result in
    let z = zero_numbers c.kind-kind.result places depth in
    let bands = c.in_ok-bands.bands.items in
    let are : bands ≡ replicate (length like) z = c.in_ok-bands.ensures ∙ ap (λ n. replicate n z) c.len-count.ensures.value in
    let is : sums_of bands ≡ replicate (length like) (zero_sums places depth) = zero_sums_of bands (length like) c.kind-kind.result places depth are in
    zero_layers m (length like) refl is
