use Rattle.std.proofs.Common.{◌≡◌, ◌∙◌, ◌<◌, ◌≤◌, List, [], ◌∷◌, ◌++◌, None, length, map, sym, ap, subst, refl, arith, append_assoc, length-append}
use Rattle.std.specs.Prelude.{All}
use Rattle.std.proofs.lemmas.Grind.{common_steps}
use Rattle.std.proofs.lemmas.List.{length-map}
use Rattle.raster_values.specs.Raster.{Pixels}
use Rattle.lerc_encode.specs.Choice.{chosen_bands}
use Rattle.lerc_encode.specs.Encoded.{BandsNeedV4}
use Rattle.tile_stream.specs.declared.tile.Tile.{Tile}
use Rattle.tile_updates.specs.Adding.{MayBeAdded, TellsBatchStop}
use Rattle.tile_updates.specs.Tiles.{tiles_of}
use Rattle.tile_updates.specs.Updates.{tile_bytes, updates_of}
use Rattle.tile_updates.proofs.Adding.{all_added, blobs_of, next_added, next_blob, next_stops, none_added}
use Rattle.tile_updates.proofs.Tiles.{tiles_length}
use Rattle.tile_updates.proofs.encoding.add_blobs.Goals as goal

pub loop-blob-init : goal.loop-blob-init
loop-blob-init c =
    let v = c.args.coding.now.version in
    let step = c.args.coding.now.step in
    let slots = c.batch.inside.slots.items in
    let bands = c.batch.inside.tiles.items in
    let made : c.into_vec-all.result.items ≡ map (λ (t : List Pixels). chosen_bands None t v step) bands =
    c.into_vec-all.ensures ∙ c.requires.blobs ∙ ap (map (tile_bytes v step)) (sym c.batch.view_is) ∙ blobs_of v step slots bands c.batch.invariant.long in
    (refl, (grind (arith, common_steps, made), none_added v step c.args.list.now (tiles_of slots bands) c.len-len.ensures.small))

pub index-requires : goal.index-requires
index-requires c =
    let v = c.args.coding.now.version in
    let step = c.args.coding.now.step in
    let bands = c.batch.inside.tiles.items in
    let i = c.loop-blob.i in
    let inv = c.loop-blob.invariant in
    let rest = c.next.new.self.rest.items in
    let blobs = map (λ (t : List Pixels). chosen_bands None t v step) bands in
    let joined : c.loop-blob.yielded ++ c.in-Some.blob ∷ rest ≡ blobs = ap (λ r. c.loop-blob.yielded ++ r) (sym c.in-Some.ensures.steps.0) ∙ inv.1.0 in
    let whole : length (c.loop-blob.yielded ++ c.in-Some.blob ∷ rest) ≡ length bands = ap length joined ∙ length-map bands (λ (t : List Pixels). chosen_bands None t v step) in
    let below : i < length bands = omega (arith, inv.0, whole, length-append c.loop-blob.yielded (c.in-Some.blob ∷ rest)) in
    subst (λ n. i < n) (sym (c.batch.inside.slots.ok.0 ∙ c.batch.invariant.long)) below

pub returns-in-Err-clause-refused : goal.returns-in-Err-clause-refused
returns-in-Err-clause-refused c =
    let v = c.args.coding.now.version in
    let step = c.args.coding.now.step in
    let slots = c.batch.inside.slots.items in
    let bands = c.batch.inside.tiles.items in
    let i = c.loop-blob.i in
    let inv = c.loop-blob.invariant in
    let rest = c.next.new.self.rest.items in
    let blobs = map (λ (t : List Pixels). chosen_bands None t v step) bands in
    let joined : c.loop-blob.yielded ++ c.in-Some.blob ∷ rest ≡ blobs = ap (λ r. c.loop-blob.yielded ++ r) (sym c.in-Some.ensures.steps.0) ∙ inv.1.0 in
    let whole : length (c.loop-blob.yielded ++ c.in-Some.blob ∷ rest) ≡ length bands = ap length joined ∙ length-map bands (λ (t : List Pixels). chosen_bands None t v step) in
    let below : i < length bands = omega (arith, inv.0, whole, length-append c.loop-blob.yielded (c.in-Some.blob ∷ rest)) in
    let next = next_blob v step slots bands i c.index.result.now c.loop-blob.yielded rest blobs c.in-Some.blob c.batch.invariant.long below c.index.ensures inv.0 joined refl in
    subst (λ (ts : List Tile). TellsBatchStop v step c.args.list.now ts c.in-Err.stop) c.batch.view_is
    (next_stops v step c.args.list.now slots bands i c.index.result.now c.in-Some.blob c.loop-blob.list c.in-Err.stop c.batch.invariant.long below next inv.1.1 c.in-Err.ensures.refused)

pub loop-blob-preserved : goal.loop-blob-preserved
loop-blob-preserved c =
    let v = c.args.coding.now.version in
    let step = c.args.coding.now.step in
    let slots = c.batch.inside.slots.items in
    let bands = c.batch.inside.tiles.items in
    let i = c.loop-blob.i in
    let inv = c.loop-blob.invariant in
    let rest = c.next.new.self.rest.items in
    let blobs = map (λ (t : List Pixels). chosen_bands None t v step) bands in
    let joined : c.loop-blob.yielded ++ c.in-Some.blob ∷ rest ≡ blobs = ap (λ r. c.loop-blob.yielded ++ r) (sym c.in-Some.ensures.steps.0) ∙ inv.1.0 in
    let whole : length (c.loop-blob.yielded ++ c.in-Some.blob ∷ rest) ≡ length bands = ap length joined ∙ length-map bands (λ (t : List Pixels). chosen_bands None t v step) in
    let below : i < length bands = omega (arith, inv.0, whole, length-append c.loop-blob.yielded (c.in-Some.blob ∷ rest)) in
    let next = next_blob v step slots bands i c.index.result.now c.loop-blob.yielded rest blobs c.in-Some.blob c.batch.invariant.long below c.index.ensures inv.0 joined refl in
    let flat = subst (All (λ t. ¬ BandsNeedV4 v t.bands)) (sym c.batch.view_is) c.requires.flat in (
      omega (arith, inv.0, length-append c.loop-blob.yielded (c.in-Some.blob ∷ [])),
      (
        append_assoc c.loop-blob.yielded (c.in-Some.blob ∷ []) rest ∙ joined,
        next_added v step c.args.list.now slots bands i c.index.result.now c.in-Some.blob c.loop-blob.list c.add.new.self c.batch.invariant.long below flat next inv.1.1 c.in_default.ensures.added c.in_default.ensures.small c.in_default.ensures.kept,
      ),
    )

pub returns-clause-added : goal.returns-clause-added
returns-clause-added c =
    let v = c.args.coding.now.version in
    let step = c.args.coding.now.step in
    let slots = c.batch.inside.slots.items in
    let bands = c.batch.inside.tiles.items in
    let inv = c.loop-blob.invariant in
    let rest = c.loop-blob.blob-iterator.rest.items in
    let none : length rest ≡ 0 = sym c.loop-blob.blob-iterator.rest.ok.0 ∙ c.in-None.ensures.steps.0 in
    let whole : length (c.loop-blob.yielded ++ rest) ≡ length bands = ap length inv.1.0 ∙ length-map bands (λ (t : List Pixels). chosen_bands None t v step) in
    let count = tiles_length slots bands c.batch.invariant.long in
    let all : length (tiles_of slots bands) ≤ c.loop-blob.i = omega (arith, inv.0, whole, none, count, length-append c.loop-blob.yielded rest) in
    subst (λ (ts : List Tile). c.loop-blob.list ≡ c.args.list.now ++ updates_of v step ts) c.batch.view_is (all_added v step c.args.list.now (tiles_of slots bands) c.loop-blob.i c.loop-blob.list all inv.1.1).0

pub returns-clause-passed : goal.returns-clause-passed
returns-clause-passed c =
    let v = c.args.coding.now.version in
    let step = c.args.coding.now.step in
    let slots = c.batch.inside.slots.items in
    let bands = c.batch.inside.tiles.items in
    let inv = c.loop-blob.invariant in
    let rest = c.loop-blob.blob-iterator.rest.items in
    let none : length rest ≡ 0 = sym c.loop-blob.blob-iterator.rest.ok.0 ∙ c.in-None.ensures.steps.0 in
    let whole : length (c.loop-blob.yielded ++ rest) ≡ length bands = ap length inv.1.0 ∙ length-map bands (λ (t : List Pixels). chosen_bands None t v step) in
    let count = tiles_length slots bands c.batch.invariant.long in
    let all : length (tiles_of slots bands) ≤ c.loop-blob.i = omega (arith, inv.0, whole, none, count, length-append c.loop-blob.yielded rest) in
    subst (MayBeAdded v step c.args.list.now) c.batch.view_is (all_added v step c.args.list.now (tiles_of slots bands) c.loop-blob.i c.loop-blob.list all inv.1.1).1
