use Rattle.std.proofs.Common.{◌≡◌, ℕ, ◌+◌, length, ap, sym, ◌∙◌}
use Rattle.bundle_store.specs.Layout.{layout, records}
use Rattle.bundle_store.specs.Tiles.{TileMap}
use Rattle.bundle_store.specs.inside.Table.{table_map}
use Rattle.bundle_store.proofs.Layouts.{length-layout}
use Rattle.bundle_store.proofs.Numbering.{are_shown}
use Rattle.bundle_store.proofs.build.size.built_size.Goals as goal

pub returns-clause-len : goal.returns-clause-len
returns-clause-len c =
    let table = c.in_ok-table.table.items in
    let map = table_map c.args.tiles.now table in
    let fits = are_shown c.args.tiles.now table c.in_ok-table.ensures.long c.in_ok-table.ensures.table c.requires in
    let total : c.measure-records.result.1 ≡ length (records map 16384) = c.measure-records.ensures.total ∙ ap (λ t. length (records (table_map c.args.tiles.now t) 16384)) c.as_slice.ensures.value in
    ap (λ (n : ℕ). 131136 + n) total ∙ sym (length-layout map fits) ∙ ap (λ (m : TileMap). length (layout m)) c.in_ok-table.ensures.last
