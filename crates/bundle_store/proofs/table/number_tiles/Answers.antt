use Rattle.std.proofs.Common.{◌≡◌, ◌<◌, ℕ, ◌-◌, List, [], ◌++◌, get_or, length, replicate, take, Option, Some, sym, ◌∙◌, ap, subst, arith}
use Rattle.std.proofs.lemmas.List.{get_or_default, length-replicate, length-set, take_more}
use Rattle.bundle_store.specs.inside.Table.{IsTable, table_map}
use Rattle.bundle_store.specs.Build.{last_tiles}
use Rattle.bundle_store.specs.Tiles.{no_tiles, with_tile}
use Rattle.bundle_store.specs.declared.tile_rec.TileRec.{TileRec}
use Rattle.bundle_store.proofs.Numbering.{after_more, no_number, nothing, shown_none, shown_set, table_none, table_set}
use Rattle.bundle_store.proofs.table.number_tiles.Goals as goal

pub loop-number-init : goal.loop-number-init
loop-number-init c =
    let tiles = c.args.tiles.now in
    let n = 16384 - c.in_ok-table.table.len in
    let empty : c.in_ok-table.table.items ≡ [] = c.in_ok-table.ensures.items in
    let is : c.resize.new.self.items ≡ replicate n no_number = c.in_ok-resize.ensures.items ∙ ap (λ (l : List (Option ℕ)). take 16384 l ++ replicate n no_number) empty in
    let all : n ≡ 16384 = omega (arith, c.in_ok-table.ensures.len) in
    record {
      long = ap length is ∙ length-replicate n no_number ∙ all;
      table = subst (IsTable tiles) (sym is) (table_none tiles n);
      last = ap (table_map tiles) is ∙ shown_none tiles n;
    }

pub loop-number-preserved : goal.loop-number-preserved
loop-number-preserved c =
    let tiles = c.args.tiles.now in
    let table = c.loop-number.table.items in
    let number = c.loop-number.number in
    let slot = c.number-slot.result in
    let inv = c.loop-number.invariant in
    let within : slot < length table = omega (arith, inv.long, c.number-slot.ensures.value, c.number-slot.ensures.below) in
    let less : number < length tiles = omega arith in
    let tile : TileRec = get_or tiles number nothing in
    let slot_is : slot ≡ tile.slot = c.number-slot.ensures.value ∙ ap (λ (t : TileRec). t.slot) (get_or_default tiles number c.index-tiles-number.result nothing less) in
    record {
      long = length-set table slot (Some number) ∙ inv.long;
      table = table_set tiles table slot number within less inv.table;
      last = shown_set tiles table slot number within ∙ (λ i. with_tile (slot_is i) tile.bytes (inv.last i)) ∙ sym (ap last_tiles (take_more tiles number nothing less) ∙ after_more no_tiles (take number tiles) tile);
    }
