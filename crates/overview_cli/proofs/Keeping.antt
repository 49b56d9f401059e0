-- What a crash leaves where no update has a mark.
use Rattle.std.proofs.Common.{List, [], Bool}
use Rattle.outside_io.specs.declared.volume.VolFile.TheVariants.{Bundle, Journal}
use Rattle.outside_io.specs.volume.History.{History, contents}
use Rattle.bundle_store.specs.declared.tile_rec.TileRec.{TileRec}
use Rattle.bundle_store.specs.Tiles.{TileMap}
use Rattle.bundle_store.specs.Starts.{KeepsStart}
use Rattle.bundle_lines.proofs.Kept.{puts_unmarked}
use Rattle.bundle_lines.proofs.Marked.{no_groups}
use Rattle.opened_bundle.specs.Left.{IsReady}
use Rattle.opened_bundle.proofs.Standing.{left_by}
use Rattle.overview_cli.specs.Putting.{KeepsPuts}

-- none of these updates has a mark
pub keeps_none : (us : List TileRec) (start : TileMap) (told : Bool) (old new : History) → IsReady told old start → KeepsStart old new → KeepsPuts us [] start old new
keeps_none us start told old new ready kept =
    let stands = ready.stands in
    let left = left_by (contents Bundle old) (contents Journal old) stands.state start stands.says stands.shows in
    (left.0, (left.1, no_groups left.0 us, puts_unmarked left.0 start us old new kept))
