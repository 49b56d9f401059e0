-- Imports that kills and crashes cut off hand on what stands for the tiles after some of each.
use Rattle.std.proofs.Common.{[], ◌∷◌, take, refl, sym, subst}
use Rattle.outside_io.specs.declared.volume.VolFile.TheVariants.{Bundle, Journal}
use Rattle.outside_io.specs.volume.Disk.{Disk}
use Rattle.outside_io.specs.volume.History.{contents, current}
use Rattle.outside_io.proofs.VolumeLemmas.Images.{present_of}
use Rattle.bundle_store.specs.Build.{map_after}
use Rattle.bundle_store.specs.Starts.{CouldBe, EachIsSound}
use Rattle.bundle_store.specs.Tiles.{TileMap}
use Rattle.bundle_lines.specs.Chains.{CutRun as BundleRun, IsAfterFirst, IsCutRun as IsBundleRun}
use Rattle.bundle_lines.specs.Puts.{marked}
use Rattle.bundle_lines.proofs.Chains.{next_map, next_sound}
use Rattle.bundle_lines.proofs.Kept.{puts_first}
use Rattle.opened_bundle.specs.Left.{IsReady}
use Rattle.tiles_cli.specs.CutRuns.{CutImport, IsAfterImports, IsCutImport, SurvivesCuts}
use Rattle.tiles_cli.specs.Run.{KeepsImport}

-- one import
module _ (first : Disk) (r : CutImport) (sound : EachIsSound first) (is : IsCutImport first r) where
  ready : (start : TileMap) × (IsReady r.told r.old start × CouldBe (current r.old) start)
  ready =
      let here : EachIsSound (current r.old) = subst EachIsSound (sym is.begins) sound in
      let bundle = present_of Bundle r.old is.present in
      let journal = present_of Journal r.old is.present in
      let s = here (contents Bundle r.old) (contents Journal r.old) bundle journal in (
        s.map,
        (
          record { tells = is.tells; sound = here; stands = s.stands },
          record { bundle = contents Bundle r.old; journal = contents Journal r.old; image = record { bundle = bundle; journal = journal }; stands = s.stands },
        ),
      )

  made : KeepsImport r.bytes ready.0 r.old r.new r.held_old r.held_new
  made = is.kept ready.0 ready.1.0

  abbrev bundle_run : BundleRun
  bundle_run = record { updates = made.tiles; marks = made.marks; old = r.old; new = r.new; moment = r.moment; cut = r.cut; left = r.left }

  is_run : IsBundleRun first bundle_run
  is_run = record {
    begins = is.begins;
    kept = λ _. puts_first ready.0 made.tiles made.marks r.old r.new ready.1.1 made.kept.0 made.kept.1.2;
    from = is.from;
    to = is.to;
    left = is.left;
  }

  left_sound : EachIsSound r.left
  left_sound = next_sound first bundle_run sound is_run

  left_map : (map : TileMap) → CouldBe r.left map → IsAfterFirst first made.tiles (marked made.marks r.moment) map
  left_map map could = next_map first bundle_run sound is_run map could

pub survives : SurvivesCuts
survives first [] sound are = λ b j ib ij.
    let s = sound b j ib ij in
    record { map = s.map; stands = s.stands; passes = (s.map, (record { bundle = b; journal = j; image = record { bundle = ib; journal = ij }; stands = s.stands }, refl)) }
survives first (r ∷ rs) sound (is, others) = λ b j ib ij.
    let m = made first r sound is in
    let rest = survives r.left rs (left_sound first r sound is) others b j ib ij in
    let from = left_map first r sound is rest.passes.0 rest.passes.1.0 in
    let done : IsAfterImports (map_after from.start (take from.count m.tiles)) rs rest.map = subst (λ (map : TileMap). IsAfterImports map rs rest.map) from.map_is rest.passes.1.1 in
    record {
      map = rest.map;
      stands = rest.stands;
      passes = (from.start, (from.could, (m.tiles, (m.marks, (m.read, (from.count, (from.enough, done)))))));
    }
