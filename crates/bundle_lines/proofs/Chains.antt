-- Runs that were cut off, one after the other.
use Rattle.std.proofs.Common.{[], ◌∷◌, refl, subst}
use Rattle.outside_io.specs.volume.Disk.{Disk}
use Rattle.bundle_store.specs.Images.{EachImage}
use Rattle.bundle_store.specs.Starts.{CouldBe, EachIsSound}
use Rattle.bundle_store.specs.Tiles.{TileMap}
use Rattle.bundle_store.proofs.Recovering.{one_map}
use Rattle.bundle_store.proofs.Starting.{cut_image}
use Rattle.bundle_lines.specs.Chains.{CutRun, IsAfterFirst, IsAfterRuns, IsCutRun, SurvivesCuts}
use Rattle.bundle_lines.specs.Puts.{marked}

-- each image behind a run stands for what a run makes of the disk before it
module _ (first : Disk) (r : CutRun) (sound : EachIsSound first) (is : IsCutRun first r) where
  handed : EachImage (IsAfterFirst first r.updates (marked r.marks r.moment)) r.left
  handed = λ b j ib ij.
      let image = cut_image r.cut (r.new.disk_at r.moment) r.left b j is.left (record { bundle = ib; journal = ij }) in
      subst (λ (d : Disk). EachImage (IsAfterFirst d r.updates (marked r.marks r.moment)) (r.new.disk_at r.moment)) is.begins
      ((is.kept sound).each r.moment is.from is.to) b j image.bundle image.journal

  pub next_sound : EachIsSound r.left
  next_sound = λ b j ib ij. let s = handed b j ib ij in record { map = s.map; stands = s.stands; passes = tt }

  pub next_map : (map : TileMap) → CouldBe r.left map → IsAfterFirst first r.updates (marked r.marks r.moment) map
  next_map map could =
      let s = handed could.bundle could.journal could.image.bundle could.image.journal in
      subst (IsAfterFirst first r.updates (marked r.marks r.moment)) (one_map could.bundle could.journal s.map map s.stands could.stands) s.passes

pub survives : SurvivesCuts
survives first [] sound are = λ b j ib ij.
    let s = sound b j ib ij in
    record { map = s.map; stands = s.stands; passes = (s.map, (record { bundle = b; journal = j; image = record { bundle = ib; journal = ij }; stands = s.stands }, refl)) }
survives first (r ∷ rs) sound (is, others) = λ b j ib ij.
    let rest = survives r.left rs (next_sound first r sound is) others b j ib ij in
    let from = next_map first r sound is rest.passes.0 rest.passes.1.0 in
    record {
      map = rest.map;
      stands = rest.stands;
      passes = (from.start, (from.could, (from.count, (from.enough, subst (λ (m : TileMap). IsAfterRuns m rs rest.map) from.map_is rest.passes.1.1))));
    }
