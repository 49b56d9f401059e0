-- What the target makes of the tiles that were read.
use Rattle.std.proofs.Common.{◌≡◌, inl, inr, ℕ, List, [], length, Ok, Err, ap, subst, ◌∙◌}
use Rattle.std.specs.Prelude.{Vec}
use Rattle.std.specs.declared.alloc.Global.{Global}
use Rattle.outside_io.specs.volume.Disk.{Disk}
use Rattle.outside_io.specs.volume.History.{During, History, current}
use Rattle.outside_io.proofs.VolumeLemmas.Moments.{started}
use Rattle.bundle_store.specs.declared.fault.StoreFault.{StoreFault}
use Rattle.bundle_store.specs.declared.fault.StoreFault.TheVariants.{Device, BadBundle, BadJournal, NoTile, Beyond, TileTooLarge, EmptyTile, Full, NotEmpty, OutOfMemory as StoreMemory, Stopped}
use Rattle.bundle_store.specs.declared.tile_rec.TileRec.{TileRec}
use Rattle.bundle_store.specs.Build.{last_tiles}
use Rattle.bundle_store.specs.Built.{filled}
use Rattle.bundle_store.specs.Causes.{OnCause}
use Rattle.bundle_store.specs.Images.{HoldsClosed}
use Rattle.bundle_store.specs.Layout.{layout}
use Rattle.bundle_store.specs.Recover.{EachStandsForOneOf}
use Rattle.bundle_store.specs.Tiles.{TileMap}
use Rattle.bundle_store.proofs.Refusals.{on_cause}
use Rattle.opened_bundle.specs.Files.{Files}
use Rattle.bundle_pack.specs.Opening.{OpensAs}
use Rattle.bundle_pack.specs.Packing.{EachKeptOr, HoldsMerged, OnTarget, OnUnpacked, PackSays, TargetKeeps}
use Rattle.bundle_pack.specs.Refusals.{target_fault_of}
use Rattle.bundle_pack.specs.declared.fault.PackFault.{PackFault}
use Rattle.bundle_pack.specs.declared.fault.PackFault.TheVariants.{Source, Target, KeptTooMuch, OutOfMemory}
use Rattle.bundle_pack.specs.declared.packing.PackReport.{PackReport}
use Rattle.bundle_pack.specs.inside.Collecting.{ReadFails, ReadSays}
use Rattle.bundle_pack.specs.inside.Turns.{TargetImages, TargetSays}
use Rattle.bundle_pack.proofs.Recovered.{keeps_itself}
use Rattle.bundle_pack.proofs.Telling.{by_target}

-- the sources refuse
pub reads_refuse : (sources : List Files) (target : Files) (fault : PackFault) → ReadSays sources (Err fault) → PackSays sources target (Err fault)
reads_refuse sources target (Source at slot fault) says = says
reads_refuse sources target (Target fault) says = absurd says
reads_refuse sources target (KeptTooMuch len) says = says
reads_refuse sources target OutOfMemory says = tt

-- it is built
pub packs_well : (sources : List Files) (target : Files) (tiles : Vec TileRec Global) (report : PackReport) → ReadSays sources (Ok tiles) → OpensAs target [] → report.tiles ≡ filled (last_tiles tiles.items) 16384 → report.length ≡ length (layout (last_tiles tiles.items))
    → PackSays sources target (Ok report)
packs_well sources target tiles report (bundles, (read, is)) opens count size =
    (bundles, (read, (opens, (count ∙ ap (λ (m : TileMap). filled m 16384) is, size ∙ ap (λ (m : TileMap). length (layout m)) is))))

-- it refuses
pub packs_ill : (sources : List Files) (target : Files) (tiles : Vec TileRec Global) (fault : StoreFault) → ReadSays sources (Ok tiles) → TargetSays target (Err fault) → PackSays sources target (Err (target_fault_of fault))
packs_ill sources target tiles Device (bundles, (read, is)) says = ((bundles, read), says)
packs_ill sources target tiles (BadBundle place found) (bundles, (read, is)) says = ((bundles, read), says)
packs_ill sources target tiles (BadJournal place found) (bundles, (read, is)) says = ((bundles, read), says)
packs_ill sources target tiles NoTile (bundles, (read, is)) says = ((bundles, read), says)
packs_ill sources target tiles (Beyond entry got) (bundles, (read, is)) says = ((bundles, read), says)
packs_ill sources target tiles (TileTooLarge place len) (bundles, (read, is)) says = ((bundles, read), says)
packs_ill sources target tiles (EmptyTile place) (bundles, (read, is)) says = ((bundles, read), says)
packs_ill sources target tiles (Full len) (bundles, (read, is)) says = ((bundles, read), says)
packs_ill sources target tiles (NotEmpty len) (bundles, (read, is)) says = ((bundles, read), says)
packs_ill sources target tiles StoreMemory (bundles, (read, is)) says = tt
packs_ill sources target tiles Stopped (bundles, (read, is)) says = ((bundles, read), says)

pub holds_merged : (sources : List Files) (tiles : Vec TileRec Global) (d : Disk) → ReadSays sources (Ok tiles) → HoldsClosed (layout (last_tiles tiles.items)) d → HoldsMerged sources d
holds_merged sources tiles d (bundles, (read, is)) holds = (bundles, (read, subst (λ (m : TileMap). HoldsClosed (layout m) d) is holds))

-- it is not packed
pub stays_unpacked : (fault : StoreFault) (P : Type 0) → OnCause fault P → OnUnpacked (Err (target_fault_of fault)) P
stays_unpacked fault P = by_target (λ f told. OnCause f P → OnUnpacked (Err told) P) (λ on. on) (λ f on. on) fault

pub is_left : (fault : StoreFault) (P : Type 0) → OnCause fault P → OnTarget (Err (target_fault_of fault)) P
is_left fault P = by_target (λ f told. OnCause f P → OnTarget (Err told) P) (λ on. tt) (λ f on. on) fault

-- none of the sources is of the target
pub not_left : (count : ℕ) (fault : PackFault) (P : Type 0) → ReadFails count fault → OnTarget (Err fault) P
not_left count (Source at slot fault) P fails = tt
not_left count (Target fault) P fails = absurd fails
not_left count (KeptTooMuch len) P fails = tt
not_left count OutOfMemory P fails = tt

-- nor is it packed where the sources refuse
pub never_begun : (fault : PackFault) (P : Type 0) → P → OnUnpacked (Err fault) P
never_begun (Source at slot fault) P here = here
never_begun (Target fault) P here = on_cause fault P here
never_begun (KeptTooMuch len) P here = here
never_begun OutOfMemory P here = here

-- its images
pub untouched_keeps : (sources : List Files) (target : Files) (h : History) → TargetKeeps sources target h h
untouched_keeps sources target h = inl (started (EachStandsForOneOf (current h)) h (keeps_itself (current h)))

pub target_keeps : (sources : List Files) (target : Files) (tiles : Vec TileRec Global) (old new : History) → ReadSays sources (Ok tiles) → TargetImages target (last_tiles tiles.items) old new → TargetKeeps sources target old new
target_keeps sources target tiles old new says (inl during) = inl during
target_keeps sources target tiles old new (bundles, (read, is)) (inr (opens, during)) = inr (bundles, (read, (opens, subst (λ (m : TileMap). During (EachKeptOr m (current old)) old new) is during)))
