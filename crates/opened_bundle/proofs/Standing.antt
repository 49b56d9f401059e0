-- Of files that stand for a map: what is kept before the first call, and what a recovery leaves.
use Rattle.std.proofs.Common.{ℕ, List, [], inl, refl}
use Rattle.outside_io.specs.volume.History.{History, current}
use Rattle.outside_io.proofs.VolumeLemmas.Moments.{started}
use Rattle.side_journal.specs.Says.{Says}
use Rattle.side_journal.specs.declared.body.Body.{Body}
use Rattle.side_journal.specs.declared.body.Body.TheVariants.{Tile, Build as Nothing, Group}
use Rattle.side_journal.specs.declared.body.JournalState.{JournalState}
use Rattle.side_journal.specs.declared.body.JournalState.TheVariants.{Closed, Open, Bad}
use Rattle.bundle_store.specs.declared.recovery.Recovery.TheVariants.{Closed as RecoveredClosed, Applied, Emptied}
use Rattle.bundle_store.specs.Images.{EachImage, Shows}
use Rattle.bundle_store.specs.LaidOver.{with_body}
use Rattle.bundle_store.specs.Starts.{CouldBe, EachIsSound, KeepsStart}
use Rattle.bundle_store.specs.Tiles.{TileMap}
use Rattle.bundle_store.proofs.Starting.{could_be_itself}
use Rattle.opened_bundle.specs.Left.{IsLeft}

-- of a volume that was not called each image stands for a map that one stands for
pub idle_keeps : (h : History) → EachIsSound (current h) → KeepsStart h h
idle_keeps h sound = started (EachImage (CouldBe (current h))) h (could_be_itself (current h) sound)

-- a recovery leaves a bundle
pub left_by : (b j : List ℕ) (state : JournalState) (map : TileMap) → Says j state → Shows state b map → (left : List ℕ) × IsLeft b j left
left_by b j Closed map says shows = (b, inl (RecoveredClosed, (says, refl)))
left_by b j (Open Nothing) map says shows = ([], inl (Emptied, (says.0, says.1, refl)))
left_by b j (Open (Tile slot entry size header)) map says shows =
    let body : Body = Tile slot entry size header in
    (with_body body b, inl (Applied, (record { opened = says.0; body = body; says = says.1; tiles = tt; within = shows.0 }, refl)))
left_by b j (Open (Group entries size header)) map says shows =
    let body : Body = Group entries size header in
    (with_body body b, inl (Applied, (record { opened = says.0; body = body; says = says.1; tiles = tt; within = shows.0 }, refl)))
left_by b j (Bad place found) map says shows = absurd shows
