-- Sound files open, as bundles that hold the maps that they stand for.
use Rattle.std.proofs.Common.{◌≡◌, inl, inr, ℕ, suc, ◌≤◌, List, [], ◌∷◌, length, map, Option, Some, None, Result, Ok, Err, refl, sym, ap, subst, ◌∙◌, arith}
use Rattle.std.specs.Prelude.{IfErr}
use Rattle.std.proofs.lemmas.Option.{slice_get_within}
use Rattle.bundle_index.specs.Entry.{entry_at}
use Rattle.bundle_index.specs.declared.entry.Entry.{Entry}
use Rattle.side_journal.specs.declared.body.Body.{Body}
use Rattle.side_journal.specs.declared.body.Body.TheVariants.{Tile, Build, Group}
use Rattle.side_journal.specs.declared.body.JournalState.TheVariants.{Open, Bad}
use Rattle.bundle_store.specs.declared.fault.StoreFault.{StoreFault}
use Rattle.bundle_store.specs.declared.fault.StoreFault.TheVariants.{Device, BadBundle, BadJournal, NoTile, Beyond, TileTooLarge, EmptyTile, Full, NotEmpty, OutOfMemory as StoreMemory, Stopped}
use Rattle.bundle_store.specs.declared.recovery.Recovery.{Recovery}
use Rattle.bundle_store.specs.declared.recovery.Recovery.TheVariants.{Closed, Applied, Emptied}
use Rattle.bundle_store.specs.Built.{filled}
use Rattle.bundle_store.specs.Images.{HoldsClosed, Shows, StandsFor}
use Rattle.bundle_store.specs.LaidOver.{IsOfTiles, size_in, with_body}
use Rattle.bundle_store.specs.Layout.{layout}
use Rattle.bundle_store.specs.Recover.{Leaves, Refuses}
use Rattle.bundle_store.specs.Tiles.{IsReadable, Opens, TileMap, tiles}
use Rattle.bundle_store.proofs.PutLaws.{tiles_there}
use Rattle.bundle_store.proofs.Recovering.{shows_by, tiles_empty}
use Rattle.bundle_store.proofs.Standing.{closed_map}
use Rattle.opened_bundle.specs.Files.{Files}
use Rattle.opened_bundle.proofs.OneBundle.{opens_or_fault}
use Rattle.outside_io.specs.volume.Disk.{Disk}
use Rattle.bundle_pack.specs.Merged.{StandFor, merged}
use Rattle.bundle_pack.specs.Opening.{AreOpened, IsFirstUnopened, OpeningFault, OpensAs}
use Rattle.bundle_pack.specs.Packing.{HoldsMerged, IsFirstBeyond, IsOfSound, PackSays, PacksMaps, SourceSays, TargetFault, merged_tiles}
use Rattle.bundle_pack.specs.declared.fault.PackFault.{PackFault}
use Rattle.bundle_pack.specs.declared.fault.PackFault.TheVariants.{Source, Target, KeptTooMuch, OutOfMemory}
use Rattle.bundle_pack.specs.declared.packing.PackReport.{PackReport}
use Rattle.bundle_pack.proofs.Volumes.{get_some}

-- ---- one bundle

by_body : (b : List ℕ) (map : TileMap) (body : Body) → IsOfTiles body → Shows (Open body) b map → IsReadable (with_body body b) × (map ≡ tiles (with_body body b))
by_body b map (Tile slot entry size header) tiles shows = (shows.1, shows.2)
by_body b map Build tiles shows = absurd tiles
by_body b map (Group entries size header) tiles shows = (shows.1, shows.2)

-- sound files leave a readable bundle of the map that they stand for
pub stands_left : (b j : List ℕ) (map : TileMap) (found : Recovery) (left : List ℕ) → StandsFor b j map → Leaves b j found left → IsReadable left × (map ≡ tiles left)
stands_left b j map Closed left stands (shut, is) = subst (λ (c : List ℕ). IsReadable c × (map ≡ tiles c)) (sym is) (closed_map b j stands.state map shut stands.says stands.shows)
stands_left b j map Applied left stands (a, is) = subst (λ (c : List ℕ). IsReadable c × (map ≡ tiles c)) (sym is) (by_body b map a.body a.tiles (shows_by b j (Open a.body) map (a.opened, a.says) stands))
stands_left b j map Emptied left stands (opened, says, is) =
    subst (λ (c : List ℕ). IsReadable c × (map ≡ tiles c)) (sym is) (inl refl, shows_by b j (Open Build) map (opened, says) stands ∙ sym tiles_empty)

too_short : (b : List ℕ) (map : TileMap) (body : Body) → IsOfTiles body → Shows (Open body) b map → size_in body ≤ length b
too_short b map (Tile slot entry size header) tiles shows = shows.0
too_short b map Build tiles shows = absurd tiles
too_short b map (Group entries size header) tiles shows = shows.0

-- their journal is not refused
pub stands_or_refused : (b j : List ℕ) (map : TileMap) (place found : ℕ) → StandsFor b j map → Refuses b j place found → ⊥
stands_or_refused b j map place found stands (opened, inl fails) = shows_by b j (Bad place found) map (opened, fails) stands
stands_or_refused b j map place found stands (opened, inr is) = omega (arith, too_short b map is.body is.tiles (shows_by b j (Open is.body) map (opened, is.says) stands), is.is, is.short)

readable_opens : (b : List ℕ) → IsReadable b → Opens b
readable_opens b (inl empty) = inl empty
readable_opens b (inr is) = inr is.index

-- nothing but a failure of the volume keeps them from being opened
sound_opens : (f : Files) (map : TileMap) (fault : StoreFault) → StandsFor f.bundle f.journal map → OpeningFault f fault → fault ≡ Device
sound_opens f map Device stands fails = refl
sound_opens f map (BadBundle place number) stands (left, (found, (leaves, is))) =
    absurd (opens_or_fault left (record { place = place; found = number }) (readable_opens left (stands_left f.bundle f.journal map found left stands leaves).0) is)
sound_opens f map (BadJournal place number) stands fails = absurd (stands_or_refused f.bundle f.journal map place number stands fails)
sound_opens f map NoTile stands fails = absurd fails
sound_opens f map (Beyond entry got) stands fails = absurd fails
sound_opens f map (TileTooLarge at len) stands fails = absurd fails
sound_opens f map (EmptyTile at) stands fails = absurd fails
sound_opens f map (Full len) stands fails = absurd fails
sound_opens f map (NotEmpty len) stands fails = absurd fails
sound_opens f map StoreMemory stands fails = absurd fails
sound_opens f map Stopped stands fails = absurd fails

-- ---- several

-- the bundles that they recover to have their maps
pub opened_maps : (files : List Files) (bundles : List (List ℕ)) (maps : List TileMap) → AreOpened files bundles → StandFor files maps → map tiles bundles ≡ maps
opened_maps [] [] [] opened stand = refl
opened_maps [] [] (m ∷ ms) opened stand = absurd (let no : ⊥ = omega (arith, stand.many) in no)
opened_maps [] (b ∷ bs) maps opened stand = absurd (let no : ⊥ = omega (arith, opened.many) in no)
opened_maps (f ∷ fs) [] maps opened stand = absurd (let no : ⊥ = omega (arith, opened.many) in no)
opened_maps (f ∷ fs) (b ∷ bs) [] opened stand = absurd (let no : ⊥ = omega (arith, stand.many) in no)
opened_maps (f ∷ fs) (b ∷ bs) (m ∷ ms) opened stand =
    let opens : OpensAs f b = opened.each 0 f b refl refl in
    let first : tiles b ≡ m = sym (stands_left f.bundle f.journal m opens.found b (stand.each 0 f m refl refl) opens.leaves).1 in
    let rest : map tiles bs ≡ ms = opened_maps fs bs ms (record { many = omega (arith, opened.many); each = λ i g c there is. opened.each (suc i) g c there is }) (record { many = omega (arith, stand.many); each = λ i g n there is. stand.each (suc i) g n there is }) in
    λ i. first i ∷ rest i

pub sound_merged : (files : List Files) (bundles : List (List ℕ)) (maps : List TileMap) → AreOpened files bundles → StandFor files maps → merged_tiles bundles ≡ merged maps
sound_merged files bundles maps opened stand = ap merged (opened_maps files bundles maps opened stand)

opens_all : (files : List Files) (maps : List TileMap) (at : ℕ) (fault : StoreFault) → StandFor files maps → IsFirstUnopened files at fault → fault ≡ Device
opens_all files maps at fault stand first =
    let m = get_some maps at (omega (arith, stand.many, slice_get_within files at first.file first.there)) in
    sound_opens first.file m.0 fault (stand.each at first.file m.0 first.there m.1) first.fails

none_beyond : (files : List Files) (maps : List TileMap) (bundles : List (List ℕ)) (at slot : ℕ) (entry : Entry) (got : ℕ) → StandFor files maps → AreOpened files bundles → IsFirstBeyond bundles at slot entry got → ⊥
none_beyond files maps bundles at slot entry got stand opened first =
    let less = slice_get_within bundles at first.bundle first.chosen.there in
    let f = get_some files at (omega (arith, opened.many, less)) in
    let m = get_some maps at (omega (arith, opened.many, stand.many, less)) in
    let opens = opened.each at f.0 first.bundle f.1 first.chosen.there in
    let readable = (stands_left f.0.bundle f.0.journal m.0 opens.found first.bundle (stand.each at f.0 m.0 f.1 m.1) opens.leaves).0 in
    let there = tiles_there first.bundle slot readable first.within first.chosen.some in
    let offset : entry.offset ≡ (entry_at first.bundle slot).offset = ap (λ (e : Entry). e.offset) first.beyond.entry_is in
    let size : entry.size ≡ (entry_at first.bundle slot).size = ap (λ (e : Entry). e.size) first.beyond.entry_is in
    omega (arith, there, offset, size, first.beyond.got_is, first.more)

-- ---- what packing answers of them

source_sound : (files : List Files) (maps : List TileMap) (at : ℕ) (slot : Option ℕ) (fault : StoreFault) → StandFor files maps → SourceSays files at slot fault → IsOfSound (Source at slot fault)
source_sound files maps at None Device stand says = tt
source_sound files maps at None (BadBundle place found) stand says = absurd (let no : BadBundle place found ≡ Device = opens_all files maps at (BadBundle place found) stand says in cc)
source_sound files maps at None (BadJournal place found) stand says = absurd (let no : BadJournal place found ≡ Device = opens_all files maps at (BadJournal place found) stand says in cc)
source_sound files maps at None NoTile stand says = absurd says.fails
source_sound files maps at None (Beyond entry got) stand says = absurd says.fails
source_sound files maps at None (TileTooLarge place len) stand says = absurd says.fails
source_sound files maps at None (EmptyTile place) stand says = absurd says.fails
source_sound files maps at None (Full len) stand says = absurd says.fails
source_sound files maps at None (NotEmpty len) stand says = absurd says.fails
source_sound files maps at None StoreMemory stand says = absurd says.fails
source_sound files maps at None Stopped stand says = absurd says.fails
source_sound files maps at (Some slot) (Beyond entry got) stand (bundles, (taken, first)) = none_beyond files maps bundles at slot entry got stand taken.opened first
source_sound files maps at (Some slot) Device stand says = absurd says
source_sound files maps at (Some slot) (BadBundle place found) stand says = absurd says
source_sound files maps at (Some slot) (BadJournal place found) stand says = absurd says
source_sound files maps at (Some slot) NoTile stand says = absurd says
source_sound files maps at (Some slot) (TileTooLarge place len) stand says = absurd says
source_sound files maps at (Some slot) (EmptyTile place) stand says = absurd says
source_sound files maps at (Some slot) (Full len) stand says = absurd says
source_sound files maps at (Some slot) (NotEmpty len) stand says = absurd says
source_sound files maps at (Some slot) StoreMemory stand says = absurd says
source_sound files maps at (Some slot) Stopped stand says = absurd says

target_sound : (target : Files) (start : TileMap) (fault : StoreFault) → StandsFor target.bundle target.journal start → TargetFault target fault → IsOfSound (Target fault)
target_sound target start Device stands fails = tt
target_sound target start (NotEmpty len) stands fails = tt
target_sound target start (BadBundle place found) stands fails = absurd (let no : BadBundle place found ≡ Device = sound_opens target start (BadBundle place found) stands fails in cc)
target_sound target start (BadJournal place found) stands fails = absurd (let no : BadJournal place found ≡ Device = sound_opens target start (BadJournal place found) stands fails in cc)
target_sound target start NoTile stands fails = absurd fails
target_sound target start (Beyond entry got) stands fails = absurd fails
target_sound target start (TileTooLarge place len) stands fails = absurd fails
target_sound target start (EmptyTile place) stands fails = absurd fails
target_sound target start (Full len) stands fails = absurd fails
target_sound target start StoreMemory stands fails = absurd fails
target_sound target start Stopped stands fails = absurd fails

pub sound_answers : (sources : List Files) (target : Files) (maps : List TileMap) (start : TileMap) (r : Result PackReport PackFault) → StandFor sources maps → StandsFor target.bundle target.journal start → PackSays sources target r → IfErr r (λ f. IsOfSound f)
sound_answers sources target maps start (Ok report) stand stands says = tt
sound_answers sources target maps start (Err (Source at slot fault)) stand stands says = source_sound sources maps at slot fault stand says
sound_answers sources target maps start (Err (Target fault)) stand stands says = target_sound target start fault stands says.1
sound_answers sources target maps start (Err (KeptTooMuch len)) stand stands says = tt
sound_answers sources target maps start (Err OutOfMemory) stand stands says = tt

-- once packed, the target holds their maps merged
pub sound_packed : (sources : List Files) (target : Files) (maps : List TileMap) (report : PackReport) (d : Disk) → StandFor sources maps → PackSays sources target (Ok report) → HoldsMerged sources d → PacksMaps maps (Ok report) d
sound_packed sources target maps report d stand (bundles, (read, (empty, (count, size)))) (others, (read_too, holds)) =
    let one : merged_tiles bundles ≡ merged maps = sound_merged sources bundles maps read.taken.opened stand in
    let two : merged_tiles others ≡ merged maps = sound_merged sources others maps read_too.taken.opened stand in
    (subst (λ (m : TileMap). HoldsClosed (layout m) d) two holds, (count ∙ ap (λ (m : TileMap). filled m 16384) one, size ∙ ap (λ (m : TileMap). length (layout m)) one))
