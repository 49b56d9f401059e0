-- One tile of one source.
use Rattle.std.proofs.Common.{◌≡◌, ◌≢◌, ℕ, ◌<◌, List, slice_get, Some, None, Result, Err, sym, subst, ◌∙◌}
use Rattle.outside_io.specs.declared.volume.VolFile.TheVariants.{Bundle}
use Rattle.outside_io.specs.volume.History.{History, contents}
use Rattle.bundle_store.specs.declared.fault.StoreFault.TheVariants.{Device, BadBundle, BadJournal, NoTile, Beyond, TileTooLarge, EmptyTile, Full, NotEmpty, OutOfMemory as StoreMemory, Stopped}
use Rattle.bundle_pack.specs.Chosen.{AreWhole, IsChosen}
use Rattle.bundle_pack.specs.Files.{all_bundles}
use Rattle.bundle_pack.specs.Packing.{IsFirstBeyond}
use Rattle.bundle_pack.specs.declared.chosen.Choice.{Choice}
use Rattle.bundle_pack.specs.declared.fault.PackFault.{PackFault}
use Rattle.bundle_pack.specs.declared.fault.PackFault.TheVariants.{Source, Target, KeptTooMuch, OutOfMemory}
use Rattle.bundle_pack.specs.inside.Collecting.{GetSays, IsChoice, IsGetFault, TileSays, TilesSay}
use Rattle.bundle_pack.proofs.Volumes.{map_at, one_some}

-- it is of this source
pub get_of : (X : Type 0) (at slot i : ℕ) (fault : PackFault) → IsGetFault at slot fault → i ≢ at → ◌≡◌ {A = Result X PackFault} (Err fault) (Err (Source i None Device)) → ⊥
get_of X at slot i fault is other e =
    let same : fault ≡ Source i None Device = cc in
    let number : i ≡ at = subst (λ (f : PackFault). IsGetFault at slot f) same is in
    other number

-- ---- where it counts

-- the entry that counts is of the volume that is read
pub chosen_bundle : {V : Type 0} (history : V → History) (vs : List V) (slot : ℕ) (c : Choice) (x : V) → slice_get vs c.at ≡ Some x → IsChoice (all_bundles history vs) slot (Some c) → IsChosen (all_bundles history vs) slot c.at (contents Bundle (history x))
chosen_bundle history vs slot c x there (bundle, (is, size)) =
    let same : bundle ≡ contents Bundle (history x) = one_some bundle (contents Bundle (history x)) (sym is.there ∙ map_at (λ v. contents Bundle (history v)) vs c.at x there) in
    subst (IsChosen (all_bundles history vs) slot c.at) same is

pub tile_said : (bundles : List (List ℕ)) (slot at : ℕ) (bundle : List ℕ) (fault : PackFault) → IsChosen bundles slot at bundle → IsGetFault at slot fault → GetSays bundle slot (Err fault) → TileSays bundles slot fault
tile_said bundles slot at bundle (Source number None Device) chosen is says = (bundle, subst (λ (n : ℕ). IsChosen bundles slot n bundle) (sym is) chosen)
tile_said bundles slot at bundle (Source number None (BadBundle place found)) chosen is says = absurd is
tile_said bundles slot at bundle (Source number None (BadJournal place found)) chosen is says = absurd is
tile_said bundles slot at bundle (Source number None NoTile) chosen is says = absurd is
tile_said bundles slot at bundle (Source number None (Beyond entry got)) chosen is says = absurd is
tile_said bundles slot at bundle (Source number None (TileTooLarge place len)) chosen is says = absurd is
tile_said bundles slot at bundle (Source number None (EmptyTile place)) chosen is says = absurd is
tile_said bundles slot at bundle (Source number None (Full len)) chosen is says = absurd is
tile_said bundles slot at bundle (Source number None (NotEmpty len)) chosen is says = absurd is
tile_said bundles slot at bundle (Source number None StoreMemory) chosen is says = absurd is
tile_said bundles slot at bundle (Source number None Stopped) chosen is says = absurd is
tile_said bundles slot at bundle (Source number (Some s) (Beyond entry got)) chosen (is, (there, more)) says = (there, (bundle, (subst (λ (n : ℕ). IsChosen bundles slot n bundle) (sym is) chosen, (says, more))))
tile_said bundles slot at bundle (Source number (Some s) Device) chosen is says = absurd is
tile_said bundles slot at bundle (Source number (Some s) (BadBundle place found)) chosen is says = absurd is
tile_said bundles slot at bundle (Source number (Some s) (BadJournal place found)) chosen is says = absurd is
tile_said bundles slot at bundle (Source number (Some s) NoTile) chosen is says = absurd is
tile_said bundles slot at bundle (Source number (Some s) (TileTooLarge place len)) chosen is says = absurd is
tile_said bundles slot at bundle (Source number (Some s) (EmptyTile place)) chosen is says = absurd is
tile_said bundles slot at bundle (Source number (Some s) (Full len)) chosen is says = absurd is
tile_said bundles slot at bundle (Source number (Some s) (NotEmpty len)) chosen is says = absurd is
tile_said bundles slot at bundle (Source number (Some s) StoreMemory) chosen is says = absurd is
tile_said bundles slot at bundle (Source number (Some s) Stopped) chosen is says = absurd is
tile_said bundles slot at bundle (Target fault) chosen is says = absurd is
tile_said bundles slot at bundle (KeptTooMuch len) chosen is says = absurd is
tile_said bundles slot at bundle OutOfMemory chosen is says = tt

-- ---- the first that is refused, by slot

pub tiles_refused : (bundles : List (List ℕ)) (slot : ℕ) (fault : PackFault) → slot < 16384 → AreWhole bundles slot → TileSays bundles slot fault → TilesSay bundles (Err fault)
tiles_refused bundles slot (Source at None Device) below whole (bundle, chosen) = record { slot = slot; bundle = bundle; within = below; chosen = chosen; before = whole }
tiles_refused bundles slot (Source at None (BadBundle place found)) below whole says = absurd says
tiles_refused bundles slot (Source at None (BadJournal place found)) below whole says = absurd says
tiles_refused bundles slot (Source at None NoTile) below whole says = absurd says
tiles_refused bundles slot (Source at None (Beyond entry got)) below whole says = absurd says
tiles_refused bundles slot (Source at None (TileTooLarge place len)) below whole says = absurd says
tiles_refused bundles slot (Source at None (EmptyTile place)) below whole says = absurd says
tiles_refused bundles slot (Source at None (Full len)) below whole says = absurd says
tiles_refused bundles slot (Source at None (NotEmpty len)) below whole says = absurd says
tiles_refused bundles slot (Source at None StoreMemory) below whole says = absurd says
tiles_refused bundles slot (Source at None Stopped) below whole says = absurd says
tiles_refused bundles slot (Source at (Some s) (Beyond entry got)) below whole (same, (bundle, (chosen, (beyond, more)))) =
    subst (λ (k : ℕ). IsFirstBeyond bundles at k entry got) (sym same) (record { bundle = bundle; within = below; chosen = chosen; beyond = beyond; more = more; before = whole })
tiles_refused bundles slot (Source at (Some s) Device) below whole says = absurd says
tiles_refused bundles slot (Source at (Some s) (BadBundle place found)) below whole says = absurd says
tiles_refused bundles slot (Source at (Some s) (BadJournal place found)) below whole says = absurd says
tiles_refused bundles slot (Source at (Some s) NoTile) below whole says = absurd says
tiles_refused bundles slot (Source at (Some s) (TileTooLarge place len)) below whole says = absurd says
tiles_refused bundles slot (Source at (Some s) (EmptyTile place)) below whole says = absurd says
tiles_refused bundles slot (Source at (Some s) (Full len)) below whole says = absurd says
tiles_refused bundles slot (Source at (Some s) (NotEmpty len)) below whole says = absurd says
tiles_refused bundles slot (Source at (Some s) StoreMemory) below whole says = absurd says
tiles_refused bundles slot (Source at (Some s) Stopped) below whole says = absurd says
tiles_refused bundles slot (Target fault) below whole says = absurd says
tiles_refused bundles slot (KeptTooMuch len) below whole says = absurd says
tiles_refused bundles slot OutOfMemory below whole says = tt
