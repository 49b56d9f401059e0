-- What a start is that is sound, and what recoveries keep of it.
use Rattle.std.proofs.Common.{◌≡◌, refl, ℕ, List, sym, subst}
use Rattle.outside_io.specs.volume.Disk.{Disk, IsDiskImage, IsImage, IsQuiet, settled}
use Rattle.outside_io.specs.volume.History.{During, History, current}
use Rattle.outside_io.proofs.VolumeLemmas.Images.{only_image}
use Rattle.outside_io.proofs.VolumeLemmas.Moments.{during_map}
use Rattle.bundle_store.specs.Images.{EachImage, IsSoundWith, StandsFor}
use Rattle.bundle_store.specs.Recover.{EachStandsForOneOf, StandsForOneOf}
use Rattle.bundle_store.specs.Starts.{CouldBe, Cut, EachIsSound, IsCutOf, KeepsStart}
use Rattle.bundle_store.specs.Starts.Cut.{Crashed, Killed}
use Rattle.bundle_store.specs.Tiles.{TileMap}
use Rattle.bundle_store.proofs.Recovering.{one_map}

-- ---- nothing is pending

module _ (d : Disk) (start : TileMap) (quiet : IsQuiet d) (stands : StandsFor d.bundle.now d.journal.now start) where
  pub only_start : (b j : List ℕ) → IsImage d.bundle b → IsImage d.journal j → StandsFor b j start
  only_start b j ib ij =
      let bundle : b ≡ d.bundle.now = only_image d.bundle b quiet.bundle ib in
      let journal : j ≡ d.journal.now = only_image d.journal j quiet.journal ij in
      subst (λ (l : List ℕ). StandsFor l j start) (sym bundle) (subst (λ (l : List ℕ). StandsFor d.bundle.now l start) (sym journal) stands)

  pub was_sound : EachIsSound d
  was_sound = λ b j ib ij. record { map = start; stands = only_start b j ib ij; passes = tt }

  pub one_start : (map : TileMap) → CouldBe d map → map ≡ start
  one_start map could = one_map could.bundle could.journal map start could.stands (only_start could.bundle could.journal could.image.bundle could.image.journal)

-- ---- a recovery

-- an image that stands for what one stood for at a start that is sound
pub one_could : (old : Disk) (b j : List ℕ) → EachIsSound old → StandsForOneOf old b j → IsSoundWith (CouldBe old) b j
one_could old b j sound one =
    let was = sound one.bundle one.journal one.bundle_is one.journal_is in
    record {
      map = was.map;
      stands = one.same was.map was.stands;
      passes = record { bundle = one.bundle; journal = one.journal; image = record { bundle = one.bundle_is; journal = one.journal_is }; stands = was.stands };
    }

pub keeps_one : (old d : Disk) → EachIsSound old → EachStandsForOneOf old d → EachImage (CouldBe old) d
keeps_one old d sound each = λ b j ib ij. one_could old b j sound (each b j ib ij)

pub keeps_sound : (old new : History) → EachIsSound (current old) → During (EachStandsForOneOf (current old)) old new → KeepsStart old new
keeps_sound old new sound during = during_map _ _ old new (λ d each. keeps_one (current old) d sound each) during

-- each image of a start that is sound stands for a map that one stands for there
pub could_be_itself : (d : Disk) → EachIsSound d → EachImage (CouldBe d) d
could_be_itself d sound = λ b j ib ij.
    let s = sound b j ib ij in
    record { map = s.map; stands = s.stands; passes = record { bundle = b; journal = j; image = record { bundle = ib; journal = ij }; stands = s.stands } }

-- ---- a cut

-- a cut hands on no image that was none
pub cut_image : (cut : Cut) (old new : Disk) (b j : List ℕ) → IsCutOf cut old new → IsDiskImage new b j → IsDiskImage old b j
cut_image Crashed old new b j is image =
    let at = subst (λ (d : Disk). IsDiskImage d b j) is.left image in
    let bundle : b ≡ is.bundle = only_image (settled is.bundle) b refl at.bundle in
    let journal : j ≡ is.journal = only_image (settled is.journal) j refl at.journal in
    subst (λ (l : List ℕ). IsDiskImage old l j) (sym bundle) (subst (λ (l : List ℕ). IsDiskImage old is.bundle l) (sym journal) is.image)
cut_image Killed old new b j is image = is.images b j image
