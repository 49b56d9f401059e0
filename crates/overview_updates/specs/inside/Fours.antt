-- What was read of the four tiles of a coarse place, and what it says of their half.
use Rattle.std.specs.Prelude.{◌≡◌, ℕ, ◌+◌, ◌<◌, Bool, true, All, IsTrue, List, [], ◌∷◌, get_or, Option, Some, None}
use Rattle.lerc_header.specs.declared.header.Version.{Version}
use Rattle.lerc_encode.specs.Encoded.{BandsNeedV4}
use Rattle.bundle_store.specs.Session.{IsBeyond}
use Rattle.bundle_store.specs.Tiles.{tiles}
use Rattle.overview_tiles.specs.Sums.{Kept}
use Rattle.overview_updates.specs.Overview.{LiesWhole, has_quarter, place_of, quarter_slot}
use Rattle.overview_updates.specs.Refusals.{FourStops, PlaceStops, ReadFails}
use Rattle.overview_updates.specs.declared.halves.Half.{Half}
use Rattle.overview_updates.specs.declared.halves.Half.TheVariants.{Nothing, Coarse, Refused}
use Rattle.overview_updates.specs.declared.quarters.Four.{Four}
use Rattle.overview_updates.specs.declared.quarters.Quarter.{Quarter}
use Rattle.overview_updates.specs.declared.quarters.Quarter.TheVariants as read
use Rattle.overview_updates.specs.declared.stop.OverviewStop.{OverviewStop}
use Rattle.overview_updates.specs.declared.stop.OverviewStop.TheVariants.{Beyond, BadTile, Unlike, OutOfMemory}
use Rattle.overview_updates.specs.inside.Laid.{IsRead}
use Rattle.overview_updates.specs.inside.SoFar.{IsHalfOf, IsToldAtOnce}

-- ---- what was read

-- the bundle has this in the slot
abbrev pub QuarterSays : List ℕ → ℕ → Quarter → Type 0
QuarterSays bundle slot read.Nothing = (tiles bundle slot ≡ None) × LiesWhole bundle slot
QuarterSays bundle slot (read.Tile tile) =
    (tiles bundle slot ≡ Some tile) × LiesWhole bundle slot
QuarterSays bundle slot (read.Beyond entry got) =
    IsBeyond bundle slot entry got × (got < entry.size)

-- of whatever volume
abbrev pub QuarterFits : Quarter → Type 0
QuarterFits (read.Beyond entry got) = got < entry.size
QuarterFits _ = Unit {0}

-- the bundle has these four at the place
abbrev pub IsFour : List ℕ → Four → Type 0
IsFour bundle four = (q : ℕ) (d : Quarter) → q < 4
    → QuarterSays bundle (quarter_slot (place_of four.place).0 (place_of four.place).1 q)
    (get_or four.quarters q d)

-- what was read of a place that there is
pub record IsReadable (four : Four) : Type 0 where
  pub place : four.place < 4096
  pub fits : (q : ℕ) (d : Quarter) → q < 4 → QuarterFits (get_or four.quarters q d)

-- ---- the four, laid

-- the first n of the place's four are read, and the mosaic has the numbers of them
abbrev pub IsReadAt : List ℕ → ℕ → ℕ → Option Kept → Type 0
IsReadAt bundle k n mosaic = IsRead bundle (place_of k).0 (place_of k).1 n mosaic

-- the next one is refused so
abbrev pub StopsAt : List ℕ → ℕ → OverviewStop → Type 0
StopsAt bundle k stop = FourStops bundle (place_of k).0 (place_of k).1 stop

-- why tiles that were read are not laid
abbrev pub LayFails : OverviewStop → Type 0
LayFails (Beyond slot entry got) = got < entry.size
LayFails (BadTile slot fault) = Unit {0}
LayFails (Unlike slot) = Unit {0}
LayFails OutOfMemory = Unit {0}
LayFails _ = ⊥

-- ---- their half

-- what the bundle says of the half of the four of the place
abbrev pub HalfSays : List ℕ → Version → ℕ → Half → Type 0
HalfSays bundle v k Nothing = IsHalfOf bundle (place_of k).0 (place_of k).1 None
HalfSays bundle v k (Coarse bands) = IsHalfOf bundle (place_of k).0 (place_of k).1 (Some bands)
HalfSays bundle v k (Refused stop) =
    (has_quarter (tiles bundle) (place_of k).0 (place_of k).1 ≡ true)
    × PlaceStops bundle v (place_of k) stop

-- the same, of whatever volume
abbrev pub HalfFits : Version → Half → Type 0
HalfFits v Nothing = Unit {0}
HalfFits v (Coarse bands) = ¬ BandsNeedV4 v bands
HalfFits v (Refused stop) = ReadFails stop × (IsToldAtOnce stop → ⊥)

-- the half of these four
pub record IsHalved (v : Version) (four : Four) (half : Half) : Type 0 where
  pub says : (bundle : List ℕ) → IsFour bundle four → HalfSays bundle v four.place half
  pub fits : HalfFits v half

-- the half of the four of the place, of a volume that may tell its files
pub record IsHalfAt (told : Bool) (bundle : List ℕ) (v : Version) (k : ℕ) (half : Half)
    : Type 0 where
  pub says : IsTrue told → HalfSays bundle v k half
  pub fits : HalfFits v half

-- ---- a run of places

-- these four are of the places with the numbers from this one on
abbrev pub ArePlaced : ℕ → List Four → Type 0
ArePlaced k [] = Unit {0}
ArePlaced k (four ∷ fours) = (four.place ≡ k) × ArePlaced (k + 1) fours

-- and were read
pub record IsRound (told : Bool) (bundle : List ℕ) (from : ℕ) (fours : List Four) : Type 0 where
  pub placed : ArePlaced from fours
  pub readable : All IsReadable fours
  pub are : IsTrue told → All (IsFour bundle) fours

-- these are their halves
abbrev pub AreHalves : Bool → List ℕ → Version → ℕ → List Half → Type 0
AreHalves told bundle v k [] = Unit {0}
AreHalves told bundle v k (half ∷ halves) =
    IsHalfAt told bundle v k half × AreHalves told bundle v (k + 1) halves
