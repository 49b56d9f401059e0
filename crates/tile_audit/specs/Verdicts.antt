-- The verdict on the bytes of a tile.
use Rattle.std.specs.Prelude.{◌≡◌, ℕ, List, length, take, codes, All, sum_by}
use Rattle.first_fault.specs.Faults.{Faults, choice}
use Rattle.raster_values.specs.Raster.{Pixels, valid_count}
use Rattle.lerc_header.specs.declared.fault.BlobReason.TheVariants.{BadVersion}
use Rattle.lerc_grammar.specs.declared.bands.BandReason.{BandReason}
use Rattle.lerc_grammar.specs.declared.bands.BandReason.TheVariants.{Blob as OfBlob}
use Rattle.lerc_grammar.specs.Bands.{BandsBlob, BandsFaultAt}
use Rattle.tile_audit.specs.declared.judged.Judged.{Judged}
use Rattle.tile_audit.specs.declared.judged.Judged.TheVariants.{Whole, Summed, Foreign, Unread, Damaged}
use Rattle.tile_audit.specs.declared.judged.Shape.{Shape}
use Rattle.tile_audit.specs.Sums.{AreSummed, IsFloats, SumFaultAt}

-- the bytes do not begin as a blob does: they are of another format
abbrev pub IsForeign : List ℕ → Type 0
IsForeign bytes = ¬ (take 6 bytes ≡ take (length bytes) (codes "Lerc2 "))

-- they begin so, and what is wrong first is the version of the first blob
abbrev pub IsUnread : List ℕ → Type 0
IsUnread bytes = (¬ IsForeign bytes) × BandsFaultAt bytes 6 (OfBlob BadVersion)

-- a band has this type, and these rows, columns and depths
pub record IsOfShape (s : Shape) (r : Pixels) : Type 0 where
  pub kind : s.kind ≡ r.kind
  pub rows : s.rows ≡ r.rows
  pub cols : s.cols ≡ r.cols
  pub depth : s.depth ≡ r.depth

-- each of the bands has, there are so many of them, and so many of their pixels are valid, all
-- bands together
pub record IsShapeOf (bands : List Pixels) (s : Shape) : Type 0 where
  pub each : All (IsOfShape s) bands
  pub count : s.bands ≡ length bands
  pub valid : s.valid ≡ sum_by valid_count bands

-- the bytes are the blobs of bands, of this shape
abbrev pub IsWhole : List ℕ → Shape → Type 0
IsWhole bytes s = (bands : List Pixels) × (BandsBlob bytes bands × IsShapeOf bands s)

-- What is wrong first with a tile of bands, which is neither of another format nor of another
-- version.
abbrev pub tile_faults : List ℕ → Faults BandReason
tile_faults bytes place reason =
    (¬ IsForeign bytes) × ((¬ IsUnread bytes) × BandsFaultAt bytes place reason)

-- What is wrong first with a tile: with the sums of its blobs, where the first one is of
-- floating-point numbers; else with it as a tile of bands.
abbrev pub damages : List ℕ → Faults BandReason
damages bytes = choice (IsFloats bytes) (SumFaultAt bytes) (tile_faults bytes)

-- the verdict
abbrev pub IsJudged : List ℕ → Judged → Type 0
IsJudged bytes (Whole s) = IsWhole bytes s
IsJudged bytes Summed = AreSummed bytes
IsJudged bytes Foreign = IsForeign bytes
IsJudged bytes Unread = IsUnread bytes
IsJudged bytes (Damaged f) = damages bytes f.place f.reason
