-- A decoder of bands, as contracts see it. It keeps the bytes of one blob alone, so which bytes it
-- took is a relation: `IsAfter taken d` says that d may be the decoder after these bytes.
use Rattle.std.specs.Prelude.{◌≡◌, ℕ, ◌<◌, List, [], ◌∷◌, codes, length, take, Option, None, Some}
use Rattle.std.specs.Prelude.{IfSome}
use Rattle.std.specs.List.{concat}
use Rattle.raster_values.specs.Raster.{Pixels}
use Rattle.lerc_grammar.specs.declared.bands.BandReason.{BandReason}
use Rattle.lerc_grammar.specs.Mask.{Previous, previous_of}
use Rattle.lerc_grammar.specs.Blob.{BlobAfter}
use Rattle.lerc_grammar.specs.Bands.{last_after, FirstBandsFault, IsLeastFault}
use Rattle.lerc_grammar.specs.BandsReading.{IsInside, IsBetween}
use Rattle.lerc_decode.specs.declared.streams.decoder.FedState.TheVariants.{More}
use Rattle.lerc_decode.specs.Decoding.{Decoding, HasHeader, IsStageOf}
use Rattle.lerc_decode.specs.States.{state_at, missing_at}

-- the whole blobs taken: their bands, how many bytes they are, and they themselves where they are
-- kept
pub record WholeFront : Type 0 where
  pub bands : List Pixels
  pub place : ℕ
  pub kept : Option (List (List ℕ))

-- how far it is behind them
pub data BandsStage : Type 0 where
  -- in a blob, which this decoder takes
  InBlob : Decoding → BandsStage
  -- so many bytes of a further key came
  Behind : ℕ → BandsStage
  Wrong : ℕ → BandReason → BandsStage
  NoMemory : BandsStage

pub record BandsDecoding : Type 0 where
  pub front : WholeFront
  pub stage : BandsStage

-- ---- the bytes taken

-- each of the blobs is one of its band, behind that of the band before it
abbrev pub AreBlobs : Option Previous → List (List ℕ) → List Pixels → Type 0
AreBlobs before [] [] = Unit {0}
AreBlobs before (blob ∷ blobs) (r ∷ bands) =
    BlobAfter before blob r × AreBlobs (Some (previous_of r)) blobs bands
AreBlobs before _ _ = ⊥

-- where blobs are kept they are those of the bands, and these are their bytes
abbrev pub AreKept : Option (List (List ℕ)) → List ℕ → List Pixels → Type 0
AreKept kept bytes bands =
    IfSome kept (λ blobs. (concat blobs ≡ bytes) × AreBlobs None blobs bands)

-- so many bytes stand in front, and are kept
abbrev pub IsFrontOf : List ℕ → WholeFront → Type 0
IsFrontOf bytes f = (length bytes ≡ f.place) × AreKept f.kept bytes f.bands

-- the blob's decoder goes on behind these bands
pub record GoesOnBehind (bands : List Pixels) (d : Decoding) : Type 0 where
  pub before : d.before ≡ last_after None bands
  pub stands : IsStageOf d.before d.taken d.stage
  pub more : state_at d.stage ≡ More

-- What the bytes taken are. Memory is wanted only behind a whole header.
abbrev pub IsAt : List ℕ → WholeFront → BandsStage → Type 0
IsAt taken f (InBlob d) = (front : List ℕ) × (IsFrontOf front f
    × (IsInside taken f.bands front d.taken × GoesOnBehind f.bands d))
IsAt taken f (Behind have) = (front : List ℕ) × (IsFrontOf front f
    × (IsBetween taken f.bands front (take have (codes "Lerc2 ")) × (have < 6)))
IsAt taken f (Wrong place reason) = FirstBandsFault taken place reason × IsLeastFault taken
IsAt taken f NoMemory = HasHeader taken

abbrev pub IsAfter : List ℕ → BandsDecoding → Type 0
IsAfter taken d = IsAt taken d.front d.stage

-- ---- what is known without them

-- how many bytes are missing to what is decided next; behind a blob each byte may decide
abbrev pub wanted : BandsStage → ℕ
wanted (InBlob d) = missing_at d.stage (length d.taken)
wanted (Behind have) = 1
wanted _ = 0

-- nothing more is decided
abbrev pub HasEndedAt : BandsStage → Type 0
HasEndedAt (Wrong place reason) = Unit {0}
HasEndedAt NoMemory = Unit {0}
HasEndedAt _ = ⊥
