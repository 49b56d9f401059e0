-- What the code keeps of bands, as a stage, and what its parts come to.
use Rattle.std.specs.Prelude.{◌≡◌, ℕ, ◌+◌, List, codes, Option, None, Result, Ok, Err}
use Rattle.raster_values.specs.Raster.{Pixels}
use Rattle.lerc_grammar.specs.declared.bands.BandsFault.{BandsFault}
use Rattle.lerc_grammar.specs.Bands.{BandsBlob, BandsFaultAt, last_after}
use Rattle.lerc_decode.specs.declared.streams.bands.BandsProgress.{BandsProgress}
use Rattle.lerc_decode.specs.declared.streams.bands.BandsProgress.TheVariants.{Inside}
use Rattle.lerc_decode.specs.declared.streams.bands.BandsProgress.TheVariants.{Behind as AtKey}
use Rattle.lerc_decode.specs.declared.streams.bands.BandsProgress.TheVariants.{Refused, OutOfMemory}
use Rattle.lerc_decode.specs.declared.streams.bands.BandsStop.{BandsStop}
use Rattle.lerc_decode.specs.declared.streams.bands.BandsStop.TheVariants.{Fault}
use Rattle.lerc_decode.specs.declared.streams.bands.BandsStop.TheVariants.{OutOfMemory as NoMemoryStop}
use Rattle.lerc_decode.specs.Decoding.{HasHeader, IsStageOf}
use Rattle.lerc_decode.specs.Reading.{BandsStage, InBlob, Behind, Wrong, NoMemory, AreKept}

abbrev pub stage_in : BandsProgress → BandsStage
stage_in (Inside d) = InBlob d
stage_in (AtKey have) = Behind have
stage_in (Refused f) = Wrong f.place f.reason
stage_in OutOfMemory = NoMemory

-- the fault, so many bytes further on
abbrev pub IsRaised : BandsFault → ℕ → BandsProgress → Type 0
IsRaised fault by (Refused f) = f ≡ record { reason = fault.reason; place = by + fault.place }
IsRaised fault by _ = ⊥

-- the decoder of a blob behind these bands that has taken its key; or memory was refused
abbrev pub IsBegunBehind : List Pixels → BandsProgress → Type 0
IsBegunBehind bands (Inside d) = (d.taken ≡ codes "Lerc2 ")
    × ((d.before ≡ last_after None bands) × IsStageOf d.before d.taken d.stage)
IsBegunBehind bands OutOfMemory = Unit {0}
IsBegunBehind bands _ = ⊥

-- the verdict on a whole input, with its blobs where they are kept
abbrev pub IsKeptFinish : List ℕ → Option (List (List ℕ)) →
    Result (List Pixels × Option (List (List ℕ))) BandsStop → Type 0
IsKeptFinish input kept (Ok found) =
    BandsBlob input found.0 × ((found.1 ≡ kept) × AreKept kept input found.0)
IsKeptFinish input kept (Err (Fault f)) = BandsFaultAt input f.place f.reason
IsKeptFinish input kept (Err NoMemoryStop) = HasHeader input
