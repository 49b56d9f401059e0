-- What a decoder of bands answers.
use Rattle.std.specs.Prelude.{ℕ, suc, zero, List, Result, Ok, Err}
use Rattle.raster_values.specs.Raster.{Pixels}
use Rattle.lerc_grammar.specs.declared.bands.BandReason.{BandReason}
use Rattle.lerc_grammar.specs.Bands.{BandsBlob, BandsFaultAt, FirstBandsFault, IsLeastFault}
use Rattle.lerc_decode.specs.declared.streams.bands.BandsState.{BandsState}
use Rattle.lerc_decode.specs.declared.streams.bands.BandsState.TheVariants.{More, Whole, Refused}
use Rattle.lerc_decode.specs.declared.streams.bands.BandsState.TheVariants.{OutOfMemory as NoMemoryState}
use Rattle.lerc_decode.specs.declared.streams.bands.BandsStop.{BandsStop}
use Rattle.lerc_decode.specs.declared.streams.bands.BandsStop.TheVariants.{Fault, OutOfMemory}
use Rattle.lerc_decode.specs.Decoding.{HasHeader}
use Rattle.lerc_decode.specs.Reading.{BandsStage, InBlob, Behind, Wrong, NoMemory}

-- its state at a stage
abbrev pub state_of : BandsStage → BandsState
state_of (InBlob d) = More
state_of (Behind zero) = Whole
state_of (Behind (suc have)) = More
state_of (Wrong place reason) = Refused (record { reason = reason; place = place })
state_of NoMemory = NoMemoryState

-- the bytes are no tile yet, and no fault is decided
pub record IsUndecided (taken : List ℕ) : Type 0 where
  pub not_whole : (bands : List Pixels) → ¬ BandsBlob taken bands
  pub no_fault : (place : ℕ) (reason : BandReason) → ¬ FirstBandsFault taken place reason

-- The state of the bytes taken: they are the blobs of bands; or this fault is decided, and by no
-- fewer of them; or neither. Memory is wanted only behind a whole header.
abbrev pub IsBandsTold : List ℕ → BandsState → Type 0
IsBandsTold taken Whole = (bands : List Pixels) × BandsBlob taken bands
IsBandsTold taken (Refused f) = FirstBandsFault taken f.place f.reason × IsLeastFault taken
IsBandsTold taken More = IsUndecided taken
IsBandsTold taken NoMemoryState = HasHeader taken

-- more bytes may follow
abbrev pub GoesOn : BandsState → Type 0
GoesOn More = Unit {0}
GoesOn Whole = Unit {0}
GoesOn _ = ⊥

-- the verdict on a whole input
abbrev pub IsBandsFinish : List ℕ → Result (List Pixels) BandsStop → Type 0
IsBandsFinish input (Ok bands) = BandsBlob input bands
IsBandsFinish input (Err (Fault f)) = BandsFaultAt input f.place f.reason
IsBandsFinish input (Err OutOfMemory) = HasHeader input
