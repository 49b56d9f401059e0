-- What the readers of all blobs of an input answer.
use Rattle.std.specs.Prelude.{ℕ, List, Option, None, IfSome, Result, Ok, Err}
use Rattle.raster_values.specs.Bands.{AreBands}
use Rattle.raster_values.specs.Raster.{Pixels}
use Rattle.lerc_grammar.specs.Bands.{BandsBlob}
use Rattle.lerc_decode.specs.BandsSource.{HoldsBlobs}
use Rattle.lerc_decode.specs.declared.streams.bands_source.BandsFromFault.{BandsFromFault}
use Rattle.lerc_decode.specs.declared.streams.bands_source.BandsFromFault.TheVariants.{Fault as FromBlobs, Source as FromSource, OutOfMemory as FromMemory}
use Rattle.program_ends.specs.declared.stop.Stop.{Stop}
use Rattle.program_ends.specs.declared.stop.Stop.TheVariants.{Refused, Source, OutOfMemory}
use Rattle.lerc_cli.specs.declared.refusal.Refusal.{Refusal}
use Rattle.lerc_cli.specs.declared.refusal.Refusal.TheVariants.{Input}
use Rattle.lerc_cli.specs.inputs.Refused.{IsNoBandsBlob, HasHead, band_reason_of}

-- why nothing was read: the first fault is told
abbrev pub ReadsNone : Option (List ℕ) → Stop Refusal → Type 0
ReadsNone input (Refused (Input fault)) =
    IsNoBandsBlob (record { input = input; files = None }) fault
ReadsNone input Source = Unit {0}
ReadsNone input OutOfMemory = IfSome input HasHead
ReadsNone input _ = ⊥

-- bands were read, or the first fault is told
abbrev pub ReadsBands : Option (List ℕ) → Result (List Pixels) (Stop Refusal) → Type 0
ReadsBands input (Ok bands) = AreBands bands × IfSome input (λ bytes. BandsBlob bytes bands)
ReadsBands input (Err stop) = ReadsNone input stop

-- the same of the bytes of each blob
abbrev pub KeepsBlobs : Option (List ℕ) → Result (List (List ℕ)) (Stop Refusal) → Type 0
KeepsBlobs input (Ok blobs) = HoldsBlobs blobs input
KeepsBlobs input (Err stop) = ReadsNone input stop

-- why a source gave no bands, as a stop
abbrev pub stop_of : BandsFromFault → Stop Refusal
stop_of (FromBlobs fault) =
    Refused (Input (record { reason = band_reason_of fault.reason; place = fault.place }))
stop_of FromSource = Source
stop_of FromMemory = OutOfMemory
