-- What opening a bundle, its lines and one tile answer, as ends of a command.
use Rattle.std.specs.Prelude.{◌≡◌, ℕ, List, Result, Ok, Err}
use Rattle.raster_values.specs.Raster.{Pixels}
use Rattle.lerc_grammar.specs.declared.bands.BandReason.{BandReason}
use Rattle.lerc_grammar.specs.Bands.{BandsBlob, BandsFaultAt}
use Rattle.lerc_decode.specs.declared.streams.bands.BandsStop.{BandsStop}
use Rattle.lerc_decode.specs.declared.streams.bands.BandsStop.TheVariants.{Fault as BandsFaultOf, OutOfMemory as NoMemoryOf}
use Rattle.bundle_lines.specs.declared.stop.LineStop.TheVariants.{Output as LineOutput, Volume as LineVolume}
use Rattle.bundle_lines.specs.Gave.{LineEnd}
use Rattle.program_ends.specs.declared.stop.Stop.{Stop}
use Rattle.program_ends.specs.declared.stop.Stop.TheVariants.{Usage, Source, Output, Volume, OutOfMemory, Refused}
use Rattle.opened_bundle.specs.declared.refusal.StoreRefusal.{StoreRefusal}
use Rattle.lerc_cli.specs.declared.refusal.Refusal.{Refusal}
use Rattle.lerc_cli.specs.declared.refusal.Refusal.TheVariants.{Input, Store}
use Rattle.lerc_cli.specs.inputs.Refused.{band_reason_of}
use Rattle.lerc_cli.specs.answers.Names.{End}

-- a stop of the opened bundle, as one of the program
abbrev pub of_store : Stop StoreRefusal → Stop Refusal
of_store Usage = Usage
of_store Source = Source
of_store Output = Output
of_store Volume = Volume
of_store OutOfMemory = OutOfMemory
of_store (Refused refusal) = Refused (Store refusal)

-- why lines ended early, as an end
abbrev pub end_of : LineEnd → End
end_of (Ok x) = Ok tt
end_of (Err LineOutput) = Err Output
end_of (Err LineVolume) = Err Volume

-- why a tile gave no bands, as a stop
abbrev pub tile_fault_of : BandsStop → Stop Refusal
tile_fault_of (BandsFaultOf fault) =
    Refused (Input (record { reason = band_reason_of fault.reason; place = fault.place }))
tile_fault_of NoMemoryOf = OutOfMemory

-- the bytes are the blobs of these bands, or their first fault is told
abbrev pub DecodesTile : List ℕ → Result (List Pixels) (Stop Refusal) → Type 0
DecodesTile tile (Ok bands) = BandsBlob tile bands
DecodesTile tile (Err (Refused (Input fault))) = (reason : BandReason)
    × ((fault.reason ≡ band_reason_of reason) × BandsFaultAt tile fault.place reason)
DecodesTile tile (Err OutOfMemory) = Unit {0}
DecodesTile tile (Err _) = ⊥
