-- What decoding all bands of a source answers.
use Rattle.std.specs.Prelude.{◌≡◌, ℕ, ◌⊎◌, ◌≤◌, List, [], ◌++◌, Option, None, Some, IfSome, Result}
use Rattle.std.specs.Prelude.{Ok, Err}
use Rattle.std.specs.List.{concat}
use Rattle.outside_io.specs.streams.Faults.{FailedBetween}
use Rattle.raster_values.specs.Raster.{Pixels}
use Rattle.raster_values.specs.Bands.{AreBands}
use Rattle.lerc_grammar.specs.declared.bands.BandsFault.{BandsFault}
use Rattle.lerc_grammar.specs.Bands.{BandsBlob, BandsFaultAt, FirstBandsFault, IsLeastFault}
use Rattle.lerc_decode.specs.Decoding.{HasHeader}
use Rattle.lerc_decode.specs.Reading.{AreBlobs}
use Rattle.lerc_decode.specs.declared.streams.bands_source.BandsFromFault.{BandsFromFault}
use Rattle.lerc_decode.specs.declared.streams.bands_source.BandsFromFault.TheVariants.{Fault}
use Rattle.lerc_decode.specs.declared.streams.bands_source.BandsFromFault.TheVariants.{Source}
use Rattle.lerc_decode.specs.declared.streams.bands_source.BandsFromFault.TheVariants.{OutOfMemory}

-- the source failed exactly where the answer says so
abbrev pub CountsBands : {X : Type 0} → Result X BandsFromFault → ℕ → ℕ → Type 0
CountsBands (Err Source) old new = (old ≤ new) × FailedBetween old new
CountsBands _ old new = new ≡ old

-- why a whole input is no tile
abbrev pub IsNoBands : BandsFromFault → List ℕ → Type 0
IsNoBands (Fault f) input = BandsFaultAt input f.place f.reason
IsNoBands OutOfMemory input = HasHeader input
IsNoBands Source input = Unit {0}

-- the whole input, where the source tells it, is the blobs of these bands; or why it is none
abbrev pub IsBandsRead : Result (List Pixels) BandsFromFault → Option (List ℕ) → Type 0
IsBandsRead (Ok bands) input = IfSome input (λ bytes. BandsBlob bytes bands)
IsBandsRead (Err why) input = IfSome input (IsNoBands why)

-- these are the blobs of bands, and where the source tells its bytes they are the whole input
abbrev pub HoldsBlobs : List (List ℕ) → Option (List ℕ) → Type 0
HoldsBlobs blobs input = (bands : List Pixels) × (AreBands bands
    × (AreBlobs None blobs bands × IfSome input (λ bytes. bytes ≡ concat blobs)))

abbrev pub AreBlobsRead : Result (List (List ℕ)) BandsFromFault → Option (List ℕ) → Type 0
AreBlobsRead (Ok blobs) input = HoldsBlobs blobs input
AreBlobsRead (Err why) input = IfSome input (IsNoBands why)

-- of a source that tells its bytes, the bytes taken decide this fault, and no fewer of them; or all
-- were taken
abbrev pub IsDecidedBy : BandsFault → List ℕ → Option (List ℕ) → Type 0
IsDecidedBy f input new = (taken : List ℕ) × ((rest : List ℕ) × ((input ≡ taken ++ rest)
    × ((new ≡ Some rest) × ((rest ≡ []) ⊎
    (FirstBandsFault taken f.place f.reason × IsLeastFault taken)))))

-- what is left in the source
abbrev pub LeavesRest : {X : Type 0} → Result X BandsFromFault → Option (List ℕ) →
    Option (List ℕ) → Type 0
LeavesRest (Ok x) old new = IfSome old (λ input. new ≡ Some [])
LeavesRest (Err (Fault f)) old new = IfSome old (λ input. IsDecidedBy f input new)
LeavesRest _ old new = Unit {0}
