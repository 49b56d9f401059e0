-- What is known inside a decoder of bands.
use Rattle.std.specs.Prelude.{◌≡◌, ℕ, ◌+◌, List, [], ◌∷◌, ◌++◌, length, Option, None, Some}
use Rattle.first_fault.specs.Parts.{IsEmpty}
use Rattle.raster_values.specs.Raster.{Pixels}
use Rattle.lerc_header.specs.declared.header.Header.{Header}
use Rattle.lerc_grammar.specs.Blob.{BlobAfter}
use Rattle.lerc_grammar.specs.Bands.{last_after, unlike_faults, FirstBandsFault, IsLeastFault}
use Rattle.lerc_grammar.specs.BandsReading.{IsBehind, IsInside, IsBetween}
use Rattle.lerc_decode.specs.declared.streams.turns.Next.{Next}
use Rattle.lerc_decode.specs.declared.streams.turns.Next.TheVariants.{Goes, Ends, Refused}
use Rattle.lerc_decode.specs.declared.streams.turns.Next.TheVariants.{OutOfMemory}
use Rattle.lerc_decode.specs.Decoding.{Decoding, HasHeader}
use Rattle.lerc_decode.specs.Reading.{WholeFront, GoesOnBehind}
use Rattle.lerc_decode.specs.inside.Stages.{header_in}

-- the list of bands, which none has no band
abbrev pub bands_in : Option (List Pixels) → List Pixels
bands_in None = []
bands_in (Some bands) = bands

abbrev pub kept_with : Option (List (List ℕ)) → List ℕ → Option (List (List ℕ))
kept_with None blob = None
kept_with (Some blobs) blob = Some (blobs ++ blob ∷ [])

-- one blob more is whole
abbrev pub with_blob : WholeFront → Pixels → List ℕ → WholeFront
with_blob f r blob = record {
  bands = f.bands ++ r ∷ [];
  place = f.place + length blob;
  kept = kept_with f.kept blob;
}

-- the decoder goes on, its header, where it has one, being like those before; or it is not
abbrev pub IsCompared : Decoding → List Pixels → Next → Type 0
IsCompared d bands (Goes e) =
    (e ≡ d) × ((h : Header) → header_in d.stage ≡ Some h → IsEmpty (unlike_faults bands h))
IsCompared d bands (Refused f) =
    (h : Header) × ((header_in d.stage ≡ Some h) × unlike_faults bands h f.place f.reason)
IsCompared d bands _ = ⊥

-- What a piece of a blob came to, behind the bytes `front` of the blobs of these bands. A fault's
-- place counts from the blob's first byte.
abbrev pub IsNext : List ℕ → List Pixels → List ℕ → Next → Type 0
IsNext taken bands front (Goes d) = IsInside taken bands front d.taken × GoesOnBehind bands d
IsNext taken bands front (Ends e) =
    IsBetween taken (bands ++ e.band ∷ []) (front ++ e.blob.items) []
    × BlobAfter (last_after None bands) e.blob.items e.band
IsNext taken bands front (Refused f) =
    (FirstBandsFault taken (length front + f.place) f.reason × IsLeastFault taken)
    × ((rest : List ℕ) × IsBehind taken bands front rest)
IsNext taken bands front OutOfMemory = HasHeader taken
