-- A tile: the blobs of its bands, one behind the other, what is wrong first where bytes are none,
-- and the verdict on a whole input.
use Rattle.std.specs.Prelude.{◌≡◌, ℕ, ◌+◌, ◌*◌, ◌<◌, ◌≤◌, ◌⊎◌, List, [], ◌∷◌, ◌++◌, length, take, codes, Option, None, Some}
use Rattle.first_fault.specs.Parts.{IsEmpty}
use Rattle.first_fault.specs.Faults.{Faults, none, wrong, choice, unless, moved, ends}
use Rattle.raster_values.specs.Raster.{Pixels}
use Rattle.raster_values.specs.Bands.{MayBeBands, AreBands}
use Rattle.lerc_header.specs.declared.header.Header.{Header}
use Rattle.lerc_header.specs.Head.{HeadAt, shift}
use Rattle.lerc_header.specs.HeadFaults.{HasKey}
use Rattle.lerc_header.specs.declared.fault.BlobReason.{BlobReason}
use Rattle.lerc_header.specs.declared.fault.BlobReason.TheVariants.{Truncated, TooLarge, Leftover}
use Rattle.lerc_grammar.specs.declared.bands.BandReason.{BandReason}
use Rattle.lerc_grammar.specs.declared.bands.BandReason.TheVariants.{Blob as OfBlob, BadBand}
use Rattle.lerc_grammar.specs.Mask.{Previous, previous_of}
use Rattle.lerc_grammar.specs.Blob.{BlobAfter}
use Rattle.lerc_grammar.specs.Verdict.{FirstFaultAfter, IsMoreAfter}

-- ---- the blobs of bands

-- the bytes are one blob for each band, joined, each behind that of the band before it; the first
-- is behind the raster `before`
abbrev pub BlobsAfter : Option Previous → List ℕ → List Pixels → Type 0
BlobsAfter before bytes [] = bytes ≡ []
BlobsAfter before bytes (r ∷ more) = (front : List ℕ) × ((rest : List ℕ) ×
    ((bytes ≡ front ++ rest) × (BlobAfter before front r ×
    BlobsAfter (Some (previous_of r)) rest more)))

-- the bytes are the blobs of these bands
abbrev pub BandsBlob : List ℕ → List Pixels → Type 0
BandsBlob bytes bands = AreBands bands × BlobsAfter None bytes bands

-- ---- what is wrong first

-- the raster before the blob that comes behind these bands
abbrev pub last_after : Option Previous → List Pixels → Option Previous
last_after before [] = before
last_after before (r ∷ more) = last_after (Some (previous_of r)) more

-- What is wrong first with a header behind these bands: rows, cols, depth or type is not that of
-- the first band, told where the header has it (at cols where the version has no depth); or with
-- this band there are more than 2 ^ 24 values, told where a header says that there are too many.
abbrev pub unlike_faults : List Pixels → Header → Faults BandReason
unlike_faults [] h = none
unlike_faults (r ∷ more) h =
    unless (h.rows ≡ r.rows) (wrong BadBand 14)
    (unless (h.cols ≡ r.cols) (wrong BadBand 18)
    (unless (h.depth ≡ r.depth) (wrong BadBand (18 + shift h.version))
    (unless (h.kind ≡ r.kind) (wrong BadBand (34 + shift h.version))
    (unless ((2 + length more) * (h.rows * h.cols * h.depth) ≤ 16777216)
    (wrong (OfBlob TooLarge) (18 + shift h.version))
    none))))

-- if a header stands, nothing of this is wrong with it
abbrev pub HasLikeHead : List Pixels → List ℕ → Type 0
HasLikeHead bands rest = (h : Header) → HeadAt rest h → IsEmpty (unlike_faults bands h)

-- The blob that begins here, behind these bands, is wrong: its header stands and is unlike the
-- first band's, decided with the header; or else the blob has a fault of its own, decided as that
-- of a blob is. A fault of the header itself comes first, since then none stands.
pub data BandFault (bands : List Pixels) (rest : List ℕ) (place : ℕ) (reason : BandReason)
    : Type 0 where
  unlike : (h : Header) → HeadAt rest h → unlike_faults bands h place reason →
      BandFault bands rest place reason
  in_blob : (why : BlobReason) → HasLikeHead bands rest →
      FirstFaultAfter (last_after None bands) rest place why → reason ≡ OfBlob why →
      BandFault bands rest place reason

-- a blob begins behind these bands: the first one, or one of up to 16, with its key
abbrev pub IsBegun : List Pixels → List ℕ → Type 0
IsBegun bands rest = (bands ≡ []) ⊎ ((length bands < 16) × HasKey rest)

-- ---- the verdict on the bytes that came so far

-- no blob begins, whatever follows: there are 16, or the bytes are other than the key's
abbrev pub IsNoBlob : List Pixels → List ℕ → Type 0
IsNoBlob bands rest = (0 < length bands) × (((length bands ≡ 16) × (0 < length rest))
    ⊎ ¬ (take 6 rest ≡ take (length rest) (codes "Lerc2 ")))

-- what is wrong behind these bands, whatever follows
abbrev pub next_decided : List Pixels → List ℕ → Faults BandReason
next_decided bands rest place reason = (IsBegun bands rest × BandFault bands rest place reason)
    ⊎ (IsNoBlob bands rest × wrong (OfBlob Leftover) 0 place reason)

-- the blobs of these bands stand in front, and what comes behind them has one of these faults,
-- whose place is counted from there
pub record Behind (faults : List Pixels → List ℕ → Faults BandReason) (input : List ℕ) (place : ℕ)
    (reason : BandReason) : Type 0 where
  pub bands : List Pixels
  pub front : List ℕ
  pub rest : List ℕ
  pub joined : input ≡ front ++ rest
  pub may_be : MayBeBands bands
  pub stand : BlobsAfter None front bands
  pub next : moved (length front) (faults bands rest) place reason

-- the first fault of bytes of which more may follow
abbrev pub FirstBandsFault : List ℕ → ℕ → BandReason → Type 0
FirstBandsFault bytes place reason = Behind next_decided bytes place reason

-- no fewer of the bytes decide a fault
abbrev pub IsLeastFault : List ℕ → Type 0
IsLeastFault bytes = (n : ℕ) → n < length bytes → (place : ℕ) (reason : BandReason) →
    ¬ FirstBandsFault (take n bytes) place reason

-- ---- the verdict on a whole input

-- nothing is decided of the blob that begins here, and nothing follows: it is cut, at the end of
-- the input
abbrev pub cut_faults : List Pixels → List ℕ → Faults BandReason
cut_faults bands rest place reason = HasLikeHead bands rest
    × (IsMoreAfter (last_after None bands) rest
    × wrong (OfBlob Truncated) (length rest) place reason)

-- behind these bands a blob begins that is wrong or cut; or none begins, and bytes are left over
abbrev pub next_faults : List Pixels → List ℕ → Faults BandReason
next_faults bands rest =
    choice (IsBegun bands rest)
    (λ place reason. BandFault bands rest place reason ⊎ cut_faults bands rest place reason)
    (ends (OfBlob Leftover) rest)

-- the first fault of a whole input
abbrev pub BandsFaultAt : List ℕ → ℕ → BandReason → Type 0
BandsFaultAt input place reason = Behind next_faults input place reason

-- all bands, or the place and the reason of the first fault
pub data BandsVerdict : Type 0 where
  Decoded : List Pixels → BandsVerdict
  Refused : ℕ → BandReason → BandsVerdict

abbrev pub IsBandsVerdict : List ℕ → BandsVerdict → Type 0
IsBandsVerdict input (Decoded bands) = BandsBlob input bands
IsBandsVerdict input (Refused place reason) = BandsFaultAt input place reason
