-- What a call tells of a blob: its header, or its first fault, as numbers.
use Rattle.std.specs.Prelude.{◌≡◌, ℕ, ◌≤◌, ◌⊎◌, List, length, take}
use Rattle.raster_cells.specs.PixelType.{code_of}
use Rattle.lerc_header.specs.declared.header.Header.{Header}
use Rattle.lerc_header.specs.Head.{version_number}
use Rattle.lerc_header.specs.declared.fault.BlobReason.{BlobReason}
use Rattle.lerc_header.specs.declared.fault.BlobReason.TheVariants.{Truncated, BadKey, BadVersion}
use Rattle.lerc_header.specs.declared.fault.BlobReason.TheVariants.{BadRows, BadCols, BadDepth}
use Rattle.lerc_header.specs.declared.fault.BlobReason.TheVariants.{TooLarge, BadCount}
use Rattle.lerc_header.specs.declared.fault.BlobReason.TheVariants.{BadBlockSize, BadBlobSize}
use Rattle.lerc_header.specs.declared.fault.BlobReason.TheVariants.{FloatPixels, BadType, BadError}
use Rattle.lerc_header.specs.declared.fault.BlobReason.TheVariants.{BadRange, BadChecksum}
use Rattle.lerc_header.specs.declared.fault.BlobReason.TheVariants.{BadMaskLength, BadRun}
use Rattle.lerc_header.specs.declared.fault.BlobReason.TheVariants.{BadMaskCount, MaskMissing}
use Rattle.lerc_header.specs.declared.fault.BlobReason.TheVariants.{BadSweep, BadMode, BadBlockTag}
use Rattle.lerc_header.specs.declared.fault.BlobReason.TheVariants.{BadOffsetCode, BadListHead}
use Rattle.lerc_header.specs.declared.fault.BlobReason.TheVariants.{BadListCount, BadTable}
use Rattle.lerc_header.specs.declared.fault.BlobReason.TheVariants.{BadIndex, BadCodeTable, NoCode}
use Rattle.lerc_header.specs.declared.fault.BlobReason.TheVariants.{PastEnd, Leftover}
use Rattle.lerc_grammar.specs.Verdict.{FirstFault, IsMore}
use Rattle.lerc_grammar.specs.declared.bands.BandReason.{BandReason}
use Rattle.lerc_grammar.specs.declared.bands.BandReason.TheVariants.{Blob as OfBlob, BadBand}
use Rattle.lerc_grammar.specs.Bands.{BandsFaultAt}
use Rattle.lerc_c.specs.declared.told.Fault.{Fault}
use Rattle.lerc_c.specs.declared.told.Head.{Head}

-- the number of a reason: they are counted from 1 in the order of a blob's parts; 0 stands for none
abbrev pub reason_number : BlobReason → ℕ
reason_number Truncated = 1
reason_number BadKey = 2
reason_number BadVersion = 3
reason_number BadRows = 4
reason_number BadCols = 5
reason_number BadDepth = 6
reason_number TooLarge = 7
reason_number BadCount = 8
reason_number BadBlockSize = 9
reason_number BadBlobSize = 10
reason_number FloatPixels = 11
reason_number BadType = 12
reason_number BadError = 13
reason_number BadRange = 14
reason_number (BadChecksum stored computed) = 15
reason_number BadMaskLength = 16
reason_number BadRun = 17
reason_number (BadMaskCount header counted) = 18
reason_number MaskMissing = 19
reason_number BadSweep = 20
reason_number BadMode = 21
reason_number BadBlockTag = 22
reason_number BadOffsetCode = 23
reason_number BadListHead = 24
reason_number BadListCount = 25
reason_number BadTable = 26
reason_number BadIndex = 27
reason_number BadCodeTable = 28
reason_number NoCode = 29
reason_number PastEnd = 30
reason_number Leftover = 31

-- the two numbers that did not agree: what the blob says, and what was found; 0 for other reasons
abbrev pub stated_of : BlobReason → ℕ
stated_of (BadChecksum stored computed) = stored
stated_of (BadMaskCount header counted) = header
stated_of _ = 0

abbrev pub found_of : BlobReason → ℕ
found_of (BadChecksum stored computed) = computed
found_of (BadMaskCount header counted) = counted
found_of _ = 0

-- the numbers are those of a fault
pub record TellsFault (f : Fault) (place : ℕ) (reason : BlobReason) : Type 0 where
  pub place_is : f.place ≡ place
  pub reason_is : f.reason ≡ reason_number reason
  pub stated : f.stated ≡ stated_of reason
  pub found : f.found ≡ found_of reason

-- the numbers are those of a fault of a tile of bands: 33 is the number of a blob that is not like
-- the first
abbrev pub TellsBandsFault : Fault → ℕ → BandReason → Type 0
TellsBandsFault f place (OfBlob reason) = TellsFault f place reason
TellsBandsFault f place BadBand =
    (f.place ≡ place) × ((f.reason ≡ 33) × ((f.stated ≡ 0) × (f.found ≡ 0)))

-- the numbers are those of the fault of bytes that are no tile
pub record TellsBandsRefusal (bytes : List ℕ) (f : Fault) : Type 0 where
  pub reason : BandReason
  pub refused : BandsFaultAt bytes f.place reason
  pub numbers : TellsBandsFault f f.place reason

-- the numbers are those of a header
pub record TellsHead (head : Head) (h : Header) : Type 0 where
  pub version : head.version ≡ version_number h.version
  pub kind : head.kind ≡ code_of h.kind
  pub rows : head.rows ≡ h.rows
  pub cols : head.cols ≡ h.cols
  pub depth : head.depth ≡ h.depth
  pub valid : head.valid ≡ h.valid
  pub side : head.side ≡ h.side
  pub size : head.size ≡ h.size
  pub checksum : head.checksum ≡ h.checksum
  pub step : head.step ≡ h.step
  pub least : head.least ≡ h.least
  pub greatest : head.greatest ≡ h.greatest

-- some first bytes have a first fault, or the bytes end before anything is decided
abbrev pub IsRefused : List ℕ → ℕ → BlobReason → Type 0
IsRefused bytes place reason =
    ((n : ℕ) × ((n ≤ length bytes) × FirstFault (take n bytes) place reason))
    ⊎ (IsMore bytes × ((place ≡ length bytes) × (reason ≡ Truncated)))

-- the numbers are those of the bytes' fault
pub record TellsRefusal (bytes : List ℕ) (f : Fault) : Type 0 where
  pub reason : BlobReason
  pub refused : IsRefused bytes f.place reason
  pub numbers : TellsFault f f.place reason
