-- Blobs of floating-point numbers, by what they say of themselves up to their type, their sizes and
-- their checksums. Their values are not looked at.
use Rattle.std.specs.Prelude.{◌≡◌, ◌≢◌, ℕ, pos, ◌+◌, ◌<◌, ◌≤◌, ◌⊎◌, List, ◌++◌, length, take, drop, All}
use Rattle.std.specs.List.{concat}
use Rattle.first_fault.specs.Faults.{Faults, none, wrong, choice, unless, moved, ends}
use Rattle.lerc_header.specs.declared.header.Header.{Header}
use Rattle.lerc_header.specs.declared.header.Version.{Version}
use Rattle.lerc_header.specs.declared.fault.BlobReason.{BlobReason}
use Rattle.lerc_header.specs.declared.fault.BlobReason.TheVariants.{Truncated, FloatPixels, BadChecksum, Leftover}
use Rattle.lerc_header.specs.Checksum.{sum_of}
use Rattle.lerc_header.specs.Head.{HeadAt, i32_at, shift, u32_at}
use Rattle.lerc_header.specs.HeadFaults.{HasKey, HasVersion, header_faults}
use Rattle.lerc_grammar.specs.declared.bands.BandReason.{BandReason}
use Rattle.lerc_grammar.specs.declared.bands.BandReason.TheVariants.{Blob as OfBlob, BadBand}

-- ---- one blob

-- The bytes begin with a header of this version of which nothing is wrong up to its type, and that
-- is one of floating-point numbers.
pub record IsFloatHead (v : Version) (bytes : List ℕ) : Type 0 where
  pub version : HasVersion bytes v
  pub float : header_faults bytes (34 + shift v) FloatPixels

-- the same, in one of the versions
abbrev pub IsFloats : List ℕ → Type 0
IsFloats bytes = (v : Version) × IsFloatHead v bytes

-- and it says how many bytes there are, and their checksum
pub record IsSummedBlob (v : Version) (bytes : List ℕ) : Type 0 where
  pub head : IsFloatHead v bytes
  pub size : i32_at bytes (30 + shift v) ≡ pos (length bytes)
  pub sum : u32_at bytes 10 ≡ sum_of (drop 14 bytes)

abbrev pub IsSummed : List ℕ → Type 0
IsSummed bytes = (v : Version) × IsSummedBlob v bytes

-- ---- blobs, one behind the other

-- the bytes are 1 to 16 such blobs, joined
pub record AreSummed (bytes : List ℕ) : Type 0 where
  pub blobs : List (List ℕ)
  pub joined : bytes ≡ concat blobs
  pub some : 1 ≤ length blobs
  pub few : length blobs ≤ 16
  pub each : All IsSummed blobs

-- ---- what is wrong first

-- the fewer bytes there are than the header says; or their checksum is another
abbrev pub size_faults : List ℕ → ℕ → Faults BandReason
size_faults bytes size =
    unless (size ≤ length bytes) (wrong (OfBlob Truncated) (length bytes))
    (unless (u32_at bytes 10 ≡ sum_of (drop 14 (take size bytes)))
    (wrong (OfBlob (BadChecksum (u32_at bytes 10) (sum_of (drop 14 (take size bytes))))) 10)
    none)

-- What is wrong first with the blob that begins here: its header; its type, which is one of whole
-- numbers; or the bytes that the header speaks of.
pub data FloatFault (bytes : List ℕ) (place : ℕ) (reason : BandReason) : Type 0 where
  in_head : (why : BlobReason) → why ≢ FloatPixels → header_faults bytes place why →
      reason ≡ OfBlob why → FloatFault bytes place reason
  of_wholes : (h : Header) → HeadAt bytes h → wrong BadBand (34 + shift h.version) place reason →
      FloatFault bytes place reason
  in_bytes : (v : Version) (size : ℕ) → IsFloatHead v bytes →
      i32_at bytes (30 + shift v) ≡ pos size → size_faults bytes size place reason →
      FloatFault bytes place reason

-- behind so many blobs another one begins: the first, or one of up to 16, with its key
abbrev pub IsNext : ℕ → List ℕ → Type 0
IsNext count rest = (count ≡ 0) ⊎ ((count < 16) × HasKey rest)

-- behind so many blobs one begins that is wrong; or none begins, and bytes are left over
abbrev pub next_sum_faults : ℕ → List ℕ → Faults BandReason
next_sum_faults count rest =
    choice (IsNext count rest) (FloatFault rest) (ends (OfBlob Leftover) rest)

-- some such blobs stand in front, and what comes behind them has this fault
pub record SumFaultAt (bytes : List ℕ) (place : ℕ) (reason : BandReason) : Type 0 where
  pub blobs : List (List ℕ)
  pub rest : List ℕ
  pub joined : bytes ≡ concat blobs ++ rest
  pub few : length blobs ≤ 16
  pub each : All IsSummed blobs
  pub next : moved (length (concat blobs)) (next_sum_faults (length blobs) rest) place reason
