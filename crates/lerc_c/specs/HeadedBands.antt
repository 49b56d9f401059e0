-- What headers alone say of a tile.
use Rattle.std.specs.Prelude.{◌≡◌, ℕ, zero, suc, ◌<◌, ◌⊎◌, List, [], ◌++◌, length}
use Rattle.first_fault.specs.Faults.{Faults, wrong, moved}
use Rattle.lerc_header.specs.declared.header.Header.{Header}
use Rattle.lerc_header.specs.declared.fault.BlobReason.{BlobReason}
use Rattle.lerc_header.specs.declared.fault.BlobReason.TheVariants.{Truncated, Leftover}
use Rattle.lerc_header.specs.Head.{HeadAt}
use Rattle.lerc_header.specs.HeadFaults.{header_faults}
use Rattle.lerc_c.specs.declared.told.Fault.{Fault}
use Rattle.lerc_c.specs.Told.{TellsFault}

-- the bytes are so many parts, one behind the other, each as long as the header says with which it
-- begins
abbrev pub AreHeaded : List ℕ → ℕ → Type 0
AreHeaded bytes zero = bytes ≡ []
AreHeaded bytes (suc n) = (front : List ℕ) × ((rest : List ℕ) × ((h : Header) ×
    ((bytes ≡ front ++ rest) × (HeadAt front h × ((length front ≡ h.size) × AreHeaded rest n)))))

-- no such part comes first: no header stands, or the bytes end before the part does
abbrev pub headed_faults : List ℕ → Faults BlobReason
headed_faults rest place reason = header_faults rest place reason
    ⊎ ((h : Header) × (HeadAt rest h × ((length rest < h.size)
    × wrong Truncated (length rest) place reason)))

-- behind fewer than 16 parts none comes first; behind 16 nothing may follow
abbrev pub unheaded_faults : ℕ → List ℕ → Faults BlobReason
unheaded_faults count rest place reason =
    ((count < 16) × headed_faults rest place reason)
    ⊎ ((count ≡ 16) × wrong Leftover 0 place reason)

-- What is wrong behind parts that stand, and its place from the first byte. Behind a part it is
-- wrong only where bytes follow.
pub record IsUnheaded (bytes : List ℕ) (place : ℕ) (reason : BlobReason) : Type 0 where
  pub count : ℕ
  pub front : List ℕ
  pub rest : List ℕ
  pub joined : bytes ≡ front ++ rest
  pub stand : AreHeaded front count
  pub some : (count ≡ 0) ⊎ (0 < length rest)
  pub next : moved (length front) (unheaded_faults count rest) place reason

-- the numbers are those of it
pub record TellsUnheaded (bytes : List ℕ) (f : Fault) : Type 0 where
  pub reason : BlobReason
  pub unheaded : IsUnheaded bytes f.place reason
  pub numbers : TellsFault f f.place reason
