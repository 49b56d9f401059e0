-- What holds of audits. Each is the contract of a function in src/laws.rt.
use Rattle.std.specs.Prelude.{◌≡◌, ◌⊎◌, ℕ, ◌<◌, List, All, IfSome, true, false}
use Rattle.first_fault.specs.Parts.{AreBytes}
use Rattle.raster_values.specs.Raster.{Pixels}
use Rattle.lerc_grammar.specs.Bands.{BandsBlob}
use Rattle.bundle_index.specs.Sizes.{slot_count}
use Rattle.bundle_store.specs.Tiles.{HasIndex, IsReadable, tiles}
use Rattle.tile_audit.specs.declared.judged.Judged.{Judged}
use Rattle.tile_audit.specs.declared.told.AuditedTile.{AuditedTile}
use Rattle.tile_audit.specs.Audit.{IsAudit, count_of, is_damaged, is_failed}
use Rattle.tile_audit.specs.Sums.{AreSummed}
use Rattle.tile_audit.specs.Verdicts.{IsJudged}

-- ---- one tile

-- bytes have one verdict at most
abbrev pub OneJudged : Type 0
OneJudged = (bytes : List ℕ) (v w : Judged) → IsJudged bytes v → IsJudged bytes w → v ≡ w

-- and they have one
abbrev pub SomeJudged : Type 0
SomeJudged = (bytes : List ℕ) → AreBytes bytes → (v : Judged) × IsJudged bytes v

-- ---- a bundle

-- two audits of a bundle in which each tile was read are the same
abbrev pub AuditsAreOnce : Type 0
AuditsAreOnce = (bundle : List ℕ) (some others : List AuditedTile) →
    IsAudit bundle some → IsAudit bundle others →
    count_of is_failed some ≡ 0 → count_of is_failed others ≡ 0 → some ≡ others

-- and there is one
abbrev pub SomeAudit : Type 0
SomeAudit = (bundle : List ℕ) → AreBytes bundle →
    (all : List AuditedTile) × (IsAudit bundle all × (count_of is_failed all ≡ 0))

-- the tile is the blobs of bands, or of floating-point numbers whose checksums stand
abbrev pub IsWholeTile : List ℕ → Type 0
IsWholeTile tile = ((bands : List Pixels) × BandsBlob tile bands) ⊎ AreSummed tile

-- Where no tile of an audit is damaged, and that strictly, the bundle is readable, and each tile in
-- it is such.
pub record IsClean (bundle : List ℕ) : Type 0 where
  pub readable : IsReadable bundle
  pub each : (slot : ℕ) → slot < slot_count → IfSome (tiles bundle slot) IsWholeTile

abbrev pub CleanAudits : Type 0
CleanAudits = (bundle : List ℕ) (all : List AuditedTile) → HasIndex bundle → IsAudit bundle all →
    All (λ t. is_damaged true t.finding ≡ false) all → IsClean bundle
