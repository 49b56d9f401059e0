-- What is told of a tile that waits is what an audit has of its slot.
use Rattle.std.proofs.Common.{ℕ, List, refl, sym, subst, ◌∙◌}
use Rattle.std.specs.List.{AllZip}
use Rattle.tile_audit.specs.declared.batch.Content.{Content}
use Rattle.tile_audit.specs.declared.batch.Content.TheVariants as taken
use Rattle.tile_audit.specs.declared.batch.Waiting.{Waiting}
use Rattle.tile_audit.specs.declared.told.AuditedTile.{AuditedTile}
use Rattle.tile_audit.specs.declared.told.Finding.{Finding}
use Rattle.tile_audit.specs.Audit.{IsAudited, IsFinding}
use Rattle.tile_audit.specs.inside.Waits.{IsContent, IsFound, IsTileOf, IsWaiting}
use Rattle.tile_audit.proofs.Zips.{zip_through}

found_so : (bundle : List ℕ) (slot : ℕ) (content : Content) (finding : Finding) → IsContent bundle slot content → IsFound content finding → IsFinding bundle slot finding
found_so bundle slot taken.Failed finding c is = subst (IsFinding bundle slot) (sym is) tt
found_so bundle slot (taken.Beyond got) finding c is = subst (IsFinding bundle slot) (sym is) c
found_so bundle slot (taken.Tile tile bad) finding c (judged, (so, is)) = subst (IsFinding bundle slot) (sym is) (tile, (c.0, (so, (refl, c.1))))

told_so : (bundle : List ℕ) (slot : ℕ) (w : Waiting) (t : AuditedTile) → IsWaiting bundle slot w → IsTileOf w t → IsAudited bundle slot t
told_so bundle slot w t waits tells = record {
  slot_is = tells.slot ∙ waits.slot_is;
  entry_is = tells.entry ∙ waits.entry_is;
  finding = found_so bundle slot w.content t.finding waits.content tells.finding;
}

-- the tiles of a batch
pub all_told : (bundle : List ℕ) (slots : List ℕ) (ws : List Waiting) (ts : List AuditedTile) → AllZip (IsWaiting bundle) slots ws → AllZip IsTileOf ws ts → AllZip (IsAudited bundle) slots ts
all_told bundle slots ws ts waits tells = zip_through (IsWaiting bundle) IsTileOf (IsAudited bundle) (told_so bundle) slots ws ts waits tells
