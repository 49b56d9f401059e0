-- Where an audit stands behind some batches.
use Rattle.std.proofs.Common.{◌≡◌, ◌⊎◌, inl, inr, ℕ, ◌+◌, ◌-◌, ◌<◌, ◌≤◌, Bool, List, [], ◌++◌, length, All, Option, Ok, Err, sym, ap, subst, arith}
use Rattle.std.specs.List.{AllZip}
use Rattle.std.proofs.lemmas.Bool.{cases_lt}
use Rattle.std.proofs.lemmas.Grind.{flat_map-append}
use Rattle.std.proofs.lemmas.List.{length-append}
use Rattle.std.proofs.lemmas.List.Elements.{All-append}
use Rattle.outside_io.specs.streams.Faults.{FailedBetween, IsCause}
use Rattle.outside_io.specs.streams.Sink.{Holds, HoldsPrefix}
use Rattle.outside_io.proofs.StreamLemmas.Gives.{HoldsPrefix_join, Holds_join, Holds_none}
use Rattle.bundle_index.specs.declared.entry.Entry.{Entry}
use Rattle.tile_audit.specs.declared.batch.Content.{Content}
use Rattle.tile_audit.specs.declared.batch.Content.TheVariants as taken
use Rattle.tile_audit.specs.declared.batch.Waiting.{Waiting}
use Rattle.tile_audit.specs.declared.stop.AuditStop.{AuditStop}
use Rattle.tile_audit.specs.declared.stop.AuditStop.TheVariants.{Output, OutOfMemory}
use Rattle.tile_audit.specs.declared.told.AuditedTile.{AuditedTile}
use Rattle.tile_audit.specs.declared.told.Finding.{Finding}
use Rattle.tile_audit.specs.declared.totals.Totals.{Totals}
use Rattle.tile_audit.specs.Audit.{FitsEntry, IsAudited, MayBeTile, count_of, is_failed, slots_below}
use Rattle.tile_audit.specs.Gave.{AreTotals, AuditGave, IsAuditOf}
use Rattle.tile_audit.specs.Lines.{audit_lines, line_or_none}
use Rattle.tile_audit.specs.inside.Waits.{FitsContent, IsFound, IsTileOf, MayWait, has_failed, is_unreadable}
use Rattle.tile_audit.specs.inside.Walks.{AreWaiting, BatchGave, IsBetween, WalkGave, slots_between}
use Rattle.tile_audit.proofs.Joins.{count_join, rising_join}
use Rattle.tile_audit.proofs.Slots.{below_join}
use Rattle.tile_audit.proofs.Telling.{all_told}
use Rattle.tile_audit.proofs.Zips.{zip_all, zip_count, zip_join, zip_length, zip_pairs}

-- the tiles of the slots below a number were told, their lines given and counted
pub record Stands (told : Bool) (bundle : List ℕ) (all : Bool) (next : ℕ) (totals : Totals) (old new : ℕ) (held gained : Option (List ℕ)) : Type 0 where
  pub tiles : List AuditedTile
  pub audit : IsAuditOf told bundle next tiles old new
  pub rose : old < new → 0 < count_of is_failed tiles
  pub counted : AreTotals tiles totals
  pub gave : Holds held gained (audit_lines all tiles)
  pub few : length tiles ≤ next
  pub below : All (λ t. t.slot < next) tiles
  pub within : next ≤ 16384

-- nothing was told
pub none_stand : (told : Bool) (bundle : List ℕ) (all : Bool) (totals : Totals) (old : ℕ) (held : Option (List ℕ)) → AreTotals [] totals → Stands told bundle all 0 totals old old held held
none_stand told bundle all totals old held are = record {
  tiles = [];
  audit = record {
    audit = λ tells. tt;
    may_be = record { each = λ k d less. absurd (omega (arith, less)); rising = λ i j d less within. absurd (omega (arith, within)) };
    failed = record { counts = omega arith; failed = inl (omega arith) };
  };
  rose = λ less. absurd (omega (arith, less));
  counted = are;
  gave = Holds_none held;
  few = omega arith;
  below = λ k d less. absurd (omega (arith, less));
  within = omega arith;
}

-- ---- the tiles of a batch behind those before it

fits_so : (size : ℕ) (content : Content) (finding : Finding) → IsFound content finding → FitsContent size content → FitsEntry size finding
fits_so size taken.Failed finding is fits = subst (FitsEntry size) (sym is) tt
fits_so size (taken.Beyond got) finding is fits = subst (FitsEntry size) (sym is) fits
fits_so size (taken.Tile tile bad) finding (judged, (so, is)) fits = subst (FitsEntry size) (sym is) tt

found_failed : (content : Content) (finding : Finding) → IsFound content finding → has_failed content ≡ is_failed finding
found_failed taken.Failed finding is = sym (ap is_failed is)
found_failed (taken.Beyond got) finding is = sym (ap is_failed is)
found_failed (taken.Tile tile bad) finding (judged, (so, is)) = sym (ap is_failed is)

failed_so : (w : Waiting) (t : AuditedTile) → IsTileOf w t → is_unreadable w ≡ is_failed t.finding
failed_so w t is = found_failed w.content t.finding is.finding

failed_join : (n m k old mid new : ℕ) → old ≤ mid → mid ≤ new → k ≡ n + m → ((n ≤ mid - old) ⊎ (18446744073709551615 ≤ mid)) → ((m ≤ new - mid) ⊎ (18446744073709551615 ≤ new)) → (k ≤ new - old) ⊎ (18446744073709551615 ≤ new)
failed_join n m k old mid new low up both (inr end) two = inr (omega (arith, end, up))
failed_join n m k old mid new low up both (inl few) (inr end) = inr end
failed_join n m k old mid new low up both (inl few) (inl less) = inl (omega (arith, few, less, low, up, both))

rose_join : (n m k old mid new : ℕ) → k ≡ n + m → (old < mid → 0 < n) → (mid < new → 0 < m) → old < new → 0 < k
rose_join n m k old mid new both one two less = elim (cases_lt old mid) [
  | inl rose ↦ (let some = one rose in omega (arith, some, both))
  | inr not ↦ (let some = two (omega (arith, not, less)) in omega (arith, some, both))
]

may_be_so : (w : Waiting) (t : AuditedTile) → IsTileOf w t → MayWait w → MayBeTile t
may_be_so w t is may = record {
  slot = omega (arith, is.slot, may.slot);
  some = subst (λ (e : Entry). 0 < e.size) (sym is.entry) may.some;
  finding = subst (λ (e : Entry). FitsEntry e.size t.finding) (sym is.entry) (fits_so w.entry.size w.content t.finding is.finding may.content);
}

pub joined : (told : Bool) (bundle : List ℕ) (from to : ℕ) (before : List AuditedTile) (waiting : List Waiting) (tiles : List AuditedTile) (old mid new : ℕ) → from ≤ to
    → IsAuditOf told bundle from before old mid → All (λ t. t.slot < from) before → AreWaiting told bundle from to waiting mid new → AllZip IsTileOf waiting tiles → IsAuditOf told bundle to (before ++ tiles) old new
joined told bundle from to before waiting tiles old mid new low first below are zip =
    let same = zip_count IsTileOf is_unreadable (λ t. is_failed t.finding) failed_so waiting tiles zip in
    let both = count_join (λ (t : AuditedTile). is_failed t.finding) before tiles in
    record {
      audit = λ tells. subst (λ l. AllZip (IsAudited bundle) l (before ++ tiles)) (sym (below_join bundle from to low))
          (zip_join (IsAudited bundle) (slots_below bundle from) (slots_between bundle from to) before tiles (first.audit tells) (all_told bundle (slots_between bundle from to) waiting tiles (are.waits tells) zip));
      may_be = record {
        each = All-append MayBeTile before tiles first.may_be.each (zip_all IsTileOf MayWait MayBeTile may_be_so waiting tiles zip are.may_be);
        rising = rising_join (λ (t : AuditedTile). t.slot) from before tiles first.may_be.rising
            (zip_pairs IsTileOf (λ v w. v.slot < w.slot) (λ s t. s.slot < t.slot) (λ v w s t is so less. omega (arith, is.slot, so.slot, less)) waiting tiles zip are.rising) below
            (zip_all IsTileOf (IsBetween from to) (λ t. from ≤ t.slot) (λ w t is between. omega (arith, is.slot, between.0)) waiting tiles zip are.between);
      };
      failed = record {
        counts = omega (arith, first.failed.counts, are.counts);
        failed = failed_join (count_of is_failed before) (count_of is_failed tiles) (count_of is_failed (before ++ tiles)) old mid new first.failed.counts are.counts both first.failed.failed
            (subst (λ (n : ℕ). (n ≤ new - mid) ⊎ (18446744073709551615 ≤ new)) same are.failed);
      };
    }

pub stand_more : (told : Bool) (bundle : List ℕ) (all : Bool) (from to : ℕ) (before after : Totals) (waiting : List Waiting) (old mid new : ℕ) (held gained now : Option (List ℕ)) → from ≤ to → to ≤ 16384
    → Stands told bundle all from before old mid held gained → AreWaiting told bundle from to waiting mid new → BatchGave all waiting (Ok tt) before after gained now → Stands told bundle all to after old new held now
stand_more told bundle all from to before after waiting old mid new held gained now low within stands are (tiles, (zip, (gave, counted))) =
    let same = zip_count IsTileOf is_unreadable (λ t. is_failed t.finding) failed_so waiting tiles zip in
    let both = count_join (λ (t : AuditedTile). is_failed t.finding) stands.tiles tiles in
    record {
      tiles = stands.tiles ++ tiles;
      audit = joined told bundle from to stands.tiles waiting tiles old mid new low stands.audit stands.below are zip;
      rose = λ less. rose_join (count_of is_failed stands.tiles) (count_of is_failed tiles) (count_of is_failed (stands.tiles ++ tiles)) old mid new both stands.rose (λ rose. subst (λ (n : ℕ). 0 < n) same (are.rose rose)) less;
      counted = counted stands.tiles stands.counted;
      gave = subst (Holds held now) (sym (flat_map-append (line_or_none all) stands.tiles tiles)) (Holds_join held gained now (audit_lines all stands.tiles) (audit_lines all tiles) stands.gave gave);
      few = omega (arith, length-append stands.tiles tiles, stands.few, are.few, zip_length IsTileOf waiting tiles zip);
      below = All-append (λ t. t.slot < to) stands.tiles tiles (λ k d less. let is = stands.below k d less in omega (arith, is, low)) (zip_all IsTileOf (IsBetween from to) (λ t. t.slot < to) (λ w t is between. omega (arith, is.slot, between.1)) waiting tiles zip are.between);
      within = within;
    }

-- ---- stops

pub cause_same : (P : Type 0) (old new : ℕ) → IsCause P old new → ¬ P → new ≡ old
cause_same P old new cause not = by (cases_lt old new)
  where
    by : (old < new) ⊎ (new ≤ old) → new ≡ old
    by (inl rose) = absurd (not (cause.rose rose))
    by (inr same) = omega (arith, same, cause.counts)

pub cause_of : (P : Type 0) (old mid new : ℕ) → P → mid ≡ old → (mid ≤ new) × FailedBetween mid new → IsCause P old new
cause_of P old mid new holds same failed = record {
  counts = omega (arith, same, failed.0);
  failed = λ p. subst (λ (n : ℕ). FailedBetween n new) same failed.1;
  rose = λ less. holds;
}

-- the same tiles, where the volume's count went on
later : (told : Bool) (bundle : List ℕ) (end : ℕ) (tiles : List AuditedTile) (old mid new : ℕ) → mid ≤ new → IsAuditOf told bundle end tiles old mid → IsAuditOf told bundle end tiles old new
later told bundle end tiles old mid new up are = record {
  audit = are.audit;
  may_be = are.may_be;
  failed = record { counts = omega (arith, are.failed.counts, up); failed = wider are.failed.failed };
}
  where
    wider : (count_of is_failed tiles ≤ mid - old) ⊎ (18446744073709551615 ≤ mid) → (count_of is_failed tiles ≤ new - old) ⊎ (18446744073709551615 ≤ new)
    wider (inl few) = inl (omega (arith, few, up))
    wider (inr end_) = inr (omega (arith, end_, up))

pub walk_stops : (told : Bool) (bundle : List ℕ) (all : Bool) (from to : ℕ) (before after : Totals) (waiting : List Waiting) (stop : AuditStop) (old mid new : ℕ) (held gained now : Option (List ℕ)) → from ≤ to → to ≤ 16384
    → Stands told bundle all from before old mid held gained → AreWaiting told bundle from to waiting mid new → BatchGave all waiting (Err stop) before after gained now → WalkGave told bundle all (Err stop) old new held now
walk_stops told bundle all from to before after waiting Output old mid new held gained now low within stands are (tiles, (zip, gave)) = (
  stands.tiles ++ tiles,
  (
    (to, (within, joined told bundle from to stands.tiles waiting tiles old mid new low stands.audit stands.below are zip)),
    subst (HoldsPrefix held now) (sym (flat_map-append (line_or_none all) stands.tiles tiles)) (HoldsPrefix_join held gained now (audit_lines all stands.tiles) (audit_lines all tiles) stands.gave gave),
  ),
)
walk_stops told bundle all from to before after waiting OutOfMemory old mid new held gained now low within stands are same = (
  stands.tiles,
  (
    (from, (stands.within, later told bundle from stands.tiles old mid new are.counts stands.audit)),
    subst (λ h. Holds held h (audit_lines all stands.tiles)) (sym same) stands.gave,
  ),
)

pub audit_stops : (told : Bool) (bundle : List ℕ) (all : Bool) (stop : AuditStop) (old new : ℕ) (held gained : Option (List ℕ)) → WalkGave told bundle all (Err stop) old new held gained → AuditGave told bundle all (Err stop) old new held gained
audit_stops told bundle all Output old new held gained (tiles, (front, gave)) = (tiles, inl (front, gave))
audit_stops told bundle all OutOfMemory old new held gained gave = gave
