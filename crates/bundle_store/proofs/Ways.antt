-- The steps of a recovery, by both files.
use Rattle.std.proofs.Common.{◌≡◌, inl, inr, refl, ℕ, ◌≤◌, List, [], length, Result, sym, ◌∙◌, ap, subst, arith}
use Rattle.outside_io.specs.volume.Disk.{Disk, File, IsImage, IsQuiet, change, settled}
use Rattle.outside_io.specs.declared.volume.VolFile.TheVariants.{Bundle}
use Rattle.outside_io.specs.volume.History.{During, History, Ticks, current}
use Rattle.outside_io.proofs.VolumeLemmas.Images.{only_image}
use Rattle.outside_io.proofs.VolumeLemmas.Moments.{during_end, during_join, during_map, started, stays_on}
use Rattle.side_journal.specs.Groups.{NewEntry}
use Rattle.side_journal.specs.Says.{IsOpen, SaysBuild}
use Rattle.side_journal.specs.Steps.{KeepsBody, SameBehindGate}
use Rattle.bundle_store.specs.GroupPuts.{with_entries}
use Rattle.bundle_store.specs.LaidOver.{size_in}
use Rattle.bundle_store.specs.Recover.{AppliesTo, ClosedStays, EachKeptOrOnTheWay, EachOnTheWay, IsMidway, IsOnTheWay, IsWorkDone, synced_disk}
use Rattle.bundle_store.specs.inside.Grouped.{KeepsUnderAll, SaysThese}
use Rattle.bundle_store.specs.inside.Parts.{EachWholeOrNone, KeepsJournal, Narrows}
use Rattle.bundle_store.proofs.GroupStanding.{lays_body, lays_tiles}

pub closed_stays : ClosedStays
closed_stays bundle journal b j shut (inl (inl same, is)) = (same, is)
closed_stays bundle journal b j shut (inl (inr (inl part), is)) = absurd (shut part.applies.opened)
closed_stays bundle journal b j shut (inl (inr (inr build), is)) = absurd (shut build.0)
closed_stays bundle journal b j shut (inr (inl tiles, is)) = absurd (shut tiles.0.opened)
closed_stays bundle journal b j shut (inr (inr build, is)) = absurd (shut build.0)

-- the gate is closed beside a bundle of which nothing is pending
closing : (bundle journal left : List ℕ) (mid new : History) → IsWorkDone bundle journal left → (current mid).bundle ≡ settled left → (current mid).journal.now ≡ journal → During (KeepsBody (current mid)) mid new
    → During (EachOnTheWay bundle journal) mid new
closing bundle journal left mid new done is now during = during_map (KeepsBody (current mid)) (EachOnTheWay bundle journal) mid new (λ d keeps b j ib ij.
    let same : b ≡ left = only_image (settled left) b refl (subst (λ (f : File). IsImage f b) (keeps.bundle ∙ is) ib) in
    inr (subst (IsWorkDone bundle journal) (sym same) done, subst (λ (l : List ℕ). SameBehindGate l j) now (keeps.journal j ij))) during

-- ---- nothing is done yet

way_starts : (d : Disk) → IsQuiet d → EachOnTheWay d.bundle.now d.journal.now d
way_starts d quiet = λ b j ib ij. inl (inl (only_image d.bundle b quiet.bundle ib), only_image d.journal j quiet.journal ij)

pub reading_way : (old next : History) → IsQuiet (current old) → During (λ d. d ≡ current old) old next → During (EachOnTheWay (current old).bundle.now (current old).journal.now) old next
reading_way old next quiet during =
    let start = way_starts (current old) quiet in
    during_map _ _ old next (λ d same. subst (EachOnTheWay (current old).bundle.now (current old).journal.now) (sym same) start) during

pub measuring_way : {T E : Type 0} (old next : History) (r : Result T E) → IsQuiet (current old) → Ticks old next r → current next ≡ current old → During (EachOnTheWay (current old).bundle.now (current old).journal.now) old next
measuring_way old next r quiet tick same =
    let Pass = EachOnTheWay (current old).bundle.now (current old).journal.now in
    stays_on Pass old old next r (started Pass old (way_starts (current old) quiet)) tick same

-- ---- the tiles of an open journal, or the bundle that was being built

module _ (old mid : History) (quiet : IsQuiet (current old)) (opened : IsOpen (current old).journal.now) where
  -- the journal is as it was
  journal_stays : (d : Disk) (j : List ℕ) → d.journal ≡ (current old).journal → IsImage d.journal j → j ≡ (current old).journal.now
  journal_stays d j is ij = only_image (current old).journal j quiet.journal (subst (λ (f : File). IsImage f j) is ij)

  within : (es : List NewEntry) (header : List ℕ) (n place : ℕ) (these : SaysThese (current old).journal.now es header n place) → n ≤ length (current old).bundle.now → size_in these.body ≤ length (current old).bundle.now
  within es header n place these fits = omega (arith, fits, these.size_is)

  abbrev put_by : (es : List NewEntry) (header : List ℕ) (n place : ℕ) → SaysThese (current old).journal.now es header n place → n ≤ length (current old).bundle.now → AppliesTo (current old).bundle.now (current old).journal.now
  put_by es header n place these fits =
      record { opened = opened; body = these.body; says = these.says; tiles = lays_tiles these.body es header these.lays; within = within es header n place these fits }

  pub writing_way : (es : List NewEntry) (header : List ℕ) (n place : ℕ) → SaysThese (current old).journal.now es header n place → n ≤ length (current old).bundle.now
      → During (KeepsUnderAll header es (current old)) old mid → During (EachOnTheWay (current old).bundle.now (current old).journal.now) old mid
  writing_way es header n place these fits writing =
      let b = (current old).bundle.now in
      let j = (current old).journal.now in
      during_map (KeepsUnderAll header es (current old)) (EachOnTheWay b j) old mid (λ d keeps c k ic ik.
      let under = keeps.bundle c ic in
      inl (
        inr (inl (record {
          applies = put_by es header n place these fits;
          size = under.size;
          all = sym (lays_body c these.body es header these.lays) ∙ under.over ∙ lays_body b these.body es header these.lays;
        })),
        journal_stays d k keeps.journal ik,
      )) writing

  pub tiles_way : (es : List NewEntry) (header : List ℕ) (n place : ℕ) → SaysThese (current old).journal.now es header n place → n ≤ length (current old).bundle.now
      → During (KeepsUnderAll header es (current old)) old mid → (new : History) → current mid ≡ change Bundle (λ f. settled (with_entries header es f.now)) (current old)
      → During (KeepsBody (current mid)) mid new → During (EachOnTheWay (current old).bundle.now (current old).journal.now) old new
  tiles_way es header n place these fits writing new done shutting =
      let b = (current old).bundle.now in
      let j = (current old).journal.now in
      during_join (EachOnTheWay b j) old mid new (writing_way es header n place these fits writing)
      (closing b j (with_entries header es b) mid new (inl (put_by es header n place these fits, lays_body b these.body es header these.lays)) (ap (λ (d : Disk). d.bundle) done) (ap (λ (d : Disk). d.journal.now) done) shutting)

  pub wiping_way : SaysBuild (current old).journal.now → During (KeepsJournal (current old)) old mid → During (EachWholeOrNone (current old).bundle.now) old mid
      → During (EachOnTheWay (current old).bundle.now (current old).journal.now) old mid
  wiping_way says keeping wiping = record {
    later = wiping.later;
    past = wiping.past;
    each = λ t ge le. λ c k ic ik. (
        let way : IsMidway (current old).bundle.now (current old).journal.now c = elim (wiping.each t ge le c ic) [ inl same ↦ inl same | inr none ↦ inr (inr (opened, (says, none))) ] in
        inl (way, journal_stays (mid.disk_at t) k (keeping.each t ge le).journal ik));
  }

  pub emptied_way : SaysBuild (current old).journal.now → During (KeepsJournal (current old)) old mid → During (EachWholeOrNone (current old).bundle.now) old mid
      → (new : History) → current mid ≡ change Bundle (λ _. settled []) (current old) → During (KeepsBody (current mid)) mid new
      → During (EachOnTheWay (current old).bundle.now (current old).journal.now) old new
  emptied_way says keeping wiping new done shutting =
      let b = (current old).bundle.now in
      let j = (current old).journal.now in
      during_join (EachOnTheWay b j) old mid new (wiping_way says keeping wiping)
      (closing b j [] mid new (inr (opened, (says, refl))) (ap (λ (d : Disk). d.bundle) done) (ap (λ (d : Disk). d.journal.now) done) shutting)

-- ---- one recovery, behind the syncs and with them

-- the disk is as it was, and what is done then is on the way
going_on : (old next last : History) → During (EachOnTheWay (current old).bundle.now (current old).journal.now) old next → current next ≡ current old → During (EachOnTheWay (current next).bundle.now (current next).journal.now) next last
    → During (EachOnTheWay (current old).bundle.now (current old).journal.now) old last
going_on old next last first still going =
    during_join _ old next last first (subst (λ (x : Disk). During (EachOnTheWay x.bundle.now x.journal.now) next last) still going)

pub measured_way : {T E : Type 0} (old next last : History) (r : Result T E) → IsQuiet (current old) → Ticks old next r → current next ≡ current old → During (EachOnTheWay (current next).bundle.now (current next).journal.now) next last
    → During (EachOnTheWay (current old).bundle.now (current old).journal.now) old last
measured_way old next last r quiet tick same going = going_on old next last (measuring_way old next r quiet tick same) same going

pub finishing_way : (old next last : History) → IsQuiet (current old) → During (λ d. d ≡ current old) old next → During (EachOnTheWay (current next).bundle.now (current next).journal.now) next last
    → During (EachOnTheWay (current old).bundle.now (current old).journal.now) old last
finishing_way old next last quiet reading going = going_on old next last (reading_way old next quiet reading) (during_end (λ d. d ≡ current old) old next reading) going

pub narrowing_way : (old mid : History) → During (Narrows (current old)) old mid → During (EachKeptOrOnTheWay (current old)) old mid
narrowing_way old mid narrowing = during_map (Narrows (current old)) (EachKeptOrOnTheWay (current old)) old mid (λ d narrows b j ib ij. inl (narrows.bundle b ib, narrows.journal j ij)) narrowing

pub synced_way : (old mid new : History) → During (Narrows (current old)) old mid → current mid ≡ synced_disk (current old) → During (EachOnTheWay (current mid).bundle.now (current mid).journal.now) mid new
    → During (EachKeptOrOnTheWay (current old)) old new
synced_way old mid new narrowing done going =
    during_join (EachKeptOrOnTheWay (current old)) old mid new (narrowing_way old mid narrowing)
    (during_map (EachOnTheWay (current mid).bundle.now (current mid).journal.now) (EachKeptOrOnTheWay (current old)) mid new (λ d each b j ib ij.
    inr (subst (λ (l : List ℕ). IsOnTheWay l (current old).journal.now b j) (ap (λ (d : Disk). d.bundle.now) done) (subst (λ (l : List ℕ). IsOnTheWay (current mid).bundle.now l b j) (ap (λ (d : Disk). d.journal.now) done) (each b j ib ij)))) going)
