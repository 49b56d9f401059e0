-- What a run of calls leaves as it was.
use Rattle.std.proofs.Common.{◌≡◌, refl, Result, ◌∙◌, subst}
use Rattle.outside_io.specs.declared.volume.VolFile.{VolFile}
use Rattle.outside_io.specs.declared.volume.VolFile.TheVariants.{Bundle, Journal}
use Rattle.outside_io.specs.volume.Disk.{Disk, File, IsImage, Struck}
use Rattle.outside_io.specs.volume.History.{During, History, Ticks, current}
use Rattle.outside_io.proofs.VolumeLemmas.Moments.{during_end, during_join, during_map, goes_on, started, stays_on}
use Rattle.bundle_store.specs.inside.Parts.{KeepsJournal, Narrows}

-- the disk, by one call
pub keeps_disk : {T E : Type 0} (old new : History) (r : Result T E) → Ticks old new r
    → current new ≡ current old → During (λ d. d ≡ current old) old new
keeps_disk old new r tick same =
    let Same : Disk → Type 0 = λ d. d ≡ current old in
    stays_on Same old old new r (started Same old refl) tick same

-- the disk, by a run more
pub keeps_disk_on : (old mid new : History) → During (λ d. d ≡ current old) old mid
    → During (λ d. d ≡ current mid) mid new → During (λ d. d ≡ current old) old new
keeps_disk_on old mid new so_far more =
    let Same : Disk → Type 0 = λ d. d ≡ current old in
    let still = during_end Same old mid so_far in
    during_join Same old mid new so_far (during_map _ Same mid new (λ d same. same ∙ still) more)

-- the journal, before the first call
pub journal_starts : (h : History) → During (KeepsJournal (current h)) h h
journal_starts h = started (KeepsJournal (current h)) h (record { journal = refl })

-- the same, by one call more
pub journal_stays : {T E : Type 0} (old mid new : History) (r : Result T E)
    → During (KeepsJournal (current old)) old mid → Ticks mid new r
    → (current new).journal ≡ (current mid).journal → During (KeepsJournal (current old)) old new
journal_stays old mid new r so_far tick same =
    let was = during_end (KeepsJournal (current old)) old mid so_far in
    goes_on (KeepsJournal (current old)) old mid new r so_far tick
    (record { journal = same ∙ was.journal })

-- the same, by a run more
pub journal_on : (old mid new : History) → During (KeepsJournal (current old)) old mid
    → During (KeepsJournal (current mid)) mid new → During (KeepsJournal (current old)) old new
journal_on old mid new so_far more =
    let was = during_end (KeepsJournal (current old)) old mid so_far in
    let Keeps : Disk → Type 0 = KeepsJournal (current old) in
    during_join Keeps old mid new so_far
    (during_map _ Keeps mid new (λ d keeps. record { journal = keeps.journal ∙ was.journal }) more)

-- a sync adds nothing to what a crash may leave
narrows_by : (file : VolFile) (old new : Disk) → Struck file (λ f. f) old new → Narrows old new
narrows_by Bundle old new struck = record {
  bundle = struck.images;
  journal = λ c is. subst (λ (f : File). IsImage f c) struck.other is;
}
narrows_by Journal old new struck = record {
  bundle = λ c is. subst (λ (f : File). IsImage f c) struck.other is;
  journal = struck.images;
}

pub narrows_starts : (h : History) → During (Narrows (current h)) h h
narrows_starts h =
    started (Narrows (current h)) h (record { bundle = λ c is. is; journal = λ c is. is })

pub narrows_on : {T E : Type 0} (file : VolFile) (old mid new : History) (r : Result T E)
    → During (Narrows (current old)) old mid → Ticks mid new r
    → Struck file (λ f. f) (current mid) (current new) → During (Narrows (current old)) old new
narrows_on file old mid new r so_far tick struck =
    let was = during_end (Narrows (current old)) old mid so_far in
    let now = narrows_by file (current mid) (current new) struck in
    goes_on (Narrows (current old)) old mid new r so_far tick (record {
      bundle = λ c is. was.bundle c (now.bundle c is);
      journal = λ c is. was.journal c (now.journal c is);
    })
