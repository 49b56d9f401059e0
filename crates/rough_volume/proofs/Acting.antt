-- Calls that fail, and act, are what the trait allows.
use Rattle.std.proofs.Common.{◌≡◌, inl, inr, refl, ℕ, ◌+◌, ◌≤◌, List, ◌∷◌, length, max, Result, Ok, Err, sym, ◌∙◌, ap, subst, arith}
use Rattle.std.specs.Prelude.{IfOk, OnErr, OnOk}
use Rattle.outside_io.specs.declared.volume.VolFile.{VolFile}
use Rattle.outside_io.specs.declared.volume.VolFile.TheVariants.{Bundle, Journal}
use Rattle.outside_io.specs.volume.Disk.{Disk, FailedCut, FailedWrite, File, IsImage, PartlyWrote, Struck, change, file_of, laid, settled, shortened, synced, wrote}
use Rattle.outside_io.specs.volume.History.{History, Ticks, contents, current}
use Rattle.outside_io.specs.volume.Recorded.{Recorded, history_of}
use Rattle.outside_io.proofs.VolumeLemmas.Images.{only_image}
use Rattle.outside_io.proofs.VolumeLemmas.Laid.{laid_after, laid_before, length-laid}

same_length : (at : ℕ) (bytes other old : List ℕ) → at ≤ length old → length other ≡ length bytes → length (laid at other old) ≡ length (laid at bytes old)
same_length at bytes other old within same = length-laid at other old within ∙ ap (λ (n : ℕ). max (length old) (at + n)) same ∙ sym (length-laid at bytes old within)

-- as much is pending
pending : (at : ℕ) (bytes other : List ℕ) (f : File) → at ≤ length f.now → length other ≡ length bytes → wrote at other f ≡ (let g : File = record (wrote at bytes f) { now = laid at other f.now } in g)
pending at bytes other f within same = λ i. let g : File = record {
  now = laid at other f.now;
  base = f.base;
  lens = (length f.now, same_length at bytes other f.now within same i) ∷ f.lens;
  touched = (at, same i) ∷ f.touched;
} in g

partly : (at : ℕ) (bytes other : List ℕ) (f : File) → at ≤ length f.now → length other ≡ length bytes → PartlyWrote at bytes f (wrote at other f)
partly at bytes other f within same = record {
  pending = pending at bytes other f within same;
  least = omega (arith, length-laid at other f.now within);
  greatest = omega (arith, same_length at bytes other f.now within same);
  outside = λ i lt beside. elim beside [
    | inl before ↦ laid_before at other f.now i 0 within before
    | inr behind ↦ laid_after at other f.now i 0 within (omega (arith, behind, same))
  ];
}

pub half_write : (file : VolFile) (at : ℕ) (bytes other : List ℕ) (d : Disk) → at ≤ length (file_of file d).now → length other ≡ length bytes → FailedWrite file at bytes d (change file (wrote at other) d)
half_write Bundle at bytes other d within same = inr (partly at bytes other d.bundle within same)
half_write Journal at bytes other d within same = inr (partly at bytes other d.journal within same)

image_of : (at : ℕ) (bytes other : List ℕ) (f : File) → at ≤ length f.now → length other ≡ length bytes → (c : List ℕ) → IsImage (wrote at other f) c → IsImage (wrote at bytes f) c
image_of at bytes other f within same c image =
    let there : IsImage (let g : File = record (wrote at bytes f) { now = laid at other f.now } in g) c = subst (λ (g : File). IsImage g c) (pending at bytes other f within same) image in
    record { size = there.size; bytes = there.bytes; octets = there.octets }

pub half_struck : (file : VolFile) (at : ℕ) (bytes other : List ℕ) (d : Disk) → at ≤ length (file_of file d).now → length other ≡ length bytes → Struck file (wrote at bytes) d (change file (wrote at other) d)
half_struck Bundle at bytes other d within same = record { other = refl; images = image_of at bytes other d.bundle within same }
half_struck Journal at bytes other d within same = record { other = refl; images = image_of at bytes other d.journal within same }

pub whole_cut : (file : VolFile) (len : ℕ) (d : Disk) → FailedCut file len d (change file (shortened len) d)
whole_cut file len d = inr refl

synced_image : (f : File) → IsImage f f.now → (c : List ℕ) → IsImage (synced f) c → IsImage f c
synced_image f now c image = subst (IsImage f) (sym (only_image (settled f.now) c refl image)) now

pub whole_sync : (file : VolFile) (d : Disk) → IsImage (file_of file d) (file_of file d).now → Struck file (λ f. f) d (change file synced d)
whole_sync Bundle d now = record { other = refl; images = synced_image d.bundle now }
whole_sync Journal d now = record { other = refl; images = synced_image d.journal now }

-- ---- one call

-- a call that answers otherwise takes the same moment
pub ticks_as : {T E : Type 0} (old new : History) (a r : Result T E) → IfOk r (λ x. a ≡ Ok x) → Ticks old new a → Ticks old new r
ticks_as old new a (Ok x) is ticks = subst (Ticks old new) is ticks
ticks_as old new a (Err e) is ticks = record { later = ticks.later; clock = ticks.clock; past = ticks.past; room = tt }

-- a write of other bytes, as many
module _ (file : VolFile) (at : ℕ) (bytes other : List ℕ) (old new : Disk) (within : at ≤ length (file_of file old).now) (same : length other ≡ length bytes) where
  pub part_failed : {T E : Type 0} (r : Result T E) → OnOk r (new ≡ change file (wrote at other) old) → OnErr r (new ≡ old) → FailedWrite file at bytes old new
  part_failed (Ok x) ok err = subst (FailedWrite file at bytes old) (sym ok) (half_write file at bytes other old within same)
  part_failed (Err e) ok err = inl err

  pub part_struck : {T E : Type 0} (r : Result T E) → OnOk r (new ≡ change file (wrote at other) old) → OnErr r (new ≡ old) → Struck file (wrote at other) old new → Struck file (wrote at bytes) old new
  part_struck (Ok x) ok err struck = subst (Struck file (wrote at bytes) old) (sym ok) (half_struck file at bytes other old within same)
  part_struck (Err e) ok err struck = record { other = struck.other; images = λ c image. image_of at bytes other (file_of file old) within same c (struck.images c image) }

-- a cut or a sync that was done, and failed
pub cut_failed : {T E : Type 0} (file : VolFile) (len : ℕ) (old new : Disk) (r : Result T E) → OnOk r (new ≡ change file (shortened len) old) → OnErr r (new ≡ old) → FailedCut file len old new
cut_failed file len old new (Ok x) ok err = inr ok
cut_failed file len old new (Err e) ok err = inl err

-- what holds whatever is answered
pub on_err : {T E : Type 0} {P : Type 0} (r : Result T E) → P → OnErr r P
on_err (Ok x) p = tt
on_err (Err e) p = p

-- ---- the same over the volume that is kept, which is the one that was asked

pub kept_failed : {T E : Type 0} (file : VolFile) (at : ℕ) (bytes other : List ℕ) (asked inner new : Recorded) (r : Result T E) → inner ≡ asked → length other ≡ length bytes → OnOk r (current (history_of new) ≡ change file (wrote at other) (current (history_of inner)))
    → OnErr r (current (history_of new) ≡ current (history_of inner)) → at ≤ length (contents file (history_of asked)) → FailedWrite file at bytes (current (history_of asked)) (current (history_of new))
kept_failed file at bytes other asked inner new r is same ok err =
    subst (λ (a : Recorded). at ≤ length (contents file (history_of a)) → FailedWrite file at bytes (current (history_of a)) (current (history_of new))) is
    (λ within. part_failed file at bytes other (current (history_of inner)) (current (history_of new)) within same r ok err)

pub kept_struck : {T E : Type 0} (file : VolFile) (at : ℕ) (bytes other : List ℕ) (asked inner new : Recorded) (r : Result T E) → inner ≡ asked → length other ≡ length bytes → OnOk r (current (history_of new) ≡ change file (wrote at other) (current (history_of inner)))
    → OnErr r (current (history_of new) ≡ current (history_of inner)) → Struck file (wrote at other) (current (history_of inner)) (current (history_of new)) → at ≤ length (contents file (history_of asked))
    → Struck file (wrote at bytes) (current (history_of asked)) (current (history_of new))
kept_struck file at bytes other asked inner new r is same ok err struck =
    subst (λ (a : Recorded). at ≤ length (contents file (history_of a)) → Struck file (wrote at bytes) (current (history_of a)) (current (history_of new))) is
    (λ within. part_struck file at bytes other (current (history_of inner)) (current (history_of new)) within same r ok err struck)
