-- What a sync leaves of the images.
use Rattle.std.proofs.Common.{◌≡◌, refl, List, ℕ, Result, Ok, Err, OnOk, OnErr, sym, ap, subst}
use Rattle.outside_io.specs.declared.volume.VolFile.{VolFile}
use Rattle.outside_io.specs.declared.volume.VolFile.TheVariants.{Bundle, Journal}
use Rattle.outside_io.specs.volume.Disk.{Disk, File, IsImage, Struck, change, file_of, other, settled, synced}
use Rattle.outside_io.specs.Present.{IsSoundDisk, only_settled}

synced_image : (f : File) (c : List ℕ) → IsImage f f.now → IsImage (settled f.now) c → IsImage f c
synced_image f c here image = subst (IsImage f) (sym (only_settled f.now c image)) here

struck_synced : (file : VolFile) (d : Disk) → IsSoundDisk d → Struck file (λ f. f) d (change file synced d)
struck_synced Bundle d here = record { other = refl; images = λ c image. synced_image d.bundle c here.bundle.present image }
struck_synced Journal d here = record { other = refl; images = λ c image. synced_image d.journal c here.journal.present image }

-- a call that changes nothing
pub struck_same : (file : VolFile) (old new : Disk) → new ≡ old → Struck file (λ f. f) old new
struck_same file old new is = record { other = ap (file_of (other file)) is; images = λ c image. subst (λ (d : Disk). IsImage (file_of file d) c) is image }

-- a sync, whether it answers Ok or changes nothing
pub struck_sync : {T E : Type 0} (file : VolFile) (old new : Disk) (r : Result T E) → IsSoundDisk old → OnOk r (new ≡ change file synced old) → OnErr r (new ≡ old) → Struck file (λ f. f) old new
struck_sync file old new (Ok x) here ok err = subst (Struck file (λ f. f) old) (sym ok) (struck_synced file old here)
struck_sync file old new (Err e) here ok err = struck_same file old new err
