-- Images, for clients.
use Rattle.std.proofs.Common.{◌≡◌, inl, refl, ℕ, List, Option, subst, arith}
use Rattle.outside_io.specs.declared.volume.VolFile.{VolFile}
use Rattle.outside_io.specs.declared.volume.VolFile.TheVariants.{Bundle, Journal}
use Rattle.outside_io.specs.volume.Disk.{AreBytes, File, IsImage, IsQuiet, IsSettled, file_of, settled}
use Rattle.outside_io.specs.volume.History.{History, IsPresent, contents, current}
use Rattle.outside_io.specs.Present.{only_settled}
use Rattle.outside_io.specs.volume.Recorded.{first_record, history_of}
use Rattle.outside_io.specs.volume.Sparse.{SparseFile, sparse_bytes}

-- a file of which nothing is pending has one image, what a read gives
pub only_image : (f : File) (c : List ℕ) → IsSettled f → IsImage f c → c ≡ f.now
only_image f c still image = only_settled f.now c (subst (λ (g : File). IsImage g c) still image)

pub settled_image : (bytes : List ℕ) → AreBytes bytes → IsImage (settled bytes) bytes
settled_image bytes octets = record { size = inl refl; bytes = λ i within old untouched. refl; octets = octets }

-- what a read gives is an image
pub present_of : (file : VolFile) (h : History) → IsPresent h → IsImage (file_of file (current h)) (contents file h)
present_of Bundle h present = present.bundle h.moment (omega arith)
present_of Journal h present = present.journal h.moment (omega arith)

-- a volume in memory of which nothing has been asked
pub first_record_quiet : (bundle journal : SparseFile) (failing : List ℕ) (stop : Option ℕ) (calls room : ℕ) → IsQuiet (current (history_of (first_record bundle journal failing stop calls room)))
first_record_quiet bundle journal failing stop calls room = record { bundle = refl; journal = refl }

pub first_record_bundle : (bundle journal : SparseFile) (failing : List ℕ) (stop : Option ℕ) (calls room : ℕ) → contents Bundle (history_of (first_record bundle journal failing stop calls room)) ≡ sparse_bytes bundle
first_record_bundle bundle journal failing stop calls room = refl

pub first_record_journal : (bundle journal : SparseFile) (failing : List ℕ) (stop : Option ℕ) (calls room : ℕ) → contents Journal (history_of (first_record bundle journal failing stop calls room)) ≡ sparse_bytes journal
first_record_journal bundle journal failing stop calls room = refl
