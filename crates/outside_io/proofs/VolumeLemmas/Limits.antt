-- What a run of writes and cuts on one file can do to its images: some lengths, and some places that stay as they were synced.
use Rattle.std.proofs.Common.{◌≡◌, ◌⊎◌, inl, inr, ℕ, ◌+◌, ◌<◌, ◌≤◌, List, Result, length, get_or, sym, ◌∙◌, ap, subst, arith}
use Rattle.outside_io.specs.declared.volume.VolFile.{VolFile}
use Rattle.outside_io.specs.declared.volume.VolFile.TheVariants.{Bundle, Journal}
use Rattle.outside_io.specs.volume.Disk.{AreBytes, Disk, File, IsImage, HadLength, IsUntouched, IsSettled, Struck, change, file_of, other, laid, settled, shortened, wrote}
use Rattle.outside_io.specs.volume.History.{During, History, Ticks, current}
use Rattle.outside_io.proofs.VolumeLemmas.Moments.{started, goes_on}

-- bytes of an allowed length that are the old ones at the fixed places
pub record Allowed (base : List ℕ) (Length Fixed : ℕ → Type 0) (c : List ℕ) : Type 0 where
  pub size : Length (length c)
  pub bytes : (i : ℕ) → i < length c → i < length base → Fixed i → get_or c i 0 ≡ get_or base i 0
  pub octets : AreBytes c

-- a file whose images are allowed, as its ranges show
pub record Limits (base : List ℕ) (Length Fixed : ℕ → Type 0) (f : File) : Type 0 where
  pub base_is : f.base ≡ base
  pub base_size : Length (length base)
  pub lens : (n : ℕ) → HadLength f.lens n → Length n
  pub touched : (i : ℕ) → Fixed i → IsUntouched f.touched i

pub limits_settled : (base : List ℕ) (Length Fixed : ℕ → Type 0) → Length (length base) → Limits base Length Fixed (settled base)
limits_settled base Length Fixed here = record { base_is = λ i. base; base_size = here; lens = λ n had. absurd had; touched = λ i fixed. tt }

pub limits_wrote : (base : List ℕ) (Length Fixed : ℕ → Type 0) (f : File) (at : ℕ) (bytes : List ℕ) → Limits base Length Fixed f
    → ((n : ℕ) → length f.now ≤ n → n ≤ length (laid at bytes f.now) → Length n) → ((i : ℕ) → Fixed i → (i < at) ⊎ (at + length bytes ≤ i)) → Limits base Length Fixed (wrote at bytes f)
limits_wrote base Length Fixed f at bytes limits lens apart = record {
  base_is = limits.base_is;
  base_size = limits.base_size;
  lens = λ n had. elim had [ inl here ↦ lens n here.0 here.1 | inr before ↦ limits.lens n before ];
  touched = λ i fixed. (apart i fixed, limits.touched i fixed);
}

pub limits_shortened : (base : List ℕ) (Length Fixed : ℕ → Type 0) (f : File) (n : ℕ) → Limits base Length Fixed f → Length n → Limits base Length Fixed (shortened n f)
limits_shortened base Length Fixed f n limits here = record {
  base_is = limits.base_is;
  base_size = limits.base_size;
  lens = λ m had. elim had [ inl is ↦ subst Length (let e : n ≡ m = omega (arith, is.0, is.1) in e) here | inr before ↦ limits.lens m before ];
  touched = limits.touched;
}

pub limits_image : (base : List ℕ) (Length Fixed : ℕ → Type 0) (f : File) (c : List ℕ) → Limits base Length Fixed f → IsImage f c → Allowed base Length Fixed c
limits_image base Length Fixed f c limits image =
    let size : length f.base ≡ length base = ap length limits.base_is in record {
      size = elim image.size [ inl same ↦ subst Length (sym (same ∙ size)) limits.base_size | inr had ↦ limits.lens (length c) had ];
      bytes = λ i within old fixed. image.bytes i within (omega arith) (limits.touched i fixed) ∙ ap (λ (l : List ℕ). get_or l i 0) limits.base_is;
      octets = image.octets;
    }

-- the other file is as it was, and a crash leaves a file that is allowed
pub record Keeps (file : VolFile) (old : Disk) (Length Fixed : ℕ → Type 0) (now : Disk) : Type 0 where
  pub other : file_of (other file) now ≡ file_of (other file) old
  pub images : (c : List ℕ) → IsImage (file_of file now) c → Allowed (file_of file old).now Length Fixed c

-- a run of calls on the file that keeps within the limits
pub record Run (file : VolFile) (Length Fixed : ℕ → Type 0) (old now : History) : Type 0 where
  pub during : During (Keeps file (current old) Length Fixed) old now
  pub other : file_of (other file) (current now) ≡ file_of (other file) (current old)
  pub limits : Limits (file_of file (current old)).now Length Fixed (file_of file (current now))

pub run_start : (file : VolFile) (Length Fixed : ℕ → Type 0) (h : History) → IsSettled (file_of file (current h)) → Length (length (file_of file (current h)).now) → Run file Length Fixed h h
run_start file Length Fixed h still here =
    let base = (file_of file (current h)).now in
    let limits : Limits base Length Fixed (file_of file (current h)) = subst (Limits base Length Fixed) (sym still) (limits_settled base Length Fixed here) in
    record {
      during = started (Keeps file (current h) Length Fixed) h (record {
        other = λ i. file_of (other file) (current h);
        images = λ c image. limits_image base Length Fixed (file_of file (current h)) c limits image;
      });
      other = λ i. file_of (other file) (current h);
      limits = limits;
    }

-- one step more, whatever the call answers
pub run_during : {T E : Type 0} (file : VolFile) (Length Fixed : ℕ → Type 0) (old now next : History) (r : Result T E) (step : File → File) → Run file Length Fixed old now → Ticks now next r
    → Struck file step (current now) (current next) → Limits (file_of file (current old)).now Length Fixed (step (file_of file (current now))) → During (Keeps file (current old) Length Fixed) old next
run_during file Length Fixed old now next r step run tick struck limits =
    goes_on (Keeps file (current old) Length Fixed) old now next r run.during tick (record {
      other = struck.other ∙ run.other;
      images = λ c image. limits_image _ Length Fixed (step (file_of file (current now))) c limits (struck.images c image);
    })

pub file_of-change : (file : VolFile) (step : File → File) (d : Disk) → file_of file (change file step d) ≡ step (file_of file d)
file_of-change Bundle step d = λ i. step d.bundle
file_of-change Journal step d = λ i. step d.journal

-- one step more, which answers Ok
pub run_on : {T E : Type 0} (file : VolFile) (Length Fixed : ℕ → Type 0) (old now next : History) (r : Result T E) (step : File → File) → Run file Length Fixed old now → Ticks now next r
    → Struck file step (current now) (current next) → Limits (file_of file (current old)).now Length Fixed (step (file_of file (current now))) → current next ≡ change file step (current now) → Run file Length Fixed old next
run_on file Length Fixed old now next r step run tick struck limits is = record {
  during = run_during file Length Fixed old now next r step run tick struck limits;
  other = struck.other ∙ run.other;
  limits = subst (Limits (file_of file (current old)).now Length Fixed) (sym (ap (file_of file) is ∙ file_of-change file step (current now))) limits;
}
