-- Marks in bytes that someone else keeps.
use Rattle.std.proofs.Common.{◌≡◌, ℕ, true, List, replicate, cond, ap, length, ◌∙◌, ⊎_elim, sym, ◌<◌, arith, ◌≤◌, Bool, false, get_or}
use Rattle.std.proofs.lemmas.Bool.{eq-eqb, ne_eqb, cases_eq, cases_lt}
use Rattle.std.proofs.lemmas.List.{length-replicate, get_or_past, ext_get_or, get_or-replicate}
use Rattle.std.specs.Prelude.{count_by}
use Rattle.raster_cells.specs.Masks.{marks_in, mask_bit}
use Rattle.raster_cells.specs.LentMask.{marks_with, AreMarksWith, AreBits}
use Rattle.raster_cells.proofs.MaskBits.{length-marks_in, count_of_all, get_or-marks_in}
use Rattle.raster_cells.proofs.MaskCounts.{all_set}

pub all_with : (count valid : ℕ) (bytes : List ℕ) → valid ≡ count → marks_with count valid bytes ≡ replicate count true
all_with count valid bytes same = ap (λ b. cond b (replicate count true) (marks_in count bytes)) (eq-eqb valid count same)

pub some_with : (count valid : ℕ) (bytes : List ℕ) → (valid ≡ count → ⊥) → marks_with count valid bytes ≡ marks_in count bytes
some_with count valid bytes other = ap (λ b. cond b (replicate count true) (marks_in count bytes)) (ne_eqb valid count other)

pub length-marks_with : (count valid : ℕ) (bytes : List ℕ) → length (marks_with count valid bytes) ≡ count
length-marks_with count valid bytes =
    ⊎_elim
    (λ (same : valid ≡ count). ap length (all_with count valid bytes same) ∙ length-replicate count true)
    (λ (other : valid ≡ count → ⊥). ap length (some_with count valid bytes other) ∙ length-marks_in count bytes)
    (cases_eq valid count)

pub count_with : (count valid : ℕ) (bytes : List ℕ) → AreMarksWith count valid bytes → count_by (λ m. m) (marks_with count valid bytes) ≡ valid
count_with count valid bytes h =
    ⊎_elim
    (λ (same : valid ≡ count). ap (count_by (λ m. m)) (all_with count valid bytes same) ∙ count_of_all count ∙ sym same)
    (λ (other : valid ≡ count → ⊥). ap (count_by (λ m. m)) (some_with count valid bytes other) ∙ sym (h.bits other).counted)
    (cases_eq valid count)

-- where not every pixel is marked the bits are looked at
pub not_all : (count valid : ℕ) (bytes : List ℕ) → AreMarksWith count valid bytes → count_by (λ m. m) (marks_with count valid bytes) < length (marks_with count valid bytes) → valid ≡ count → ⊥
not_all count valid bytes h few same = omega (arith, few, same, count_with count valid bytes h, length-marks_with count valid bytes)

-- bits that say the marks, and further ones that are 0
pub bits_of : (n : ℕ) (mask : List ℕ) (marks : List Bool) → marks_in n mask ≡ marks → ((k : ℕ) → n ≤ k → mask_bit mask k ≡ false) → (k : ℕ) → mask_bit mask k ≡ get_or marks k false
bits_of n mask marks is spare k =
    ⊎_elim
    (λ (lt : k < n). sym (get_or-marks_in n mask k lt) ∙ ap (λ (ms : List Bool). get_or ms k false) is)
    (λ (ge : n ≤ k). spare k ge ∙ sym (get_or_past marks k false (omega (arith, ge, ap length is, length-marks_in n mask))))
    (cases_lt k n)

-- bits that are there are the marks
pub bits_with : (count valid : ℕ) (bytes : List ℕ) → AreBits count valid bytes → marks_with count valid bytes ≡ marks_in count bytes
bits_with count valid bytes h =
    ⊎_elim
    (λ (same : valid ≡ count).
    all_with count valid bytes same
    ∙ sym (whole (marks_in count bytes) count (length-marks_in count bytes) (sym h.counted ∙ same)))
    (λ (other : valid ≡ count → ⊥). some_with count valid bytes other)
    (cases_eq valid count)
  where
    whole : (ms : List Bool) (n : ℕ) → length ms ≡ n → count_by (λ m. m) ms ≡ n → ms ≡ replicate n true
    whole ms n long all =
        ext_get_or false ms (replicate n true) (long ∙ sym (length-replicate n true)) (λ k below.
        all_set ms k (all ∙ sym long) below ∙ sym (get_or-replicate n k true false (omega (arith, below, long))))
