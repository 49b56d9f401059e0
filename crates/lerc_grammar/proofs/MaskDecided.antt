-- All bytes have a mask in front or a first fault of one.
use Rattle.std.proofs.Common.{◌≡◌, ℕ, ℤ, pos, negsuc, ◌+◌, ◌≤◌, ◌≤ℤ◌, Bool, true, false, cond, List, length, take, drop, replicate, Option, None, Some, refl, sym, ap, ◌∙◌, subst, arith, ◌⊎◌, inl, inr}
use Rattle.std.proofs.lemmas.Int.{ints}
use Rattle.std.proofs.lemmas.List.{length-drop, length-take-le, take-append-drop, drop-take}
use Rattle.first_fault.specs.Faults.{Faults, none, wrong, choice, moved}
use Rattle.first_fault.specs.Parts.{AreBytes, InFront, HasFault, IsDecided}
use Rattle.first_fault.proofs.Decided.{decided_unless}
use Rattle.mask_runs.specs.Runs.{Runs}
use Rattle.mask_runs.proofs.Decided.{RunsOrFault, runs_decided}
use Rattle.raster_cells.specs.Masks.{marks_in}
use Rattle.lerc_header.specs.Head.{i32_at}
use Rattle.lerc_header.specs.declared.fault.BlobReason.{BlobReason}
use Rattle.lerc_header.specs.declared.fault.BlobReason.TheVariants.{BadMaskLength, BadMaskCount, BadRun, MaskMissing, PastEnd}
use Rattle.lerc_grammar.specs.Mask.{IsMaskAfter, alike, mixed, previous, count_before, taken_faults, IsAlike, IsMaskLength, mask_size, count_of, runs_faults, in_mask_of, mask_faults}
use Rattle.lerc_grammar.proofs.Bytes.{all_bytes, bytes_in_take, bytes_in_drop}
use Rattle.lerc_grammar.proofs.Cases.{Decided, decide_le, decide_nat, decide_int, decide_or, some_nat, its_fault, or_moved, or_failing, or_holding}
use Rattle.lerc_header.proofs.Fronts.{i32_front}
use Rattle.lerc_grammar.proofs.Masks.{length_faults, mixed_faults, counted_faults}

abbrev MaskOr : Option (List Bool) → ℕ → ℕ → List ℕ → Faults BlobReason → Type 0
MaskOr before pixels valid bytes faults = InFront (IsMaskAfter before pixels valid) bytes ⊎ HasFault faults

number_kept : (n : ℕ) (bytes : List ℕ) → 4 ≤ n → n ≤ length bytes → i32_at (take n bytes) 0 ≡ i32_at bytes 0
number_kept n bytes four long =
    sym (i32_front (take n bytes) (drop n bytes) 0 (omega (arith, four, length-take-le n bytes long))) ∙ ap (λ (u : List ℕ). i32_at u 0) (take-append-drop n bytes)

which_alike : (pixels valid : ℕ) → IsAlike pixels valid → (mark : Bool) × (valid ≡ cond mark pixels 0)
which_alike pixels valid (inl e) = (false, e)
which_alike pixels valid (inr e) = (true, e)

-- no bytes behind the length
pub alike_stands : (before : Option (List Bool)) (pixels valid : ℕ) (bytes : List ℕ) (mark : Bool) → 4 ≤ length bytes → valid ≡ cond mark pixels 0 → i32_at bytes 0 ≡ pos 0 → IsMaskAfter before pixels valid (take 4 bytes) (replicate pixels mark)
alike_stands before pixels valid bytes mark long is number = alike mark is (length-take-le 4 bytes long) (number_kept 4 bytes (omega arith) long ∙ number) refl

-- runs behind it
pub mixed_stands : (before : Option (List Bool)) (pixels valid : ℕ) (bytes mask : List ℕ) (n : ℕ) → ¬ IsAlike pixels valid → i32_at bytes 0 ≡ pos n → 4 + n ≤ length bytes → Runs (take n (drop 4 bytes)) mask → length mask ≡ mask_size pixels
    → count_of (marks_in pixels mask) ≡ valid → IsMaskAfter before pixels valid (take (4 + n) bytes) (marks_in pixels mask)
mixed_stands before pixels valid bytes mask n other number long runs size count =
    let part = take (4 + n) bytes in
    let cut : length part ≡ 4 + n = length-take-le (4 + n) bytes long in
    let back : drop 4 part ≡ take n (drop 4 bytes) = drop-take 4 n bytes in
    mixed mask other (omega (arith, cut)) (number_kept (4 + n) bytes (omega arith) long ∙ number ∙ ap pos (let t : n ≡ length (drop 4 part) = omega (arith, cut, length-drop 4 part) in t))
    (subst (λ (u : List ℕ). Runs u mask) (sym back) runs) size refl count

in_alike : (before : Option (List Bool)) (pixels valid : ℕ) (bytes : List ℕ) → 4 ≤ length bytes → IsAlike pixels valid → i32_at bytes 0 ≡ pos 0 → InFront (IsMaskAfter before pixels valid) bytes
in_alike before pixels valid bytes long same number =
    let mark = which_alike pixels valid same in
    record { front = take 4 bytes; rest = drop 4 bytes; value = replicate pixels mark.0; joined = sym (take-append-drop 4 bytes); stands = alike_stands before pixels valid bytes mark.0 long mark.1 number }

in_mixed : (before : Option (List Bool)) (pixels valid : ℕ) (bytes mask : List ℕ) (n : ℕ) → ¬ IsAlike pixels valid → i32_at bytes 0 ≡ pos n → 4 + n ≤ length bytes → Runs (take n (drop 4 bytes)) mask → length mask ≡ mask_size pixels
    → count_of (marks_in pixels mask) ≡ valid → InFront (IsMaskAfter before pixels valid) bytes
in_mixed before pixels valid bytes mask n other number long runs size count =
    record { front = take (4 + n) bytes; rest = drop (4 + n) bytes; value = marks_in pixels mask; joined = sym (take-append-drop (4 + n) bytes); stands = mixed_stands before pixels valid bytes mask n other number long runs size count }

inside_decided : (before : Option (List Bool)) (pixels valid : ℕ) (bytes : List ℕ) (n : ℕ) → ¬ IsAlike pixels valid → i32_at bytes 0 ≡ pos n → 4 + n ≤ length bytes → AreBytes bytes → MaskOr before pixels valid bytes (runs_faults pixels valid (take n (drop 4 bytes)))
inside_decided before pixels valid bytes n other number long are = which (runs_decided (take n (drop 4 bytes)) (mask_size pixels) (all_bytes _ (bytes_in_take n (drop 4 bytes) (bytes_in_drop 4 bytes are))))
  where
    counted : (mask : List ℕ) → Runs (take n (drop 4 bytes)) mask → length mask ≡ mask_size pixels → Decided (count_of (marks_in pixels mask) ≡ valid) → MaskOr before pixels valid bytes (runs_faults pixels valid (take n (drop 4 bytes)))
    counted mask runs size (inl same) = inl (in_mixed before pixels valid bytes mask n other number long runs size same)
    counted mask runs size (inr differs) = inr (record { place = 0; reason = BadMaskCount valid (count_of (marks_in pixels mask)); fault = inr (mask, (runs, (size, inr (differs, (refl, refl))))) })

    which : RunsOrFault (take n (drop 4 bytes)) (mask_size pixels) → MaskOr before pixels valid bytes (runs_faults pixels valid (take n (drop 4 bytes)))
    which (inl (mask, (runs, size))) = counted mask runs size (decide_nat (count_of (marks_in pixels mask)) valid)
    which (inr (place, fault)) = inr (record { place = place; reason = BadRun; fault = inl (fault, refl) })

counted_decided : (before : Option (List Bool)) (pixels valid : ℕ) (bytes : List ℕ) → ¬ IsAlike pixels valid → pos 0 ≤ℤ i32_at bytes 0 → AreBytes bytes → MaskOr before pixels valid bytes (counted_faults pixels valid bytes)
counted_decided before pixels valid bytes other low are =
    let number = some_nat (i32_at bytes 0) low in
    let n = number.0 in
    numbered n number.1
    (decided_unless (4 + n ≤ length bytes) (wrong PastEnd 4) (moved 4 (runs_faults pixels valid (take n (drop 4 bytes)))) (decide_le (4 + n) (length bytes)) (its_fault PastEnd 4)
    (λ long. or_moved 4 (runs_faults pixels valid (take n (drop 4 bytes))) (inside_decided before pixels valid bytes n other number.1 long are)))
  where
    numbered : (n : ℕ) → i32_at bytes 0 ≡ pos n → MaskOr before pixels valid bytes (in_mask_of (runs_faults pixels valid) bytes n) → MaskOr before pixels valid bytes (counted_faults pixels valid bytes)
    numbered n is (inl there) = inl there
    numbered n is (inr w) = inr (record { place = w.place; reason = w.reason; fault = (n, (is, w.fault)) })

-- no runs: the mask is the one before
pub taken_stands : (marks : List Bool) (pixels valid : ℕ) (bytes : List ℕ) → 4 ≤ length bytes → ¬ IsAlike pixels valid → i32_at bytes 0 ≡ pos 0 → count_of marks ≡ valid → IsMaskAfter (Some marks) pixels valid (take 4 bytes) marks
taken_stands marks pixels valid bytes long other number same = previous other (length-take-le 4 bytes long) (number_kept 4 bytes (omega arith) long ∙ number) refl same

-- or it is not there
taken_decided : (before : Option (List Bool)) (pixels valid : ℕ) (bytes : List ℕ) → 4 ≤ length bytes → ¬ IsAlike pixels valid → i32_at bytes 0 ≡ pos 0 → MaskOr before pixels valid bytes (taken_faults (count_before before) valid)
taken_decided None pixels valid bytes long other number = inr (its_fault MaskMissing 0)
taken_decided (Some marks) pixels valid bytes long other number = counted (decide_nat (count_of marks) valid)
  where
    counted : Decided (count_of marks ≡ valid) → MaskOr (Some marks) pixels valid bytes (taken_faults (Some (count_of marks)) valid)
    counted (inl same) = inl (record { front = take 4 bytes; rest = drop 4 bytes; value = marks; joined = sym (take-append-drop 4 bytes); stands = taken_stands marks pixels valid bytes long other number same })
    counted (inr differs) = inr (record { place = 0; reason = BadMaskCount valid (count_of marks); fault = inr (differs, (refl, refl)) })

mixed_decided : (before : Option (List Bool)) (pixels valid : ℕ) (bytes : List ℕ) → 4 ≤ length bytes → ¬ IsAlike pixels valid → pos 0 ≤ℤ i32_at bytes 0 → AreBytes bytes → MaskOr before pixels valid bytes (mixed_faults (count_before before) pixels valid bytes)
mixed_decided before pixels valid bytes long other low are = which (decide_int (i32_at bytes 0) (pos 0))
  where
    which : Decided (i32_at bytes 0 ≡ pos 0) → MaskOr before pixels valid bytes (mixed_faults (count_before before) pixels valid bytes)
    which (inl e) = or_failing (¬ (i32_at bytes 0 ≡ pos 0)) (counted_faults pixels valid bytes) (taken_faults (count_before before) valid) (λ no_. no_ e) (taken_decided before pixels valid bytes long other e)
    which (inr no_) = or_holding (¬ (i32_at bytes 0 ≡ pos 0)) (counted_faults pixels valid bytes) (taken_faults (count_before before) valid) no_ (counted_decided before pixels valid bytes other low are)

decide_length : (pixels valid : ℕ) (z : ℤ) → Decided (IsAlike pixels valid) → Decided (IsMaskLength pixels valid z)
decide_length pixels valid z (inl same) = which (decide_int z (pos 0))
  where
    which : Decided (z ≡ pos 0) → Decided (IsMaskLength pixels valid z)
    which (inl e) = inl (omega (arith, ints, e), λ _. e)
    which (inr no_) = inr (λ w. no_ (w.1 same))
decide_length pixels valid (pos n) (inr other) = inl (omega (arith, ints), λ same. absurd (other same))
decide_length pixels valid (negsuc n) (inr other) = inr (λ w. absurd (omega (arith, ints, w.0)))

pub decide_alike : (pixels valid : ℕ) → Decided (IsAlike pixels valid)
decide_alike pixels valid = decide_or (valid ≡ 0) (valid ≡ pixels) (decide_nat valid 0) (decide_nat valid pixels)

pub mask_decided : (before : Option (List Bool)) (pixels valid : ℕ) → IsDecided (IsMaskAfter before pixels valid) (mask_faults (count_before before) pixels valid)
mask_decided before pixels valid bytes are =
    decided_unless (4 ≤ length bytes) (wrong PastEnd 0) (length_faults (count_before before) pixels valid bytes) (decide_le 4 (length bytes)) (its_fault PastEnd 0)
    (λ long. decided_unless (IsMaskLength pixels valid (i32_at bytes 0)) (wrong BadMaskLength 0) (choice (IsAlike pixels valid) none (mixed_faults (count_before before) pixels valid bytes))
    (decide_length pixels valid (i32_at bytes 0) (decide_alike pixels valid)) (its_fault BadMaskLength 0)
    (λ ok. which long ok (decide_alike pixels valid)))
  where
    which : 4 ≤ length bytes → IsMaskLength pixels valid (i32_at bytes 0) → Decided (IsAlike pixels valid) → MaskOr before pixels valid bytes (choice (IsAlike pixels valid) none (mixed_faults (count_before before) pixels valid bytes))
    which long ok (inl same) = inl (in_alike before pixels valid bytes long same (ok.1 same))
    which long ok (inr other) = or_failing (IsAlike pixels valid) none (mixed_faults (count_before before) pixels valid bytes) other (mixed_decided before pixels valid bytes long other ok.0 are)
