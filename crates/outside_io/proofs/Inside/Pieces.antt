-- Pieces laid over a buffer.
use Rattle.std.proofs.Common.{◌≡◌, inl, inr, refl, ℕ, ◌+◌, ◌-◌, ◌<◌, ◌≤◌, min, max, List, [], ◌∷◌, ◌++◌, length, get_or, take, drop, sym, ◌∙◌, ap, arith}
use Rattle.std.proofs.lemmas.List.{places, get_or_default, get_or_past}
use Rattle.std.proofs.lemmas.Bool.{cases_lt}
use Rattle.std.proofs.lemmas.Bool.Decides.{nat_tests}
use borrow.Rule.Slice.PartMut.{put_mid}
use Rattle.outside_io.specs.volume.Sparse.{AllEndBy, byte_over, byte_at}

pub all_end_by : (a b : ℕ) (ps : List (ℕ × List ℕ)) → a ≤ b → AllEndBy a ps → AllEndBy b ps
all_end_by a b [] le ends = tt
all_end_by a b (p ∷ ps) le ends = (omega (arith, ends.0), all_end_by a b ps le ends.1)

pub over_before : (place i below : ℕ) (bytes : List ℕ) → i < place → byte_over place bytes i below ≡ below
over_before place i below bytes lt = grind (arith, nat_tests)

pub over_at : (place i below : ℕ) (bytes : List ℕ) → place ≤ i → byte_over place bytes i below ≡ get_or bytes (i - place) below
over_at place i below bytes ge = grind (arith, nat_tests)

pub laid_buf : (buf bytes part : List ℕ) (at place low high k : ℕ) → low ≡ max at place → high ≡ min (at + length buf) (place + length bytes) → low < high
    → part ≡ take ((low - place) + (high - low) - (low - place)) (drop (low - place) bytes) → k < length buf
    → get_or (put_mid (low - at) ((low - at) + (high - low) - (low - at)) buf part) k 0 ≡ byte_over place bytes (at + k) (get_or buf k 0)
laid_buf buf bytes part at place low high k low_is high_is some part_is within =
    let part_len : length part ≡ high - low = ap length part_is ∙ grind (arith, places) in
    elim (cases_lt (at + k) place) [
      | inl before ↦ (let same : get_or (put_mid (low - at) ((low - at) + (high - low) - (low - at)) buf part) k 0 ≡ get_or buf k 0 = grind (arith, places) in same) ∙ sym (over_before place (at + k) (get_or buf k 0) bytes before)
      | inr from ↦ elim (cases_lt (at + k - place) (length bytes)) [
        | inl in_bytes ↦
            (let there : get_or (put_mid (low - at) ((low - at) + (high - low) - (low - at)) buf part) k 0 ≡ get_or part (k - (low - at)) 0 = grind (arith, places) in there)
            ∙ ap (λ (l : List ℕ). get_or l (k - (low - at)) 0) part_is
            ∙ (let byte : get_or (take ((low - place) + (high - low) - (low - place)) (drop (low - place) bytes)) (k - (low - at)) 0 ≡ get_or bytes (at + k - place) 0 = grind (arith, places) in byte)
            ∙ get_or_default bytes (at + k - place) 0 (get_or buf k 0) in_bytes
            ∙ sym (over_at place (at + k) (get_or buf k 0) bytes from)
        | inr past ↦
            (let same : get_or (put_mid (low - at) ((low - at) + (high - low) - (low - at)) buf part) k 0 ≡ get_or buf k 0 = grind (arith, places) in same)
            ∙ sym (get_or_past bytes (at + k - place) (get_or buf k 0) past)
            ∙ sym (over_at place (at + k) (get_or buf k 0) bytes from)
      ]
    ]

-- nothing of the bytes lies in the buffer
pub apart_buf : (buf bytes : List ℕ) (at place k : ℕ) → min (at + length buf) (place + length bytes) ≤ max at place → k < length buf → get_or buf k 0 ≡ byte_over place bytes (at + k) (get_or buf k 0)
apart_buf buf bytes at place k none within = elim (cases_lt (at + k) place) [
  | inl before ↦ sym (over_before place (at + k) (get_or buf k 0) bytes before)
  | inr from ↦ sym (get_or_past bytes (at + k - place) (get_or buf k 0) (omega arith)) ∙ sym (over_at place (at + k) (get_or buf k 0) bytes from)
]

-- one piece more
pub byte_at-push : (ps : List (ℕ × List ℕ)) (p : ℕ × List ℕ) (i below : ℕ) → byte_at (ps ++ p ∷ []) i below ≡ byte_over p.0 p.1 i (byte_at ps i below)
byte_at-push [] p i below = refl
byte_at-push (q ∷ ps) p i below = byte_at-push ps p i (byte_over q.0 q.1 i below)
