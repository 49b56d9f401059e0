-- Words that are written piece by piece.
use Rattle.std.proofs.Common.{◌≡◌, ℕ, ◌+◌, ◌*◌, ◌/◌, ◌<◌, ◌≤◌, Bool, List, [], ◌++◌, length, get_or, refl, sym, ap, ◌∙◌, subst, arith}
use Rattle.std.proofs.lemmas.List.{ext_get_or, get_or-map, length-append, length-map}
use Rattle.std.proofs.lemmas.Nat.{pow_pos}
use Rattle.std.proofs.Math.Nat.{mod-lt}
use Rattle.huff_codes.specs.Bits.{bits_of}
use Rattle.huff_codes.specs.Codes.{code_at}
use Rattle.huff_codes.specs.Words.{joined_codes, word_count}
use Rattle.huff_codes.specs.Written.{AreWritten, IsFilled, written_size}
use Rattle.huff_codes.specs.Pieces.{Writing, AreBegun, HasRoom}
use Rattle.huff_codes.specs.declared.codes.Code.{Code}
use Rattle.huff_codes.specs.declared.words.word_pairs.CodeNumber.{CodeNumber}
use Rattle.huff_codes.specs.inside.Filling.{IsLoose, IsNumbered, no_number}
use Rattle.huff_codes.specs.inside.Begun.{numbered_codes, AreNumbers, writing_of}
use Rattle.huff_codes.specs.inside.Stored.{codes_held}
use Rattle.huff_codes.proofs.Held.{length-held}
use Rattle.huff_codes.proofs.Filling.{pending_none}
use Rattle.huff_codes.proofs.Pushing.{loose_bits}
use Rattle.huff_codes.proofs.Reading.{joined_codes-append}

-- ---- the codes of numbers

numbered-at : (numbers : List CodeNumber) (s : ℕ) → s < length numbers → code_at (numbered_codes numbers) s ≡ bits_of (get_or numbers s no_number).length (get_or numbers s no_number).number
unfolding numbered_codes
numbered-at numbers s lt = get_or-map (λ (c : CodeNumber). bits_of c.length c.number) numbers s no_number [] lt

length-numbered : (numbers : List CodeNumber) → length (numbered_codes numbers) ≡ length numbers
unfolding numbered_codes
length-numbered numbers = length-map numbers (λ (c : CodeNumber). bits_of c.length c.number)

pub numbered_held : (numbers : List CodeNumber) (cs : List Code) → length numbers ≡ 256 → length cs ≡ 256 → ((s : ℕ) → s < 256 → IsNumbered (code_at (codes_held cs) s) (get_or numbers s no_number)) → numbered_codes numbers ≡ codes_held cs
numbered_held numbers cs size held each =
    ext_get_or [] (numbered_codes numbers) (codes_held cs) (length-numbered numbers ∙ size ∙ sym held ∙ sym (length-held cs))
    (λ s lt. let below : s < 256 = (let long = length-numbered numbers in omega (arith, lt, long, size)) in
    numbered-at numbers s (omega (arith, below, size)) ∙ (each s below).same)

pub are_numbers : (numbers : List CodeNumber) (cs : List Code) → length numbers ≡ 256 → length cs ≡ 256 → ((s : ℕ) → s < 256 → IsNumbered (code_at (codes_held cs) s) (get_or numbers s no_number)) → AreNumbers numbers
are_numbers numbers cs size held each = record {
  size = size;
  each = λ s lt. subst (λ (codes : List (List Bool)). IsNumbered (code_at codes s) (get_or numbers s no_number)) (sym (numbered_held numbers cs size held each)) (each s lt);
}

-- ---- what a writer holds

pub begun_loose : (w : Writing) (numbers : List CodeNumber) (held count at : ℕ) (out symbols : List ℕ) → writing_of numbers held count at ≡ w → count < 32 → AreBegun w out symbols → IsLoose (joined_codes (numbered_codes numbers) symbols) out held count at
unfolding writing_of
begun_loose w numbers held count at out symbols is few h =
    let b : AreBegun (writing_of numbers held count at) out symbols = subst (λ (v : Writing). AreBegun v out symbols) (sym is) h in record {
      words = b.words;
      whole = b.whole;
      within = b.within;
      few = few;
      low = mod-lt held (pow_pos count);
      same = b.same;
    }

pub loose_begun : (numbers : List CodeNumber) (held count at : ℕ) (out symbols : List ℕ) → IsLoose (joined_codes (numbered_codes numbers) symbols) out held count at → AreBegun (writing_of numbers held count at) out symbols
unfolding writing_of
loose_begun numbers held count at out symbols h = record { words = h.words; whole = h.whole; within = h.within; same = h.same }

pub codes_same : (w : Writing) (numbers : List CodeNumber) (held count at : ℕ) → writing_of numbers held count at ≡ w → numbered_codes numbers ≡ w.codes
unfolding writing_of
codes_same w numbers held count at is = ap (λ (v : Writing). v.codes) is

pub codes_kept : (numbers : List CodeNumber) (held count at : ℕ) → (writing_of numbers held count at).codes ≡ numbered_codes numbers
unfolding writing_of
codes_kept numbers held count at = refl

pub none_begun : (numbers : List CodeNumber) (out : List ℕ) → AreBegun (writing_of numbers 0 0 0) out []
none_begun numbers out = loose_begun numbers 0 0 0 out [] (pending_none (numbered_codes numbers) out)

-- the room that the words of a piece need
pub piece_room : (w : Writing) (numbers : List CodeNumber) (held count at : ℕ) (out symbols : List ℕ) → writing_of numbers held count at ≡ w → count < 32 → HasRoom w out symbols
    → 8 * at + count + length (joined_codes (numbered_codes numbers) symbols) + 32 ≤ 8 * length out
piece_room w numbers held count at out symbols is few (before, (h, fits)) =
    let codes = numbered_codes numbers in
    let bits = loose_bits (joined_codes codes before) out held count at (begun_loose w numbers held count at out before is few h) in
    let both = ap length (joined_codes-append codes before symbols) in
    let long = length-append (joined_codes codes before) (joined_codes codes symbols) in
    let same : written_size codes (before ++ symbols) ≡ written_size w.codes (before ++ symbols) = ap (λ (cs : List (List Bool)). written_size cs (before ++ symbols)) (codes_same w numbers held count at is) in
    omega (arith, bits, both, long, same, fits)

pub piece_begun : (w : Writing) (numbers : List CodeNumber) (held count at held2 count2 at2 : ℕ) (out new symbols before : List ℕ) → writing_of numbers held count at ≡ w → count < 32
    → ((bits : List Bool) → IsLoose bits out held count at → IsLoose (bits ++ joined_codes (numbered_codes numbers) symbols) new held2 count2 at2) → AreBegun w out before → AreBegun (writing_of numbers held2 count2 at2) new (before ++ symbols)
piece_begun w numbers held count at held2 count2 at2 out new symbols before is few on h =
    let codes = numbered_codes numbers in
    loose_begun numbers held2 count2 at2 new (before ++ symbols)
    (subst (λ (bits : List Bool). IsLoose bits new held2 count2 at2) (sym (joined_codes-append codes before symbols)) (on (joined_codes codes before) (begun_loose w numbers held count at out before is few h)))

-- ---- the end

pub end_room : (w : Writing) (numbers : List CodeNumber) (held count at : ℕ) (out symbols : List ℕ) → writing_of numbers held count at ≡ w → count < 32 → AreBegun w out symbols → length out ≡ written_size w.codes symbols → 8 * at + count ≤ 8 * length out
end_room w numbers held count at out symbols is few h size =
    let codes = numbered_codes numbers in
    let bits = loose_bits (joined_codes codes symbols) out held count at (begun_loose w numbers held count at out symbols is few h) in
    let same : written_size codes symbols ≡ written_size w.codes symbols = ap (λ (cs : List (List Bool)). written_size cs symbols) (codes_same w numbers held count at is) in
    omega (arith, bits, same, size)

-- two lists that are begun so have the same bits, and so the same size
pub end_written : (w : Writing) (numbers : List CodeNumber) (held count at : ℕ) (out new one symbols : List ℕ) → writing_of numbers held count at ≡ w → count < 32 → AreBegun w out one → length out ≡ written_size w.codes one
    → ((bits : List Bool) → IsLoose bits out held count at → IsFilled (length out / 4) bits new) → AreBegun w out symbols → AreWritten w.codes symbols new
end_written w numbers held count at out new one symbols is few h size filled other =
    let codes = numbered_codes numbers in
    let same : joined_codes w.codes one ≡ joined_codes w.codes symbols = h.same ∙ sym other.same in
    let words : length out / 4 ≡ word_count (length (joined_codes w.codes symbols)) + 1 = (let e = ap length same in omega (arith, size, e)) in
    let all = filled (joined_codes codes symbols) (begun_loose w numbers held count at out symbols is few other) in
    subst (λ n. IsFilled n (joined_codes w.codes symbols) new) words
    (subst (λ (cs : List (List Bool)). IsFilled (length out / 4) (joined_codes cs symbols) new) (codes_same w numbers held count at is) all)
