-- The checksum of a blob's bytes, by one closed sum for each group of words.
use Rattle.std.specs.Prelude.{ℕ, ◌+◌, ◌*◌, ◌/◌, ◌%◌, ◌^◌, ◌-◌, zero, suc, List, [], ◌∷◌, length, take, drop, sum, slice_index, if◌then◌else◌, nat_eq, bit_or}

-- each pair of bytes is a word, the higher byte first; an odd last byte is no word
abbrev pub words : List ℕ → List ℕ
words [] = []
words (a ∷ []) = []
words (a ∷ b ∷ bytes) = (256 * a + b) ∷ words bytes

-- of the n words w, the sum of (n - i) * w[i], i from 0
abbrev pub weighted : List ℕ → ℕ
weighted [] = 0
weighted (w ∷ ws) = (length ws + 1) * w + weighted ws

-- the upper bits of a sum added to its lower 16
abbrev pub folded : ℕ → ℕ
folded s = s % 65536 + s / 65536

-- the two running sums
pub record Sums : Type 0 where
  pub first : ℕ
  pub second : ℕ

-- the sums after a group of n words: the first takes their sum; the second takes the first n
-- times, and the word at i, which the first has from then on, n - i times
abbrev pub after_group : Sums → List ℕ → Sums
after_group s ws = record {
  first = folded (s.first + sum ws);
  second = folded (s.second + length ws * s.first + weighted ws);
}

-- the sums after n groups of 359 words, of which the last may be shorter
abbrev pub after_groups : ℕ → Sums → List ℕ → Sums
after_groups zero s ws = s
after_groups (suc n) s ws = after_groups n (after_group s (take 359 ws)) (drop 359 ws)

-- the sums after all groups, the fewest that hold all words; both begin at 65535
abbrev pub groups_of : List ℕ → Sums
groups_of bytes =
    after_groups ((length bytes / 2 + 358) / 359) (record { first = 65535; second = 65535 })
    (words bytes)

-- an odd last byte counts as a word of the byte times 256, behind all groups
abbrev pub after_last : Sums → List ℕ → Sums
after_last s bytes = if nat_eq (length bytes % 2) 0 then s else
    record {
      first = s.first + 256 * slice_index bytes (length bytes - 1);
      second = s.second + (s.first + 256 * slice_index bytes (length bytes - 1));
    }

-- each sum is folded once more; the first is the lower half of the checksum, the second the upper
abbrev pub joined : Sums → ℕ
joined s = bit_or ((folded s.second * 65536) % 2 ^ 32) (folded s.first)

-- the checksum
abbrev pub sum_of : List ℕ → ℕ
sum_of bytes = joined (after_last (groups_of bytes) bytes)
