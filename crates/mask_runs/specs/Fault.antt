-- The first place at which bytes are no runs of a mask of a given length.
use Rattle.std.specs.Prelude.{◌≡◌, ◌≢◌, ℕ, ◌+◌, ◌-◌, ◌<◌, ◌≤◌, ℤ, pos, negsuc, unsigned_abs, List, length, take, drop, slice_index}
use Rattle.mask_runs.specs.Runs.{number_in, AreJoinedRuns, Runs}

-- two bytes that stand for this count come first
abbrev pub HasRunCount : ℤ → List ℕ → Type 0
HasRunCount count rest =
    (2 ≤ length rest) × (number_in (slice_index rest 0) (slice_index rest 1) ≡ count)

-- the count of the end mark, -32768
abbrev pub end_count : ℤ
end_count = negsuc 32767

-- how many bytes follow a count: so many for a literal, one for a repeat
abbrev pub body_length : ℤ → ℕ
body_length (pos n) = n
body_length (negsuc n) = 1

-- What is wrong at a place where a run or the end mark should stand: `rest` are the bytes from
-- there on, and `room` is how many bytes of the mask are still to come.
pub data IsWrongRun (rest : List ℕ) (room : ℕ) : Type 0 where
  -- the count is cut
  count_cut : length rest < 2 → IsWrongRun rest room
  -- the count is 0
  count_zero : HasRunCount (pos 0) rest → IsWrongRun rest room
  -- the bytes of the run are cut
  run_cut : (count : ℤ) → count ≢ end_count → HasRunCount count rest
      → length rest < 2 + body_length count → IsWrongRun rest room
  -- the run would pass the mask's end
  past_end : (count : ℤ) → count ≢ end_count → HasRunCount count rest
      → room < unsigned_abs count → IsWrongRun rest room
  -- the end mark comes before the mask is full
  early_end : HasRunCount end_count rest → 0 < room → IsWrongRun rest room

-- The bytes go wrong at this place, as runs of a mask of n bytes, and at none before it.
pub data FirstRunFault (bytes : List ℕ) (n place : ℕ) : Type 0 where
  -- whole runs that fit in the mask stand before the place, and what should follow them is wrong
  in_run : (mask : List ℕ) → place ≤ length bytes → AreJoinedRuns (take place bytes) mask
      → length mask ≤ n → IsWrongRun (drop place bytes) (n - length mask)
      → FirstRunFault bytes n place
  -- runs of such a mask end before the place, and there is a byte after their end mark
  after_end : (mask : List ℕ) → place < length bytes → Runs (take place bytes) mask
      → length mask ≡ n → FirstRunFault bytes n place
