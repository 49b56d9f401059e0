-- Flags by their numbers, a bit for each: 64 in a word, the lowest bit first. And flags of groups,
-- one for so many numbers one behind the other.
use Rattle.std.specs.Prelude.{◌≡◌, ℕ, ◌*◌, ◌/◌, ◌%◌, List, get_or, length}
use Rattle.std.specs.Int.{bit_at}
use Rattle.lerc_encode.specs.declared.blocks.flags.Flags.{Flags}

-- flag number k is set
abbrev pub IsFlagged : List ℕ → ℕ → Type 0
IsFlagged flags k = bit_at (get_or flags (k / 64) 0) (k % 64) ≡ 1

-- the flag of number k's group is set
abbrev pub IsMarked : Flags → ℕ → Type 0
IsMarked flags k = IsFlagged flags.words.items (k / flags.group)

-- how many numbers there are flags for
unfoldable pub room_of : Flags → ℕ
room_of flags = 64 * length flags.words.items * flags.group
