-- What is the first fault of bytes that should begin with a list of n numbers, and its place from
-- the first of them: the tests in their order, each with the fault that it is where it fails.
use Rattle.std.specs.Prelude.{ℕ, ◌-◌, ◌<◌, ◌≤◌, List, length, slice_index, take, drop, IsTrue}
use Rattle.first_fault.specs.Faults.{Faults, none, wrong, choice, unless, moved, in_order}
use Rattle.bit_stuff.specs.declared.heads.ListHead.{ListHead}
use Rattle.bit_stuff.specs.declared.heads.ListReason.{ListReason}
use Rattle.bit_stuff.specs.declared.heads.ListReason.TheVariants.{Cut, BadTable, BadIndex}
use Rattle.bit_stuff.specs.Head.{IsListHeadOf, list_head_faults}
use Rattle.bit_stuff.specs.Simple.{binary_digits}
use Rattle.bit_stuff.specs.Stuffed.{field_at, number_of_bytes, stuffed_size}

-- the numbers: so many of so many bits are there
abbrev pub data_faults : ℕ → ℕ → List ℕ → Faults ListReason
data_faults n width rest = unless (stuffed_size n width ≤ length rest) (wrong Cut 0) none

-- each of the first n numbers of so many bits is at most the greatest index
abbrev pub AreIndexes : ℕ → ℕ → List ℕ → Type 0
AreIndexes n most bytes =
    (i : ℕ) → i < n → field_at (binary_digits most) (number_of_bytes bytes) i ≤ most

-- the indexes: they are there, and none is above the greatest
abbrev pub index_faults : ℕ → ℕ → List ℕ → Faults ListReason
index_faults n most rest =
    unless (stuffed_size n (binary_digits most) ≤ length rest) (wrong Cut 0)
    (unless (AreIndexes n most (take (stuffed_size n (binary_digits most)) rest))
    (wrong BadIndex 0) none)

-- the entries: they are there, and the indexes behind them are right
abbrev pub entry_faults : ℕ → ℕ → ℕ → List ℕ → Faults ListReason
entry_faults n width most rest =
    unless (stuffed_size most width ≤ length rest) (wrong Cut 0)
    (moved (stuffed_size most width) (index_faults n most (drop (stuffed_size most width) rest)))

-- the number of entries: it is at least 2
abbrev pub size_faults : ℕ → ℕ → ℕ → List ℕ → Faults ListReason
size_faults n width size rest =
    unless (2 ≤ size) (wrong BadTable 0) (moved 1 (entry_faults n width (size - 1) rest))

-- the table: its first byte is there, and what it says is right
abbrev pub list_table_faults : ℕ → ℕ → List ℕ → Faults ListReason
list_table_faults n width rest =
    unless (0 < length rest) (wrong Cut 0) (size_faults n width (slice_index rest 0) (drop 1 rest))

-- what follows the head
abbrev pub list_body_faults : ℕ → ListHead → List ℕ → Faults ListReason
list_body_faults n head rest =
    choice (IsTrue head.table) (list_table_faults n head.width rest) (data_faults n head.width rest)

-- the first fault of a list of n numbers
unfoldable pub list_faults : ℕ → List ℕ → Faults ListReason
list_faults n = in_order (IsListHeadOf n) (list_head_faults n) (list_body_faults n)
