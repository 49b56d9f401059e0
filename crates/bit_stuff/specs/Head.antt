-- The head of a list: a byte of its form, and the count of its numbers.
use Rattle.std.specs.Prelude.{ℕ, ◌≡◌, ◌+◌, ◌*◌, ◌/◌, ◌%◌, ◌<◌, ◌≤◌, ◌↔◌, ◌==◌, nat_le, Bool, IsTrue}
use Rattle.std.specs.Prelude.{List, ◌∷◌, length, drop, slice_index, if◌then◌else◌}
use Rattle.byteorder.specs.Endian.{little_number, little_bytes}
use Rattle.bit_stuff.specs.declared.heads.ListHead.{ListHead}
use Rattle.bit_stuff.specs.declared.heads.ListReason.{ListReason}
use Rattle.bit_stuff.specs.declared.heads.ListReason.TheVariants.{Cut, BadHead, BadCount, BadTable}
use Rattle.first_fault.specs.Faults.{Faults, none, wrong, unless}

-- the first byte: bits 0 to 4 are the width, bit 5 is set in the table form, bits 6 and 7 are the
-- code of the count's size
abbrev pub head_byte : List ℕ → ℕ
head_byte bytes = slice_index bytes 0

abbrev pub width_bits : List ℕ → ℕ
width_bits bytes = head_byte bytes % 32

abbrev pub table_bit : List ℕ → ℕ
table_bit bytes = head_byte bytes / 32 % 2

abbrev pub size_code : List ℕ → ℕ
size_code bytes = head_byte bytes / 64

-- how many bytes the count takes: code 0 is u32, 1 is u16, 2 is u8
abbrev pub count_size : ℕ → ℕ
count_size code = if code == 0 then 4 else (if code == 1 then 2 else 1)

-- the count stands after the first byte
abbrev pub count_at : List ℕ → ℕ
count_at bytes = little_number (count_size (size_code bytes)) (drop 1 bytes)

-- the first byte is there, its code is none that has no meaning, and a table has a width
pub record HasForm (bytes : List ℕ) : Type 0 where
  pub there : 0 < length bytes
  pub code : size_code bytes < 3
  pub table : table_bit bytes ≡ 1 → 0 < width_bits bytes

-- the bytes begin with this head, which takes so many of them
pub record IsListHead (bytes : List ℕ) (head : ListHead) (taken : ℕ) : Type 0 where
  pub form : HasForm bytes
  pub width : head.width ≡ width_bits bytes
  pub table : IsTrue head.table ↔ (table_bit bytes ≡ 1)
  pub count : head.count ≡ count_at bytes
  pub size : taken ≡ 1 + count_size (size_code bytes)
  pub within : taken ≤ length bytes

-- The faults of a head of `want` numbers, in the order of the tests. The count: it is there, and it
-- is the wanted one.
abbrev pub list_count_faults : ℕ → List ℕ → Faults ListReason
list_count_faults want bytes =
    unless (1 + count_size (size_code bytes) ≤ length bytes) (wrong Cut 1)
    (unless (count_at bytes ≡ want) (wrong BadCount 1) none)

-- the size code has a meaning, and a table has a width
abbrev pub list_form_faults : ℕ → List ℕ → Faults ListReason
list_form_faults want bytes =
    unless (size_code bytes < 3) (wrong BadHead 0)
    (unless (table_bit bytes ≡ 1 → 0 < width_bits bytes) (wrong BadTable 0)
    (list_count_faults want bytes))

-- the first byte is there, and what it says is right
abbrev pub list_head_faults : ℕ → List ℕ → Faults ListReason
list_head_faults want bytes = unless (0 < length bytes) (wrong Cut 0) (list_form_faults want bytes)

-- the bytes are the head of a list of n numbers, and no more
abbrev pub IsListHeadOf : ℕ → List ℕ → ListHead → Type 0
IsListHeadOf n bytes head = IsListHead bytes head (length bytes) × (head.count ≡ n)

-- the code of the smallest size that holds the count: u8 up to 255, u16 up to 65,535, else u32
abbrev pub chosen_code : ℕ → ℕ
chosen_code count = if nat_le count 255 then 2 else (if nat_le count 65535 then 1 else 0)

-- how many bytes the written head of a list of `count` numbers takes
abbrev pub head_size : ℕ → ℕ
head_size count = 1 + count_size (chosen_code count)

abbrev pub table_flag : Bool → ℕ
table_flag table = if table then 1 else 0

-- the head that is written: its first byte, and the count in as few bytes as hold it
unfoldable pub list_head_bytes : ℕ → Bool → ℕ → List ℕ
list_head_bytes width table count =
    (width + 32 * table_flag table + 64 * chosen_code count)
    ∷ little_bytes (count_size (chosen_code count)) count
