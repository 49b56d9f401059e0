-- Stuffed numbers: the fields of one large number, whose bytes stand lowest first.
use Rattle.std.specs.Prelude.{ℕ, ◌≡◌, ◌+◌, ◌*◌, ◌/◌, ◌%◌, ◌^◌, ◌<◌, ◌≤◌, List, [], ◌∷◌, length, slice_index}
use Rattle.byteorder.specs.Endian.{little_number, little_bytes}

-- the number that all the bytes make, the lowest first
unfoldable pub number_of_bytes : List ℕ → ℕ
number_of_bytes bytes = little_number (length bytes) bytes

-- field i of a number that is cut into fields of `width` bits, the lowest first
abbrev pub field_at : ℕ → ℕ → ℕ → ℕ
field_at width number i = number / 2 ^ (width * i) % 2 ^ width

-- k bytes hold so many bits, and no fewer bytes do
pub record IsLeastHolding (bits k : ℕ) : Type 0 where
  pub holds : bits ≤ 8 * k
  pub least : (m : ℕ) → bits ≤ 8 * m → k ≤ m

-- the least number of bytes that hold `count` numbers of `width` bits
abbrev pub stuffed_size : ℕ → ℕ → ℕ
stuffed_size count width = (count * width + 7) / 8

-- The bytes stand for the values: they are as few as hold them, and value i is field i of their
-- number. What the bits above the last field are is not said.
pub record IsStuffed (bytes : List ℕ) (width : ℕ) (values : List ℕ) : Type 0 where
  pub size : length bytes ≡ stuffed_size (length values) width
  pub fields : (i : ℕ) → i < length values →
      slice_index values i ≡ field_at width (number_of_bytes bytes) i

-- the bits above the last field are 0
abbrev pub HasClearSpareBits : List ℕ → ℕ → ℕ → Type 0
HasClearSpareBits bytes width count = number_of_bytes bytes < 2 ^ (width * count)

-- the number whose fields are the values, and nothing above them: the sum of v[i] * 2 ^ (width * i)
unfoldable pub number_of_values : ℕ → List ℕ → ℕ
number_of_values width [] = 0
number_of_values width (v ∷ values) = v + 2 ^ width * number_of_values width values

-- the bytes of that number: the stuffed bytes of the values whose spare bits are 0
unfoldable pub stuffed_bytes : ℕ → List ℕ → List ℕ
stuffed_bytes width values =
    little_bytes (stuffed_size (length values) width) (number_of_values width values)
