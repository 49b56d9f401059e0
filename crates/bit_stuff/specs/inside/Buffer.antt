-- The state of writing stuffed bytes: `at` bytes are written, and `held` has the `used` bits above
-- them.
use Rattle.std.specs.Prelude.{ℕ, ◌+◌, ◌*◌, ◌^◌, ◌<◌, List, take}
use Rattle.bit_stuff.specs.Stuffed.{number_of_bytes}
use Rattle.bit_stuff.specs.declared.packing.Buffer.{Buffer}

-- the number that the first `at` bytes and the bits above them make
abbrev pub number_of_buffer : List ℕ → Buffer → ℕ
number_of_buffer out b = number_of_bytes (take b.at out) + 2 ^ (8 * b.at) * b.held

-- how many bits were taken so far
abbrev pub bits_of_buffer : Buffer → ℕ
bits_of_buffer b = 8 * b.at + b.used

-- `held` has no bit above the used ones, which are fewer than the limit
abbrev pub IsBuffer : Buffer → ℕ → Type 0
IsBuffer b limit = (b.held < 2 ^ b.used) × (b.used < limit)
