-- The marks of pixels as the bits of bytes.
use Rattle.std.specs.Prelude.{ℕ, Bool, List, ◌-◌, ◌/◌, ◌%◌, ◌^◌, get_or, nat_eq, map}
use Rattle.std.specs.List.{count_by, range_with_len}

-- how many marks are set
abbrev pub count_of : List Bool → ℕ
count_of marks = count_by (λ mark. mark) marks

-- bit number k of a mask, the highest of each byte first
abbrev pub mask_bit : List ℕ → ℕ → Bool
mask_bit mask k = nat_eq (get_or mask (k / 8) 0 / 2 ^ (7 - k % 8) % 2) 1

-- which of so many pixels the bits of a mask say to be valid: further bits are free
unfoldable pub marks_in : ℕ → List ℕ → List Bool
marks_in pixels mask = map (mask_bit mask) (range_with_len 0 pixels)
