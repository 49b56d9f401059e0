-- How long each form of a block is, by numbers alone.
use Rattle.std.specs.Prelude.{◌≡◌, ℕ, ℤ, ◌+◌, ◌*◌, ◌^◌, ◌≤◌, ◌⊎◌, not, ◌&&◌, nat_eq, nat_lt}
use Rattle.std.specs.Prelude.{unsigned_abs, List, [], ◌∷◌}
use Rattle.std.specs.Prelude.{Option, Some, None, length, if◌then◌else◌}
use Rattle.std.specs.Option.{option_map}
use Rattle.raster_cells.specs.declared.kind.PixelType.{PixelType}
use Rattle.raster_cells.specs.PixelType.{bytes_of}
use Rattle.bit_stuff.specs.Stuffed.{stuffed_size}
use Rattle.bit_stuff.specs.Head.{head_size}
use Rattle.bit_stuff.specs.Simple.{binary_digits, greatest_number}
use Rattle.lut_stuff.specs.Tables.{table_size}
use Rattle.micro_block.specs.Fewest.{allowed, IsFirstLeast}
use Rattle.micro_block.specs.declared.choosing.Chosen.{Chosen}
use Rattle.micro_block.specs.inside.Forms.{form_at}
use Rattle.micro_block.specs.ChosenBlock.{narrow_type, quantised_values}
use Rattle.micro_block.specs.ChosenBlock.{is_flat, is_stuffable}

-- the length of the list in the table form, where it may stand
abbrev pub tabled_size : ℕ → List ℤ → Option ℕ
tabled_size step values =
    if not (is_flat step values) && is_stuffable step values
    then table_size (quantised_values step values) else None

-- what is found of the table form: the length of its list, or nothing where that is no shorter than
-- in the simple form
abbrev pub IsTabledLength : ℕ → List ℤ → Option ℕ → Type 0
IsTabledLength step values found =
    (found ≡ tabled_size step values)
    ⊎ ((found ≡ None) × ((n : ℕ) → tabled_size step values ≡ Some n →
    head_size (length values)
    + stuffed_size (length values) (binary_digits (greatest_number (quantised_values step values)))
    ≤ n))

-- how long the table form is, where its list takes so many bytes
abbrev pub table_form : PixelType → ℤ → ℕ → ℕ
table_form kind least k = 1 + (bytes_of (narrow_type kind least) + k)

-- n values whose least is this one, whose greatest quantised value is `most`, and whose list takes
-- so many bytes in the table form
abbrev pub closed_sizes : PixelType → ℕ → ℤ → ℕ → Option ℕ → List (Option ℕ)
closed_sizes kind n least most tabled =
    allowed (nat_eq most 0 && nat_eq (unsigned_abs least) 0) 1
    ∷ allowed (nat_eq most 0 && nat_lt 0 n) (1 + bytes_of (narrow_type kind least))
    ∷ Some (1 + n * bytes_of kind)
    ∷ allowed (not (nat_eq most 0) && nat_lt most (2 ^ 30))
    (1 + (bytes_of (narrow_type kind least) + (head_size n + stuffed_size n (binary_digits most))))
    ∷ option_map (table_form kind least) tabled ∷ []

-- what is chosen of so many values by these sizes
abbrev pub IsFirst : PixelType → ℕ → ℤ → ℕ → Option ℕ → Chosen → Type 0
IsFirst kind n least most tabled c =
    (place : ℕ) × ((c.form ≡ form_at place)
    × IsFirstLeast (λ m. m) (closed_sizes kind n least most tabled) place c.size)
