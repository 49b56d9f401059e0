-- The form that is chosen, by its place and with what is known of it.
use Rattle.std.specs.Prelude.{◌≡◌, ℕ, ℤ, nat_eq, if◌then◌else◌, List, length}
use Rattle.raster_cells.specs.declared.kind.PixelType.{PixelType}
use Rattle.raster_cells.specs.PixelType.{InRange}
use Rattle.micro_block.specs.declared.choosing.BlockForm.{BlockForm}
use Rattle.micro_block.specs.declared.choosing.BlockForm.TheVariants.{Zero, Constant, Raw, Simple}
use Rattle.micro_block.specs.declared.choosing.BlockForm.TheVariants.{Table}
use Rattle.micro_block.specs.declared.choosing.Chosen.{Chosen}
use Rattle.micro_block.specs.ChosenBlock as chosen_block
use Rattle.micro_block.specs.ChosenBlock.{WrittenForm, May, least_value, chosen_form, block_bytes}

-- the form at a place in their order
abbrev pub form_at : ℕ → BlockForm
form_at place =
    if nat_eq place 0 then Zero
    else (if nat_eq place 1 then Constant
    else (if nat_eq place 2 then Raw else (if nat_eq place 3 then Simple else Table)))

-- the form of the definitions
abbrev pub named : BlockForm → WrittenForm
named Zero = chosen_block.zero
named Constant = chosen_block.constant
named Raw = chosen_block.raw
named Simple = chosen_block.simple
named Table = chosen_block.table

-- what is chosen for a block
pub record IsChosen (kind : PixelType) (col step : ℕ) (values : List ℤ) (c : Chosen) : Type 0 where
  pub form : named c.form ≡ chosen_form kind col step values
  pub size : length (block_bytes kind col step values) ≡ c.size
  pub may : May step values (named c.form)
  pub least : c.least ≡ least_value values
  pub fits : InRange kind c.least
