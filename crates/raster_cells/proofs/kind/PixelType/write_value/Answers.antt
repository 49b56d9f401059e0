use Rattle.std.proofs.Common.{◌≡◌, ℕ, List, ◌++◌, ap, sym, ◌∙◌, rules}
use Rattle.std.specs.Prelude.{ℤ}
use Rattle.byteorder.specs.Endian.{little_number}
use Rattle.raster_cells.specs.declared.kind.PixelType.{PixelType}
use Rattle.raster_cells.specs.PixelType.{bytes_of, value_of, value_bytes, InRange, Spells}
use Rattle.raster_cells.proofs.SpelledBack.{spelled_back}
use Rattle.raster_cells.proofs.kind.PixelType.write_value.Goals as goal

spelled : (kind : PixelType) (value : ℤ) (rest new : List ℕ) → InRange kind value
    → new ≡ value_bytes kind value ++ rest → Spells kind new value
spelled kind value rest new fits is =
    sym
    (ap (λ bytes. value_of kind (little_number (bytes_of kind) bytes)) is ∙ spelled_back kind value rest fits)

pub returns-in-I8-clause-bytes : goal.returns-in-I8-clause-bytes
returns-in-I8-clause-bytes c = search rules

pub returns-in-I8-clause-spelled : goal.returns-in-I8-clause-spelled
returns-in-I8-clause-spelled c =
    spelled c.args.self c.args.value _ _ c.requires.in_range (returns-in-I8-clause-bytes c)

pub returns-in-U8-clause-bytes : goal.returns-in-U8-clause-bytes
returns-in-U8-clause-bytes c = search rules

pub returns-in-U8-clause-spelled : goal.returns-in-U8-clause-spelled
returns-in-U8-clause-spelled c =
    spelled c.args.self c.args.value _ _ c.requires.in_range (returns-in-U8-clause-bytes c)

pub returns-in-I16-clause-bytes : goal.returns-in-I16-clause-bytes
returns-in-I16-clause-bytes c = search rules

pub returns-in-I16-clause-spelled : goal.returns-in-I16-clause-spelled
returns-in-I16-clause-spelled c =
    spelled c.args.self c.args.value _ _ c.requires.in_range (returns-in-I16-clause-bytes c)

pub returns-in-U16-clause-bytes : goal.returns-in-U16-clause-bytes
returns-in-U16-clause-bytes c = search rules

pub returns-in-U16-clause-spelled : goal.returns-in-U16-clause-spelled
returns-in-U16-clause-spelled c =
    spelled c.args.self c.args.value _ _ c.requires.in_range (returns-in-U16-clause-bytes c)

pub returns-in-I32-clause-bytes : goal.returns-in-I32-clause-bytes
returns-in-I32-clause-bytes c = search rules

pub returns-in-I32-clause-spelled : goal.returns-in-I32-clause-spelled
returns-in-I32-clause-spelled c =
    spelled c.args.self c.args.value _ _ c.requires.in_range (returns-in-I32-clause-bytes c)

pub returns-in-U32-clause-bytes : goal.returns-in-U32-clause-bytes
returns-in-U32-clause-bytes c = search rules

pub returns-in-U32-clause-spelled : goal.returns-in-U32-clause-spelled
returns-in-U32-clause-spelled c =
    spelled c.args.self c.args.value _ _ c.requires.in_range (returns-in-U32-clause-bytes c)
