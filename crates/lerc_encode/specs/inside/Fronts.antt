-- The lists in front of an image, as the grammar has them.
use Rattle.std.specs.Prelude.{Option, Some, None}
use Rattle.raster_values.specs.Raster.{Pixels}
use Rattle.lerc_header.specs.declared.header.Version.{Version}
use Rattle.lerc_header.specs.declared.header.Version.TheVariants.{V3, V4}
use Rattle.lerc_grammar.specs.Image.{Ends}
use Rattle.lerc_encode.specs.Ranges.{leasts, greatests}

-- the lists that stand behind the mask in version 4, and none in version 3
abbrev pub front_of : Pixels → Version → Option Ends
front_of r V3 = None
front_of r V4 = Some (record { least = leasts r; greatest = greatests r })
