-- What ends a command.
use Rattle.std.proofs.Common.{◌≡◌, inl, inr, Ok, Err, Option, sym, ◌∙◌}
use Rattle.bundle_tiles.specs.Imported.{ImportEnd}
use Rattle.bundle_tiles.specs.declared.taking.ImportStop.TheVariants as found
use Rattle.opened_bundle.specs.Files.{Files}
use Rattle.opened_bundle.specs.Opening.{OpeningStops}
use Rattle.opened_bundle.specs.declared.refusal.StoreRefusal.{StoreRefusal}
use Rattle.program_ends.specs.Moves.{SinkMove, SourceMove, VolumeMove}
use Rattle.program_ends.specs.declared.stop.Stop.{Stop}
use Rattle.program_ends.specs.declared.stop.Stop.TheVariants.{Usage, Source, Output, Volume, OutOfMemory, Refused}
use Rattle.tiles_cli.specs.Names.{End, import_end_of, list_stop_of, with_store}
use Rattle.tiles_cli.specs.Run.{OfCommand}
use Rattle.tiles_cli.specs.declared.slot_list.ListStop.{ListStop}
use Rattle.tiles_cli.specs.declared.slot_list.ListStop.TheVariants as read
use Rattle.tiles_cli.specs.declared.words.Command.{Command}
use Rattle.tiles_cli.specs.declared.words.Command.TheVariants.{Export, Listed, Import}
use Rattle.tiles_cli.proofs.Exporting.{never_exports}

list_usage : (stop : ListStop) → ◌≡◌ {A = End} (Err (list_stop_of stop)) (Err Usage) → ⊥
list_usage (read.Fault f) is = cc
list_usage read.Source is = cc
list_usage read.OutOfMemory is = cc

opening_usage : (files : Option Files) (stop : Stop StoreRefusal) → OpeningStops files stop → ◌≡◌ {A = End} (Err (with_store stop)) (Err Usage) → ⊥
opening_usage files Usage stops is = stops
opening_usage files Source stops is = stops
opening_usage files Output stops is = stops
opening_usage files Volume stops is = cc
opening_usage files OutOfMemory stops is = cc
opening_usage files (Refused refusal) stops is = cc

import_usage : (r : ImportEnd) → import_end_of r ≡ Err Usage → ⊥
import_usage (Ok x) is = cc
import_usage (Err (found.Stream f)) is = cc
import_usage (Err found.Source) is = cc
import_usage (Err found.Output) is = cc
import_usage (Err found.Volume) is = cc
import_usage (Err found.OutOfMemory) is = cc
import_usage (Err (found.Full len)) is = cc
import_usage (Err found.TooManyTiles) is = cc

pub never_usage : (c : Command) (end : End) (src : SourceMove) (vol : VolumeMove) (out : SinkMove) → OfCommand c end src vol out → end ≡ Err Usage → ⊥
never_usage Export end src vol out so is = never_exports _ end Usage vol out tt so.1 is
never_usage Listed end src vol out so is = elim so [ inl un ↦ list_usage un.stop (sym un.end_is ∙ is) | inr export ↦ never_exports _ end Usage vol out tt export is ]
never_usage Import end src vol out so is = elim so.ends [ inl un ↦ opening_usage _ un.unopened.stop un.unopened.stops (sym un.unopened.end_is ∙ is) | inr puts ↦ import_usage puts.answer (sym puts.end_is ∙ is) ]
