-- Why an input that is to be one grid has no blobs, as a stop.
use Rattle.grid_blobs.specs.declared.stop.InputReason.{InputReason}
use Rattle.grid_blobs.specs.declared.stop.InputReason.TheVariants.{Grid as OfGrid, Leftover as OfRest, DepthNeedsV4 as OfDepth}
use Rattle.grid_blobs.specs.declared.stop.InputStop.{InputStop}
use Rattle.grid_blobs.specs.declared.stop.InputStop.TheVariants.{Fault as FaultOf, Source as SourceOf, OutOfMemory as MemoryOf}
use Rattle.program_ends.specs.declared.stop.Stop.{Stop}
use Rattle.program_ends.specs.declared.stop.Stop.TheVariants.{Refused, Source, OutOfMemory}
use Rattle.lerc_cli.specs.declared.refusal.Reason.{Reason}
use Rattle.lerc_cli.specs.declared.refusal.Reason.TheVariants.{Grid, Leftover, DepthNeedsV4}
use Rattle.lerc_cli.specs.declared.refusal.Refusal.{Refusal}
use Rattle.lerc_cli.specs.declared.refusal.Refusal.TheVariants.{Input}

abbrev pub input_reason_of : InputReason → Reason
input_reason_of (OfGrid reason) = Grid reason
input_reason_of OfRest = Leftover
input_reason_of OfDepth = DepthNeedsV4

abbrev pub input_stop_of : InputStop → Stop Refusal
input_stop_of (FaultOf fault) =
    Refused (Input (record { reason = input_reason_of fault.reason; place = fault.place }))
input_stop_of SourceOf = Source
input_stop_of MemoryOf = OutOfMemory
