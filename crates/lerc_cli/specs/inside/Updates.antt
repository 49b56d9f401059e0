-- What reading the updates of an input answers, and how a build and puts end.
use Rattle.std.specs.Prelude.{◌≡◌, ◌⊎◌, ℕ, List, Option, Result, Ok, Err, Vec}
use Rattle.std.specs.declared.alloc.Global.{Global}
use Rattle.lerc_header.specs.declared.header.Version.{Version}
use Rattle.lerc_header.specs.Written.{step_of}
use Rattle.bundle_store.specs.declared.tile_rec.TileRec.{TileRec}
use Rattle.bundle_lines.specs.declared.stop.BuildStop.TheVariants.{Output as BuildOutput, Volume as BuildVolume, NotEmpty as BuildNotEmpty, OutOfMemory as BuildMemory}
use Rattle.bundle_lines.specs.declared.stop.PutStop.TheVariants.{Output as PutOutput, Volume as PutVolume, Full as PutFull}
use Rattle.bundle_lines.specs.Builds.{BuildEnd}
use Rattle.bundle_lines.specs.Gave.{PutEnd}
use Rattle.tile_updates.specs.Updates.{IsUpdates, OfBytes}
use Rattle.program_ends.specs.declared.stop.Stop.{Stop}
use Rattle.program_ends.specs.declared.stop.Stop.TheVariants.{Output, Volume, OutOfMemory, Refused}
use Rattle.opened_bundle.specs.declared.refusal.StoreRefusal.TheVariants.{NotEmpty, Full}
use Rattle.lerc_cli.specs.declared.refusal.Refusal.{Refusal}
use Rattle.lerc_cli.specs.declared.refusal.Refusal.TheVariants.{Store}
use Rattle.lerc_cli.specs.inputs.Refused.{IsNoUpdates}
use Rattle.lerc_cli.specs.answers.Names.{End}

-- the updates of the input, or why there are none
abbrev pub TakesUpdates : Version → ℕ → Option (List ℕ)
    → Result (Vec TileRec Global) (Stop Refusal) →
    Type 0
TakesUpdates version error input (Ok us) =
    OfBytes input (λ bytes. IsUpdates version (step_of error) bytes us.items)
TakesUpdates version error input (Err stop) =
    (stop ≡ OutOfMemory) ⊎ IsNoUpdates version (step_of error) input stop

-- how puts ended, as an end
abbrev pub put_end_of : PutEnd → End
put_end_of (Ok x) = Ok tt
put_end_of (Err PutOutput) = Err Output
put_end_of (Err PutVolume) = Err Volume
put_end_of (Err (PutFull len)) = Err (Refused (Store (Full len)))

-- how a build ended, as an end
abbrev pub build_end_of : BuildEnd → End
build_end_of (Ok x) = Ok tt
build_end_of (Err BuildOutput) = Err Output
build_end_of (Err BuildVolume) = Err Volume
build_end_of (Err (BuildNotEmpty len)) = Err (Refused (Store (NotEmpty len)))
build_end_of (Err BuildMemory) = Err OutOfMemory
