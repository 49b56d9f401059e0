-- The stops of batches in an overview.
use Rattle.tile_updates.specs.declared.stop.BatchStop.{BatchStop}
use Rattle.tile_updates.specs.declared.stop.BatchStop.TheVariants.{TileTooLarge as BatchTileTooLarge, KeptTooMuch as BatchKeptTooMuch, OutOfMemory as BatchOutOfMemory}
use Rattle.overview_updates.specs.declared.stop.OverviewStop.{OverviewStop}
use Rattle.overview_updates.specs.declared.stop.OverviewStop.TheVariants.{TileTooLarge, KeptTooMuch, OutOfMemory}

-- a stop of a batch, as one of its overview
abbrev pub stop_of : BatchStop → OverviewStop
stop_of (BatchTileTooLarge at len) = TileTooLarge at len
stop_of (BatchKeptTooMuch at) = KeptTooMuch at
stop_of BatchOutOfMemory = OutOfMemory
