-- The stops of batches in an input.
use Rattle.tile_updates.specs.declared.stop.BatchStop.{BatchStop}
use Rattle.tile_updates.specs.declared.stop.BatchStop.TheVariants.{TileTooLarge as BatchTileTooLarge, KeptTooMuch as BatchKeptTooMuch, OutOfMemory as BatchOutOfMemory}
use Rattle.tile_updates.specs.declared.stop.StreamStop.{StreamStop}
use Rattle.tile_updates.specs.declared.stop.StreamStop.TheVariants.{TileTooLarge, KeptTooMuch, OutOfMemory}

-- a stop of a batch, as one of its input
abbrev pub stop_of : BatchStop → StreamStop
stop_of (BatchTileTooLarge at len) = TileTooLarge at len
stop_of (BatchKeptTooMuch at) = KeptTooMuch at
stop_of BatchOutOfMemory = OutOfMemory
