-- The stops of grids in a stream.
use Rattle.raster_grids.specs.declared.reading.GridStop.{GridStop}
use Rattle.raster_grids.specs.declared.reading.GridStop.TheVariants.{Fault as GridFault, Source as GridSource, OutOfMemory as GridMemory}
use Rattle.tile_stream.specs.declared.tile.TileReason.TheVariants.{Grid}
use Rattle.tile_stream.specs.declared.tile.TileStop.{TileStop}
use Rattle.tile_stream.specs.declared.tile.TileStop.TheVariants.{Fault, Source, OutOfMemory}

-- a stop of a grid, as one of its tile
abbrev pub stop_of : GridStop → TileStop
stop_of (GridFault f) = Fault (record { reason = Grid f.reason; place = f.place })
stop_of GridSource = Source
stop_of GridMemory = OutOfMemory
