use Rattle.tile_stream.proofs.Streams.{streams_once}
use Rattle.tile_stream.proofs.laws.streams_have_one_list_of_tiles.Goals as goal

pub returns : goal.returns
returns c = streams_once
