-- Streams.
use Rattle.std.proofs.Common.{◌≡◌, ℕ, ◌≤◌, List, [], ◌∷◌, ◌++◌, length, ap, arith, length-append}
use Rattle.tile_stream.specs.declared.tile.Tile.{Tile}
use Rattle.tile_stream.specs.Stream.{IsStream, StreamsHaveOneList}
use Rattle.tile_stream.specs.Tile.{IsTile, tile_faults}
use Rattle.tile_stream.proofs.OneBehindAnother as parts
use Rattle.tile_stream.proofs.Tiles.{tile_part}

pub tile_long : (bytes : List ℕ) (t : Tile) → IsTile bytes t → 3 ≤ length bytes
tile_long bytes t is = let size : length bytes ≡ length (is.head ++ is.grid) = ap length is.joined in omega (arith, length-append is.head is.grid, is.head_is.size)

-- one tile more
pub stream_push : (bytes more : List ℕ) (tiles : List Tile) (t : Tile) → IsStream bytes tiles → IsTile more t → IsStream (bytes ++ more) (tiles ++ t ∷ [])
stream_push bytes more tiles t is tile = parts.push IsTile bytes more tiles t is tile

-- two streams, one behind the other
pub stream_join : (a b : List ℕ) (xs ys : List Tile) → IsStream a xs → IsStream b ys → IsStream (a ++ b) (xs ++ ys)
stream_join a b xs ys one two = parts.join IsTile a b xs ys one two

-- the stream of the first tiles, and that of the others behind it
pub stream_divide : (bytes : List ℕ) (xs ys : List Tile) → IsStream bytes (xs ++ ys) → parts.Divided IsTile 0 bytes xs ys
stream_divide bytes xs ys is = parts.divide IsTile bytes xs ys is

-- two streams in front of the same bytes: the longer one goes on behind the shorter one
pub goes_on : (front rest other behind : List ℕ) (tiles others : List Tile) → IsStream front tiles → IsStream other others → front ++ rest ≡ other ++ behind → length tiles ≤ length others
    → parts.GoesOn IsTile front rest other behind tiles others
goes_on front rest other behind tiles others is its e fewer = parts.goes_on IsTile tile_faults tile_part front rest other behind tiles others is its e fewer

pub streams_once : StreamsHaveOneList
streams_once bytes tiles others one two = parts.list_once IsTile tile_faults tile_part (λ front t is. omega (arith, tile_long front t is)) bytes tiles others one two
