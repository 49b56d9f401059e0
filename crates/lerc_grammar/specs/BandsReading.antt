-- Where a reader of bands is: what it knows of the bytes that it took, while more may follow.
use Rattle.std.specs.Prelude.{◌≡◌, ℕ, ◌<◌, List, ◌++◌, length, take, codes, None}
use Rattle.raster_values.specs.Raster.{Pixels}
use Rattle.lerc_grammar.specs.Verdict.{IsMoreAfter}
use Rattle.raster_values.specs.Bands.{MayBeBands}
use Rattle.lerc_grammar.specs.Bands.{BlobsAfter, last_after, HasLikeHead, IsBegun}

-- behind the blobs of bands
pub record IsBehind (taken : List ℕ) (bands : List Pixels) (front rest : List ℕ) : Type 0 where
  pub joined : taken ≡ front ++ rest
  pub may_be : MayBeBands bands
  pub stand : BlobsAfter None front bands

-- in a blob of which nothing is decided
pub record IsInside (taken : List ℕ) (bands : List Pixels) (front rest : List ℕ) : Type 0 where
  pub behind : IsBehind taken bands front rest
  pub begun : IsBegun bands rest
  pub like : HasLikeHead bands rest
  pub more : IsMoreAfter (last_after None bands) rest

-- behind a whole blob, and up to five bytes of a key that may follow
pub record IsBetween (taken : List ℕ) (bands : List Pixels) (front rest : List ℕ) : Type 0 where
  pub behind : IsBehind taken bands front rest
  pub some : 0 < length bands
  pub few : 0 < length rest → length bands < 16
  pub short : length rest < 6
  pub key : rest ≡ take (length rest) (codes "Lerc2 ")
