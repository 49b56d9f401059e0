-- What a sample of some first tiles comes to: of its blobs, and of what these decode to.
use Rattle.std.specs.Prelude.{◌≡◌, ℕ, ◌%◌, ◌^◌, ◌<◌, ◌≤◌, ◌-ℤ◌, unsigned_abs, List, [], ◌∷◌, length, map, None}
use Rattle.std.specs.List.{range_with_len, sum_by}
use Rattle.raster_values.specs.Raster.{Pixels}
use Rattle.raster_values.specs.Flat.{value_in}
use Rattle.lerc_header.specs.declared.header.Version.TheVariants.{V4}
use Rattle.lerc_header.specs.Head.{u32_at}
use Rattle.lerc_header.specs.Written.{step_of}
use Rattle.lerc_encode.specs.Choice.{chosen_bands}
use Rattle.lerc_grammar.specs.Bands.{BandsBlob}
use Rattle.sample_tiles.specs.Drawn.{sample_tile}
use Rattle.sample_tiles.specs.declared.adding.Sums.{Sums}

-- the blob that is chosen for tile number t, in version 4 with the error 1
unfoldable pub sample_blob : ℕ → ℕ → List ℕ
sample_blob start t = chosen_bands None (sample_tile start t ∷ []) V4 (step_of 1)

-- the blobs of the first tiles
abbrev pub sample_blobs : ℕ → ℕ → List (List ℕ)
sample_blobs start count = map (sample_blob start) (range_with_len 0 count)

-- the blob of tile number t decodes to this raster
abbrev pub DecodesTo : ℕ → ℕ → Pixels → Type 0
DecodesTo start t r = BandsBlob (sample_blob start t) (r ∷ [])

-- How far the value of pixel number k of one raster is from that of another, at their one depth. An
-- invalid pixel counts as 0.
abbrev pub off_by : Pixels → Pixels → ℕ → ℕ
off_by r s k = unsigned_abs (value_in r 0 k -ℤ value_in s 0 k)

-- a pixel of one of the first tiles is so far from its decoded one
abbrev pub IsOff : ℕ → ℕ → ℕ → Type 0
IsOff start count n = (t k : ℕ) × ((r : Pixels) × ((t < count) × DecodesTo start t r × (k < 4096)
    × (off_by (sample_tile start t) r k ≡ n)))

-- no pixel of the first tiles is further from its decoded one, and one is so far, unless none is
-- off
pub record IsWorst (start count worst : ℕ) : Type 0 where
  pub bound : (n : ℕ) → IsOff start count n → n ≤ worst
  pub met : 0 < worst → IsOff start count worst

-- How many tiles there are, how many bytes their blobs have, how far the worst pixel is from its
-- decoded one, and the sum of the checksums that stand in the blobs, modulo 2 ^ 32.
pub record AreSums (start count : ℕ) (s : Sums) : Type 0 where
  pub tiles : s.tiles ≡ count
  pub bytes : s.bytes ≡ sum_by length (sample_blobs start count)
  pub worst : IsWorst start count s.worst
  pub checksums : s.checksums
      ≡ sum_by (λ blob. u32_at blob 10) (sample_blobs start count) % 2 ^ 32
