-- What a run of one command leaves, in the command's own words.
use Rattle.std.specs.Prelude.{◌≡◌, ℕ, ◌≤◌, List, length, replicate, Option, None, IfSome, Bool, IsTrue}
use Rattle.outside_io.specs.declared.volume.VolFile.TheVariants.{Bundle}
use Rattle.outside_io.specs.program.Line.{GivesLine}
use Rattle.outside_io.specs.streams.Sink.{Holds, HoldsPrefix}
use Rattle.outside_io.specs.volume.History.{History, contents}
use Rattle.raster_values.specs.Bands.{AreBands}
use Rattle.raster_grids.specs.BandsGrid.{IsBandsGrid}
use Rattle.raster_grids.specs.Grid.{bands_grid_of}
use Rattle.raster_values.specs.Raster.{Pixels}
use Rattle.lerc_header.specs.declared.header.Version.{Version}
use Rattle.lerc_header.specs.Written.{step_of}
use Rattle.lerc_encode.specs.Choice.{chosen_bands}
use Rattle.lerc_encode.specs.Encoded.{AreEncodedOnce, BandsNeedV4, DeclareEach}
use Rattle.lerc_grammar.specs.declared.bands.BandReason.{BandReason}
use Rattle.lerc_grammar.specs.Bands.{BandsBlob, BandsFaultAt}
use Rattle.bundle_store.specs.declared.tile_rec.TileRec.{TileRec}
use Rattle.bundle_store.specs.Build.{last_tiles}
use Rattle.bundle_store.specs.Layout.{layout}
use Rattle.bundle_lines.specs.Builds.{built_line_of}
use Rattle.sample_tiles.specs.Sums.{AreSums}
use Rattle.sample_tiles.specs.declared.adding.Sums.{Sums}
use Rattle.program_ends.specs.Moves.{Change, SinkMove}
use Rattle.program_ends.specs.declared.stop.Stop.TheVariants.{Refused}
use Rattle.lerc_cli.specs.declared.refusal.Refusal.TheVariants.{Input}
use Rattle.lerc_cli.specs.inputs.Refused.{IsBandsBlob, HasHead, band_reason_of}
use Rattle.lerc_cli.specs.answers.Names.{line_of}
use Rattle.lerc_cli.specs.answers.Outline.{AreLinesOf}
use Rattle.lerc_cli.specs.answers.Samples.{sums_lines}

-- ---- of `encode` in its own words

-- What the blobs of bands are: the chosen ones. The header of each declares the version and the
-- error. They are the blobs of exactly one list of bands, each near the given one by the step, and
-- without an error equal to it.
pub record Encodes (version : Version) (error : ℕ) (bands : List Pixels) (blobs : List ℕ)
    : Type 0 where
  pub chosen : blobs ≡ chosen_bands None bands version (step_of error)
  pub declared : DeclareEach blobs bands version (step_of error)
  pub once : AreEncodedOnce blobs bands (step_of error)
  pub exact : error ≡ 0 → once.rasters ≡ bands

-- the output has gained the blobs of bands, which are the grid's where the input is told
abbrev pub GivesBlobs : Version → ℕ → Option (List ℕ) → Change (Option (List ℕ)) → Type 0
GivesBlobs version error input held =
    (bands : List Pixels) × (AreBands bands × IfSome input (λ bytes. IsBandsGrid bytes bands)
    × ((blobs : List ℕ) × (Encodes version error bands blobs × Holds held.old held.new blobs)))

-- the bytes are the grid of bands that the version has a place for
abbrev pub IsGridFor : Version → List ℕ → Type 0
IsGridFor version bytes =
    (bands : List Pixels) × (IsBandsGrid bytes bands × (¬ BandsNeedV4 version bands))

-- ---- of `build` in its own words

-- The output has gained the line of the bundle of each slot's last tile, and that is the bundle,
-- where the volume tells it. Each update has a mark: the moment of the end.
pub record Builds (updates : List TileRec) (told : Bool) (new : History) (marks : List ℕ)
    (held : Change (Option (List ℕ))) : Type 0 where
  pub line : Holds held.old held.new (built_line_of updates)
  pub bundle : IsTrue told → contents Bundle new ≡ layout (last_tiles updates)
  pub marks_are : marks ≡ replicate (length updates) new.moment

-- ---- of `decode` in its own words

-- the output has gained the grid of bands, which are the blobs' where the bytes are told
abbrev pub GivesGrid : Option (List ℕ) → Change (Option (List ℕ)) → Type 0
GivesGrid input held = (bands : List Pixels)
    × (AreBands bands × IfSome input (λ bytes. BandsBlob bytes bands)
    × Holds held.old held.new (bands_grid_of bands))

-- the output has gained a prefix of such a grid
abbrev pub GivesGridPrefix : Option (List ℕ) → Change (Option (List ℕ)) → Type 0
GivesGridPrefix input held = (bands : List Pixels)
    × (AreBands bands × IfSome input (λ bytes. BandsBlob bytes bands)
    × HoldsPrefix held.old held.new (bands_grid_of bands))

-- The error output was given the line of a fault, which where the bytes are told is the first fault
-- of the whole input.
abbrev pub TellsFault : Option (List ℕ) → SinkMove → Type 0
TellsFault input err =
    (place : ℕ) × ((reason : BandReason) × (IfSome input (λ bytes. BandsFaultAt bytes place reason)
    × GivesLine err.held.old err.held.new err.faults.old err.faults.new
    (line_of (Refused (Input (record { reason = band_reason_of reason; place = place }))))))

-- the bytes, where they are told, begin with a whole lawful header
abbrev pub ToldHead : Option (List ℕ) → Type 0
ToldHead input = IfSome input HasHead

-- ---- of `info` in its own words

-- the output has gained the lines of blobs, which are the input where that is told
abbrev pub GivesLines : Option (List ℕ) → Change (Option (List ℕ)) → Type 0
GivesLines input held =
    (blobs : List ℕ) × (IsBandsBlob blobs × IfSome input (λ bytes. bytes ≡ blobs)
    × ((lines : List ℕ) × (AreLinesOf blobs lines × Holds held.old held.new lines)))

-- ---- of `sample` in its own words

-- The output has gained the lines of what the sample comes to: no pixel of it is further than 1
-- from the one that its blob decodes to.
abbrev pub GivesSums : ℕ → ℕ → Change (Option (List ℕ)) → Type 0
GivesSums start count held = (sums : Sums)
    × (AreSums start count sums × ((sums.worst ≤ 1) × Holds held.old held.new (sums_lines sums)))
