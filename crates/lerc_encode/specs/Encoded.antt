-- What the bytes of an encoded raster are.
use Rattle.std.specs.Prelude.{◌≡◌, ◌<◌, ℕ, List, [], ◌∷◌, ◌++◌, Option, None}
use Rattle.raster_values.specs.Raster.{Pixels}
use Rattle.lerc_header.specs.declared.header.Version.{Version}
use Rattle.lerc_header.specs.declared.header.Version.TheVariants.{V3}
use Rattle.lerc_header.specs.Head.{HeadAt}
use Rattle.lerc_header.specs.declared.header.Header.{Header}
use Rattle.lerc_grammar.specs.Mask.{Previous}
use Rattle.lerc_grammar.specs.Blob.{BlobAfter}
use Rattle.lerc_grammar.specs.Bands.{BandsBlob}
use Rattle.lerc_grammar.specs.Near.{Near, NearEach}

-- the version has no place for the raster's depths
abbrev pub NeedsV4 : Version → Pixels → Type 0
NeedsV4 version r = (version ≡ V3) × (1 < r.depth)

-- nor for those of bands, which have as many each
abbrev pub BandsNeedV4 : Version → List Pixels → Type 0
BandsNeedV4 version [] = ⊥
BandsNeedV4 version (r ∷ more) = NeedsV4 version r

-- Behind the blob of the raster before, the bytes are a blob of exactly one raster, and that one is
-- near the given one: of one type and shape, with the same valid pixels, and each value within half
-- a step.
pub record IsEncodedAfter (before : Option Previous) (bytes : List ℕ) (r : Pixels) (step : ℕ)
    : Type 0 where
  pub raster : Pixels
  pub blob : BlobAfter before bytes raster
  pub only : (s : Pixels) → BlobAfter before bytes s → s ≡ raster
  pub near : Near r raster step

-- where there is no raster before
abbrev pub IsEncodedOnce : List ℕ → Pixels → ℕ → Type 0
IsEncodedOnce bytes r step = IsEncodedAfter None bytes r step

-- the bytes are the blobs of exactly one list of bands, each of which is near the given one
pub record AreEncodedOnce (bytes : List ℕ) (bands : List Pixels) (step : ℕ) : Type 0 where
  pub rasters : List Pixels
  pub blobs : BandsBlob bytes rasters
  pub only : (others : List Pixels) → BandsBlob bytes others → others ≡ rasters
  pub near : NearEach bands rasters step

-- the bytes begin with a header that declares this version and this step, twice its maxZError
abbrev pub Declares : List ℕ → Version → ℕ → Type 0
Declares bytes version step =
    (h : Header) × (HeadAt bytes h × (h.version ≡ version) × (h.step ≡ step))

-- the bytes are joined of a part for each band, each of which begins so
abbrev pub DeclareEach : List ℕ → List Pixels → Version → ℕ → Type 0
DeclareEach bytes [] version step = bytes ≡ []
DeclareEach bytes (r ∷ more) version step = (front : List ℕ) × ((rest : List ℕ) ×
    ((bytes ≡ front ++ rest) × (Declares front version step × DeclareEach rest more version step)))
