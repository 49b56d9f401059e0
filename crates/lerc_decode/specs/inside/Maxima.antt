-- The top of each depth, above which no stuffed value is, and where it stands.
use Rattle.std.specs.Prelude.{◌≡◌, ℕ, ℤ, ◌+◌, ◌*◌, ◌<◌, ◌≤◌, List, length, drop, Option, ◌⊎◌}
use Rattle.byteorder.specs.Endian.{little_number}
use Rattle.raster_cells.specs.PixelType.{InRange, bytes_of, value_of}
use Rattle.lerc_header.specs.declared.header.Header.{Header}
use Rattle.lerc_header.specs.declared.header.Version.TheVariants.{V3, V4}
use Rattle.lerc_grammar.specs.Image.{Ends, top_of}
use Rattle.lerc_grammar.specs.Outline.{HasLists}
use Rattle.lerc_decode.specs.declared.blob.maxima.Maxima.{Maxima}
use Rattle.lerc_decode.specs.declared.blob.maxima.Maxima.TheVariants.{One, Listed}

-- the top of a depth: the header's greatest value, or the value for which the bytes of the list
-- stand at the depth's place
unfoldable pub top_in : Header → Maxima → ℕ → ℤ
top_in h One d = h.greatest
top_in h (Listed list) d =
    value_of h.kind (little_number (bytes_of h.kind) (drop (d * bytes_of h.kind) list.now))

-- each depth has a top: the header's is one of the type, or the list has a value for each depth
abbrev pub AreMaxima : Header → Maxima → Type 0
AreMaxima h One = InRange h.kind h.greatest
AreMaxima h (Listed list) = length list.now ≡ h.depth * bytes_of h.kind

-- all depths have the header's top
abbrev pub IsOneTop : Header → Type 0
IsOneTop h = (h.version ≡ V3) ⊎ (h.depth ≡ 1)

-- in version 4 both lists are there
abbrev pub HasBoth : Header → List ℕ → Type 0
HasBoth h bytes =
    h.version ≡ V4 → h.depth * bytes_of h.kind + h.depth * bytes_of h.kind ≤ length bytes

-- they are those of the lists with which these bytes begin
pub record AreMaximaOf (h : Header) (bytes : List ℕ) (maxima : Maxima) : Type 0 where
  pub maxima_are : AreMaxima h maxima
  pub each : (front : Option Ends) (behind : List ℕ) → HasLists h bytes front behind →
      (d : ℕ) → d < h.depth → top_in h maxima d ≡ top_of h front d
