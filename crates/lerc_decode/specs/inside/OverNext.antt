-- A blob behind others, decoded into arrays: that of the mask begins as the mask of the blob
-- before.
use Rattle.std.specs.Prelude.{◌≡◌, ℕ, ◌-◌, ◌*◌, ◌<◌, ◌⊎◌, List, length, drop, take}
use Rattle.std.specs.Prelude.{Option, Some, None}
use Rattle.first_fault.specs.Parts.{IsEmpty}
use Rattle.raster_values.specs.Raster.{Pixels}
use Rattle.raster_values.specs.Flat.{marks_of, all_values}
use Rattle.raster_cells.specs.Masks.{marks_in}
use Rattle.raster_cells.specs.Values.{values_bytes}
use Rattle.lerc_header.specs.declared.header.Header.{Header}
use Rattle.lerc_header.specs.declared.fault.BlobFault.{BlobFault}
use Rattle.lerc_header.specs.Head.{HeadAt, head_length}
use Rattle.lerc_grammar.specs.declared.parts.MaskForm.{MaskForm}
use Rattle.lerc_grammar.specs.declared.bands.BandsFault.{BandsFault}
use Rattle.lerc_grammar.specs.Mask.{IsMaskAfter, Previous}
use Rattle.lerc_grammar.specs.Outline.{image_place}
use Rattle.lerc_grammar.specs.Blob.{BlobAfter, blob_faults}
use Rattle.lerc_grammar.specs.Verdict.{IsDoneAfter}
use Rattle.lerc_grammar.specs.Bands.{BandFault, cut_faults, last_after, unlike_faults}
use Rattle.lerc_decode.specs.Over.{HoldRaster}
use Rattle.lerc_decode.specs.inside.Body.{HasHeadShape, IsFaultIn, marks_for}

-- ---- one blob

-- the raster before has the header's rows and columns, and its marks are those of the bits
abbrev pub HasMaskBefore : Option Previous → Header → List ℕ → Type 0
HasMaskBefore before h bits = marks_for before h ≡ Some (marks_in (h.rows * h.cols) bits)

-- the new bits are the marks of the mask, whatever the raster before is whose marks were in them
abbrev pub IsMaskBehind : Header → List ℕ → MaskForm → List ℕ → List ℕ → Type 0
IsMaskBehind h blob form old new = (before : Option Previous) → HasMaskBefore before h old →
    IsMaskAfter (marks_for before h) (h.rows * h.cols) h.valid
    (take (image_place h form - head_length h.version) (drop (head_length h.version) blob))
    (marks_in (h.rows * h.cols) new)

-- it is one of the blob's faults, whatever the raster before is whose marks were in the bits
abbrev pub IsFaultBehind : Header → List ℕ → List ℕ → BlobFault → Type 0
IsFaultBehind h blob bits f =
    (before : Option Previous) → HasMaskBefore before h bits →
    IsFaultIn (blob_faults before h blob) f

-- the array has the values of the raster of the blob, whose marks are those of the bits
pub record IsScatteredAfter (before : Option Previous) (h : Header) (blob bits values : List ℕ) :
    Type 0 where
  pub raster : Pixels
  pub blob_of : BlobAfter before blob raster
  pub shape : HasHeadShape h raster
  pub marks : marks_of raster ≡ marks_in (h.rows * h.cols) bits
  pub values_are : values ≡ values_bytes raster.kind (all_values raster)

-- the arrays have the raster of the blob, whatever the raster before is whose marks were in the
-- bits
abbrev pub IsHeldBehind : Header → List ℕ → List ℕ → List ℕ → List ℕ → Type 0
IsHeldBehind h blob bits values mask = (before : Option Previous) → HasMaskBefore before h bits →
    (r : Pixels) × (BlobAfter before blob r × HoldRaster r values mask)

-- ---- a tile

-- both headers have one type and one shape
pub record HaveOneShape (h g : Header) : Type 0 where
  pub kind : h.kind ≡ g.kind
  pub rows : h.rows ≡ g.rows
  pub cols : h.cols ≡ g.cols
  pub depth : h.depth ≡ g.depth

-- behind these bands another one of the first header's type and shape may come, and the bits are
-- the mask of the last of them
pub record MayFollow (bands : List Pixels) (first : Header) (bits : List ℕ) : Type 0 where
  pub some : 0 < length bands
  pub few : length bands < 16
  pub like : IsEmpty (unlike_faults bands first)
  pub before : HasMaskBefore (last_after None bands) first bits

-- so many bytes are the next band's blob, whose raster the arrays have
pub record IsNextBand (bands : List Pixels) (first : Header) (rest : List ℕ) (size : ℕ)
    (values mask : List ℕ) : Type 0 where
  pub raster : Pixels
  pub done : IsDoneAfter (last_after None bands) rest raster size
  pub shape : HasHeadShape first raster
  pub like : (h : Header) → HeadAt rest h → IsEmpty (unlike_faults bands h)
  pub held : HoldRaster raster values mask

-- the blob behind these bands is wrong, or it is cut
abbrev pub IsNextFault : List Pixels → List ℕ → BandsFault → Type 0
IsNextFault bands rest f =
    BandFault bands rest f.place f.reason ⊎ cut_faults bands rest f.place f.reason
