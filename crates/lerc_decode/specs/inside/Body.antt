-- What the parts of a blob leave in the raster, and why there is none.
use Rattle.std.specs.Prelude.{◌≡◌, ℕ, ℤ, ◌-◌, ◌*◌, Bool, List, length, drop, take, Option, Result}
use Rattle.std.specs.Prelude.{OnOk, IfErr}
use Rattle.first_fault.specs.Faults.{Faults, moved}
use Rattle.mask_runs.specs.Runs.{Runs}
use Rattle.raster_cells.specs.declared.kind.PixelType.{PixelType}
use Rattle.raster_values.specs.Raster.{IsRaster, Pixels, values_of}
use Rattle.raster_cells.specs.Values.{AreValues}
use Rattle.raster_values.specs.Flat.{EachValid, all_values, marks_of}
use Rattle.raster_cells.specs.Values.{values_bytes}
use Rattle.raster_cells.specs.Masks.{marks_in}
use Rattle.lerc_header.specs.declared.header.Header.{Header}
use Rattle.lerc_header.specs.declared.fault.BlobFault.{BlobFault}
use Rattle.lerc_header.specs.declared.fault.BlobReason.{BlobReason}
use Rattle.lerc_header.specs.Head.{head_length}
use Rattle.lerc_header.specs.Checksum.{sum_of}
use Rattle.lerc_grammar.specs.declared.parts.MaskForm.{MaskForm}
use Rattle.lerc_grammar.specs.Outline.{IsMaskFormAfter, image_place}
use Rattle.lerc_grammar.specs.Mask.{Previous, IsMaskAfter, count_before, marks_before, mask_size}
use Rattle.lerc_grammar.specs.Mask.{count_of}
use Rattle.lerc_grammar.specs.Blob.{Blob}
use Rattle.lerc_grammar.specs.Image.{IsImage, image_faults, value_count}
use Rattle.lerc_decode.specs.declared.blob.body.BodyStop.{BodyStop}
use Rattle.lerc_decode.specs.declared.blob.body.BodyStop.TheVariants.{Fault, OutOfMemory}

-- it is one of these faults
abbrev pub IsFaultIn : Faults BlobReason → BlobFault → Type 0
IsFaultIn faults f = faults f.place f.reason

-- the same, and want of memory may be at any time
abbrev pub IsStopOf : Faults BlobReason → BodyStop → Type 0
IsStopOf faults (Fault f) = IsFaultIn faults f
IsStopOf faults OutOfMemory = Unit {0}

-- the raster has the header's type and shape
pub record HasHeadShape (h : Header) (r : Pixels) : Type 0 where
  pub kind : h.kind ≡ r.kind
  pub rows : h.rows ≡ r.rows
  pub cols : h.cols ≡ r.cols
  pub depth : h.depth ≡ r.depth

-- it is a raster of the header's type and shape
pub record IsShapedAs (h : Header) (r : Pixels) : Type 0 where
  pub raster : IsRaster r
  pub shape : HasHeadShape h r

-- and as many of its pixels are valid as the header says
pub record IsMarkedAs (h : Header) (r : Pixels) : Type 0 where
  pub shaped : IsShapedAs h r
  pub valid : count_of (marks_of r) ≡ h.valid

-- the pixels are valid that these runs say, as many as there are to be
pub record IsMarkedBy (pixels valid : ℕ) (runs : List ℕ) (marks : List Bool) : Type 0 where
  pub mask : List ℕ
  pub runs_of : Runs runs mask
  pub size : length mask ≡ mask_size pixels
  pub marks_are : marks ≡ marks_in pixels mask
  pub count : count_of (marks_in pixels mask) ≡ valid

-- type, shape and marks are as they were
pub record KeepsMarks (old new : Pixels) : Type 0 where
  pub kind : old.kind ≡ new.kind
  pub rows : old.rows ≡ new.rows
  pub cols : old.cols ≡ new.cols
  pub depth : old.depth ≡ new.depth
  pub marks : marks_of old ≡ marks_of new

-- the image is filled in: it is a raster as before but for the values, and what no call changes of
-- who keeps it is the same, as which array the values are in
pub record KeepsFrame {K : Type 0} (old new : Pixels) (kept_before kept_after : K) : Type 0 where
  pub raster : IsRaster new
  pub marks : KeepsMarks old new
  pub kept : kept_after ≡ kept_before

-- each valid pixel has the list that the bytes stand for
pub record IsFilledWith (kind : PixelType) (bytes : List ℕ) (r : Pixels) : Type 0 where
  pub list : List ℤ
  pub stands : AreValues kind bytes list
  pub each : EachValid r (λ values. values ≡ list)

-- the valid pixels have the values that the bytes stand for
pub record IsSwept (h : Header) (bytes : List ℕ) (r : Pixels) : Type 0 where
  pub stands : AreValues h.kind bytes (values_of r.pixels)
  pub count : length (values_of r.pixels) ≡ value_count h

-- the checksum stands
abbrev pub HasSum : Header → List ℕ → Type 0
HasSum h blob = h.checksum ≡ sum_of (drop 14 blob)

-- the marks of the raster before, where it has the header's rows and columns
abbrev pub marks_for : Option Previous → Header → Option (List Bool)
marks_for before h = marks_before before h.rows h.cols

-- the form of the mask behind the blob of the raster before
abbrev pub IsMaskFormFor : Option Previous → Header → List ℕ → MaskForm → Type 0
IsMaskFormFor before h blob form = IsMaskFormAfter (count_before (marks_for before h)) h blob form

-- the raster has the header's type and shape, and its valid pixels are those of the mask
pub record IsMarkedFor (before : Option Previous) (h : Header) (blob : List ℕ) (form : MaskForm)
    (r : Pixels) : Type 0 where
  pub shape : HasHeadShape h r
  pub mask : IsMaskAfter (marks_for before h) (h.rows * h.cols) h.valid
      (take (image_place h form - head_length h.version) (drop (head_length h.version) blob))
      (marks_of r)

-- the image behind the mask is read into a raster that has the mask's marks: it has the values that
-- the bytes stand for, or it is one of their faults
pub record ReadsImage (h : Header) (blob : List ℕ) (mask : MaskForm) (old new : Pixels)
    (result : Result (Unit {0}) BlobFault) : Type 0 where
  pub ok : OnOk result (IsImage h (drop (image_place h mask) blob) new)
  pub fault : IfErr result (λ fault. IsFaultIn (moved (image_place h mask)
      (image_faults h (marks_of old) (drop (image_place h mask) blob))) fault)

-- the array has the values of the raster of the blob, whose marks are those of the bits
pub record IsScatteredOver (h : Header) (blob bits values : List ℕ) : Type 0 where
  pub raster : Pixels
  pub blob_of : Blob blob raster
  pub shape : HasHeadShape h raster
  pub marks : marks_of raster ≡ marks_in (h.rows * h.cols) bits
  pub values_are : values ≡ values_bytes raster.kind (all_values raster)
