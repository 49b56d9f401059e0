-- What is kept of the raster before.
use Rattle.std.specs.Prelude.{◌≡◌, ◌*◌, length}
use Rattle.raster_cells.specs.Masks.{marks_in}
use Rattle.lerc_grammar.specs.Mask.{Previous, mask_size, count_of}
use Rattle.lerc_decode.specs.declared.blob.previous_mask.PreviousMask.TheInside.{Inside}

abbrev pub seen_before : Inside → Previous
seen_before a = record {
  rows = a.rows;
  cols = a.cols;
  marks = marks_in (a.rows * a.cols) a.mask.items;
}

pub record IsKeptBefore (a : Inside) : Type 0 where
  pub size : length a.mask.items ≡ mask_size (a.rows * a.cols)
  pub counted : a.valid ≡ count_of (marks_in (a.rows * a.cols) a.mask.items)
