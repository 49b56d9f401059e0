-- Values that are put into a raster.
use Rattle.std.specs.Prelude.{ℤ, List, replicate}
use Rattle.lane_kernels.specs.Within.{sums_within}
use Rattle.raster_cells.specs.Values.{values_above}
use Rattle.raster_cells.specs.declared.values.value_source.ByteList.{ByteList}
use Rattle.raster_cells.specs.declared.values.value_source.ValueList.{ValueList}
use Rattle.raster_cells.specs.declared.values.value_source.OneValue.{OneValue}
use Rattle.raster_cells.specs.declared.values.value_source.Sums.{Sums}

-- those that lie one behind the other
abbrev pub list_of : ValueList → List ℤ
list_of v = v.values.now

-- those that bytes tell
abbrev pub told_by : ByteList → List ℤ
told_by b = values_above b.below b.bytes.now

-- one value so many times
abbrev pub copies_of : OneValue → List ℤ
copies_of v = replicate v.count v.value

-- sums of an offset and numbers of steps
abbrev pub sums_of : Sums → List ℤ
sums_of s = sums_within s.numbers.now s.offset s.step s.gap
