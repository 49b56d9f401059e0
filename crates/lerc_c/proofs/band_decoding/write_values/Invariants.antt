use Rattle.std.proofs.Common.{◌≡◌, ◌*◌, ◌++◌, length, take, drop}
use Rattle.std.specs.List.{flat_map}
use Rattle.lerc_c.specs.BandArrays.{cells_of}
use Rattle.lerc_c.proofs.band_decoding.write_values.Given as goal

abbrev pub invariant-loop-i : goal.invariant-loop-i
invariant-loop-i l = record {
  values : l.values ≡ flat_map cells_of (take l.i l.fn.bands) ++ drop (l.i * l.size) l.fn.values;
  wide : length (flat_map cells_of (take l.i l.fn.bands)) ≡ l.i * l.size;
}
