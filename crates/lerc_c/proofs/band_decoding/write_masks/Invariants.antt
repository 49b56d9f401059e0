use Rattle.std.proofs.Common.{◌≡◌, ◌*◌, ◌++◌, ℕ, List, length, take, drop}
use Rattle.lerc_c.specs.BandArrays.{AreMasks}
use Rattle.lerc_c.proofs.band_decoding.write_masks.Given as goal

abbrev pub invariant-loop-i : goal.invariant-loop-i
invariant-loop-i l = record {
  front : List ℕ;
  masks : l.masks ≡ front ++ drop (l.i * l.mask) l.fn.masks;
  long : length front ≡ l.i * l.mask;
  are : AreMasks front (take l.i l.fn.bands);
}
