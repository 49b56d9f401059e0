use Rattle.std.proofs.Common.{◌≡◌, ◌*◌, take}
use Rattle.bit_stuff.specs.Stuffed.{number_of_values}
use Rattle.bit_stuff.specs.inside.Buffer.{IsBuffer, bits_of_buffer, number_of_buffer}
use Rattle.bit_stuff.proofs.packing.stuff.Given as goal

abbrev pub invariant-loop-i : goal.invariant-loop-i
invariant-loop-i l = record {
  buffer : IsBuffer l.buffer 32;
  bits : bits_of_buffer l.buffer ≡ l.width * l.i;
  number : number_of_buffer l.out l.buffer ≡ number_of_values l.width (take l.i l.values);
}
