use Rattle.std.proofs.Common.{◌∙◌, ap, arith, length}
use Rattle.bit_stuff.specs.Stuffed.{stuffed_size}
use Rattle.bit_stuff.proofs.Digits.{width_of-le}
use Rattle.bit_stuff.proofs.HeadLaws.{length-simple_bytes}
use Rattle.bit_stuff.proofs.simple.simple_len.Goals as goal

pub stuffed_len-requires-clause-width : goal.stuffed_len-requires-clause-width
stuffed_len-requires-clause-width c = omega (arith, c.list_width.ensures.value, width_of-le 31 c.args.values.now c.requires.values)

pub returns : goal.returns
returns c =
    let size = c.stuffed_len.ensures.value ∙ ap (stuffed_size (length c.args.values.now)) c.list_width.ensures.value in
    omega (arith, c.head_len.ensures, size, length-simple_bytes c.args.values.now)
