use Rattle.std.proofs.Common.{◌≡◌, ◌∙◌, ap, arith}
use Rattle.std.proofs.lemmas.List.{take_all}
use Rattle.bit_stuff.specs.Stuffed.{number_of_bytes, number_of_values}
use Rattle.bit_stuff.proofs.Numbers.{number-nil}
use Rattle.bit_stuff.proofs.Fields.{values-nil}
use Rattle.bit_stuff.proofs.Buffers.{value_taken}
use Rattle.bit_stuff.proofs.StuffedLaws.{bytes_from_number, clear_from_number, stuffed_from_number}
use Rattle.bit_stuff.proofs.packing.stuff.Goals as goal

pub loop-i-init : goal.loop-i-init
loop-i-init c = record {
  buffer = (omega arith, omega arith);
  bits = omega arith;
  number = omega (arith, number-nil, values-nil c.args.width);
}

pub loop-i-preserved : goal.loop-i-preserved
loop-i-preserved c = record {
  buffer = c.spill-buffer.ensures.buffer;
  bits = omega (arith, c.spill-buffer.ensures.bits, c.take_in.ensures.same, c.take_in.ensures.used, c.loop-i.invariant.bits);
  number = c.spill-buffer.ensures.number
      ∙ value_taken c.loop-i.out c.args.values.now c.args.width c.loop-i.i c.loop-i.buffer.at c.loop-i.buffer.used c.loop-i.buffer.held c.take_in.result.at c.take_in.result.held
      c.take_in.ensures.same c.take_in.ensures.held c.loop-i.invariant.bits c.loop-i-test.true c.loop-i.invariant.number;
}

pub returns-clause-bytes : goal.returns-clause-bytes
returns-clause-bytes c =
    let values = c.args.values.now in
    let number : number_of_bytes c.write_last.new.out ≡ number_of_values c.args.width values =
    c.write_last.ensures ∙ c.loop-i.invariant.number ∙ ap (number_of_values c.args.width) (take_all c.loop-i.i values c.loop-i-test.false) in
    bytes_from_number c.write_last.new.out c.args.width values (λ i. omega (arith, c.type_inv.out i)) (omega (arith, c.write_last.auto.out, c.loop-i.auto.out, c.requires.size)) number

pub returns-clause-stuffed : goal.returns-clause-stuffed
returns-clause-stuffed c =
    let values = c.args.values.now in
    let number : number_of_bytes c.write_last.new.out ≡ number_of_values c.args.width values =
    c.write_last.ensures ∙ c.loop-i.invariant.number ∙ ap (number_of_values c.args.width) (take_all c.loop-i.i values c.loop-i-test.false) in
    stuffed_from_number c.write_last.new.out c.args.width values c.requires.values (omega (arith, c.write_last.auto.out, c.loop-i.auto.out, c.requires.size)) number

pub returns-clause-spare : goal.returns-clause-spare
returns-clause-spare c =
    let values = c.args.values.now in
    let number : number_of_bytes c.write_last.new.out ≡ number_of_values c.args.width values =
    c.write_last.ensures ∙ c.loop-i.invariant.number ∙ ap (number_of_values c.args.width) (take_all c.loop-i.i values c.loop-i-test.false) in
    clear_from_number c.write_last.new.out c.args.width values c.requires.values number
