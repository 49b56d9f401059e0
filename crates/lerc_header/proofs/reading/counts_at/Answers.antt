use Rattle.std.proofs.Common.{◌≡◌, pos, ◌+◌, sym, ap, ◌∙◌, arith, rules}
use Rattle.std.specs.Prelude.{unsigned_abs}
use Rattle.std.proofs.lemmas.Int.{ints}
use mir.Syntax.{w32}
use mir.Val.{to_z, of_z}
use Rattle.lerc_header.specs.Head.{i32_at}
use Rattle.lerc_header.proofs.ReadParts.{shift_below}
use Rattle.lerc_header.proofs.reading.counts_at.Goals as goal

pub returns-clause-ok : goal.returns-clause-ok
returns-clause-ok c =
    let bytes = c.args.bytes.now in
    let at = c.shift-shift.ensures in
    let few = shift_below c.args.version in
    let valid : c.signed_at-valid.result ≡ pos (unsigned_abs (to_z w32 (of_z w32 c.signed_at-valid.result))) = omega (arith, ints, c.signed_at-valid.type_inv, c.if-valid-lt0.false) in
    let side : c.signed_at-side.result ≡ pos (unsigned_abs (to_z w32 (of_z w32 c.signed_at-side.result))) = omega (arith, ints, c.signed_at-side.type_inv, c.if-side-lt1.false) in
    let size : c.signed_at-size.result ≡ pos (unsigned_abs (to_z w32 (of_z w32 c.signed_at-size.result))) = omega (arith, ints, c.signed_at-size.type_inv, c.if-size-shift.false, at, few) in
    record {
      valid = ap (λ k. i32_at bytes (22 + k)) (sym at) ∙ sym c.signed_at-valid.ensures ∙ valid;
      valid_below = omega (arith, ints, valid, c.from.ensures, c.pixels_of.ensures, c.if-from-pixels_of.false);
      side = ap (λ k. i32_at bytes (26 + k)) (sym at) ∙ sym c.signed_at-side.ensures ∙ side;
      side_above = omega (arith, ints, side, c.if-side-lt1.false);
      size = ap (λ k. i32_at bytes (30 + k)) (sym at) ∙ sym c.signed_at-size.ensures ∙ size;
      size_above = omega (arith, ints, size, c.if-size-shift.false, at, few);
      size_below = omega (arith, ints, size, c.if-size-gt-GREATEST_SIZE.false);
    }

pub returns-then-valid-lt0-clause-fault : goal.returns-then-valid-lt0-clause-fault
returns-then-valid-lt0-clause-fault c = search rules

pub returns-then-side-lt1-clause-fault : goal.returns-then-side-lt1-clause-fault
returns-then-side-lt1-clause-fault c = search rules

pub returns-then-size-shift-clause-fault : goal.returns-then-size-shift-clause-fault
returns-then-size-shift-clause-fault c = search rules

pub returns-clause-fault : goal.returns-clause-fault
returns-clause-fault c = search rules

pub overflow_cast-result : goal.overflow_cast-result
overflow_cast-result c = omega (arith, ints, c.signed_at-valid.type_inv, c.if-valid-lt0.false)

pub overflow_cast-result-2 : goal.overflow_cast-result-2
overflow_cast-result-2 c = omega (arith, ints, c.signed_at-side.type_inv, c.if-side-lt1.false)

pub overflow_cast-result-3 : goal.overflow_cast-result-3
overflow_cast-result-3 c =
    let few = shift_below c.args.version in
    omega (
      arith,
      ints,
      c.signed_at-size.type_inv,
      c.if-size-shift.false,
      c.shift-shift.ensures,
      few,
    )
