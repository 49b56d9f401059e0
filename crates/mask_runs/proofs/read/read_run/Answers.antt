use Rattle.std.proofs.Common.{rules, ◌≡◌, ◌≢◌, unsigned_abs, FitsSigned, length, ap, sym, ◌∙◌, subst, arith}
use Rattle.std.proofs.lemmas.Int.{to_z-of_z}
use Rattle.std.specs.Int.{cast_unsigned, w16}
use Rattle.std.proofs.lemmas.List.{length-take-le}
use Rattle.mask_runs.specs.Fault.{HasRunCount, end_count}
use Rattle.mask_runs.specs.inside.Steps.{ReadsRunBody}
use Rattle.mask_runs.proofs.Reading.{bytes_below, read_count, count_faulty, step_of_body}
use Rattle.mask_runs.proofs.read.read_run.Goals as goal

pub returns-then-given-eq0 : goal.returns-then-given-eq0
returns-then-given-eq0 c =
    let count = c.read_i16-count.result in
    let fits : FitsSigned w16 count = search rules in
    let has : HasRunCount count c.args.bytes.now = read_count c.args.bytes.now count c.if-bytes-lt2.false (bytes_below c.args.bytes.now c.type_inv.bytes) c.read_i16-count.ensures in
    let other : count ≢ end_count = λ e. c.if-count.false (ap (cast_unsigned w16) e) in
    let is : unsigned_abs count ≡ c.from-given.result = ap unsigned_abs (sym (to_z-of_z w16 count fits)) ∙ sym (c.from-given.ensures ∙ c.unsigned_abs.ensures.value) in
    count_faulty c.args.bytes.now (length c.args.rest.now) c.from-given.result count has other is c.then-given-eq0.either

pub returns : goal.returns
returns c =
    let count = c.read_i16-count.result in
    let fits : FitsSigned w16 count = search rules in
    let has : HasRunCount count c.args.bytes.now = read_count c.args.bytes.now count c.if-bytes-lt2.false (bytes_below c.args.bytes.now c.type_inv.bytes) c.read_i16-count.ensures in
    let other : count ≢ end_count = λ e. c.if-count.false (ap (cast_unsigned w16) e) in
    let found : ReadsRunBody c.args.bytes.now count c.read_body.new.part c.read_body.result = subst (λ z. ReadsRunBody c.args.bytes.now z c.read_body.new.part c.read_body.result) (to_z-of_z w16 count fits) c.read_body.ensures in
    step_of_body c.args.bytes.now c.args.rest.now c.read_body.new.part count c.from-given.result c.read_body.result has other (omega (arith, c.read_body.auto.part, length-take-le c.from-given.result c.args.rest.now c.if-given-rest.false)) found
