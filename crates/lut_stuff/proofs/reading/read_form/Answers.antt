use Rattle.std.proofs.Common.{rules, ◌-◌, length, take, drop, refl, arith}
use Rattle.std.proofs.lemmas.List.{take_rest}
use Rattle.lut_stuff.proofs.ReadSteps.{head_wrong, list_told}
use Rattle.lut_stuff.proofs.reading.read_form.Goals as goal

pub returns-in_err-head : goal.returns-in_err-head
returns-in_err-head c = let w = (c.in_err-head.ensures.fault c.in_err-head.field-0.0).0 refl in
    let fault = head_wrong (length c.args.out.now) c.args.bytes.now c.in_err-head.field-0.0.at c.in_err-head.field-0.0.reason w in
    let within = c.in_err-head.ensures.within in
    search (rules, fault, within)

pub slice_bounds-read_body-count : goal.slice_bounds-read_body-count
slice_bounds-read_body-count c = let h = (c.in_ok-head.ensures.ok c.in_ok-head.head c.in_ok-head.used).0 refl in h.0.within

pub slice_bounds-read_body-start : goal.slice_bounds-read_body-start
slice_bounds-read_body-start c = let h = (c.in_ok-head.ensures.ok c.in_ok-head.head c.in_ok-head.used).0 refl in h.0.within

pub read_body-requires-clause-width : goal.read_body-requires-clause-width
read_body-requires-clause-width c = let h = (c.in_ok-head.ensures.ok c.in_ok-head.head c.in_ok-head.used).0 refl in omega (arith, h.0.width)

pub returns : goal.returns
returns c =
    let h = (c.in_ok-head.ensures.ok c.in_ok-head.head c.in_ok-head.used).0 refl in
    let bytes = c.args.bytes.now in
    let used = c.in_ok-head.used in
    list_told (length c.args.out.now) used bytes (take (length bytes - used) (drop used bytes)) c.read_body.new.out c.in_ok-head.head
    c.read_body.result c.behind.result h.0 h.1 c.read_body.auto.out (take_rest bytes used) c.behind.ensures c.read_body.ensures
