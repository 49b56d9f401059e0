use Rattle.std.proofs.Common.{◌*◌, sym, subst, arith}
use Rattle.std.specs.Prelude.{IfErr}
use Rattle.first_fault.specs.Faults.{moved}
use Rattle.lerc_grammar.specs.Codes.{codes_faults}
use Rattle.lerc_decode.specs.inside.Body.{IsFaultIn}
use Rattle.lerc_decode.proofs.Bodies.{err_map, ok_map}
use Rattle.lerc_grammar.proofs.Places.{table_within}
use Rattle.lerc_decode.proofs.Filling.{same_frame}
use Rattle.lerc_decode.proofs.Symbols.{coding_fault, coding_read, table_fault}
use Rattle.lerc_decode.proofs.blob.codes.scatter_deltas.Goals as goal

pub refuse_code-requires : goal.refuse_code-requires
refuse_code-requires g c =
    let f = c.in-Err.fault in
    let low = table_within c.args.rest.now f.at f.reason ((c.read_table.ensures.fault f).0 c.in-Err.is) in
    omega (arith, low, c.requires.few)

pub returns-in-Ok-clause-ok : goal.returns-in-Ok-clause-ok
returns-in-Ok-clause-ok g c =
    let n = c.args.header.now.valid * c.args.header.now.depth in
    ok_map (λ w. record { symbols = w.0; coding = coding_read n c.in-Ok.used c.args.rest.now w.0 c.in-Ok.codes c.in-Ok.ensures.ok w.1.0; deltas = w.1.1 }) c.scatter_delta_words.result c.scatter_delta_words.ensures.ok

pub returns-in-Ok-clause-fault : goal.returns-in-Ok-clause-fault
returns-in-Ok-clause-fault g c =
    let n = c.args.header.now.valid * c.args.header.now.depth in
    err_map (λ p r w. coding_fault n c.in-Ok.used c.args.place p c.args.rest.now r c.in-Ok.codes c.in-Ok.ensures.ok w) c.scatter_delta_words.result c.scatter_delta_words.ensures.fault

pub returns-in-Err-clause-fault : goal.returns-in-Err-clause-fault
returns-in-Err-clause-fault g c =
    let n = c.args.header.now.valid * c.args.header.now.depth in
    let f = c.in-Err.fault in
    subst (λ r. IfErr r (IsFaultIn (moved c.args.place (codes_faults n c.args.rest.now)))) (sym c.refuse_code.ensures)
    (table_fault n c.args.place c.args.rest.now f ((c.read_table.ensures.fault f).0 c.in-Err.is))

pub returns-in-Err-clause-frame : goal.returns-in-Err-clause-frame
returns-in-Err-clause-frame g c = same_frame _ _ c.requires.coded.marked.shaped.raster
