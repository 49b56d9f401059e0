use Rattle.std.proofs.Common.{ap, sym, ◌+◌, ◌∙◌}
use Rattle.std.specs.Prelude.{Some}
use Rattle.lerc_header.proofs.HeadLemmas.{pixels_of_head}
use Rattle.lerc_decode.proofs.Bodies.{empty_mask, full_mask, runs_mask, runs_fault, previous_mask, mask_stop, ok_map}
use Rattle.lerc_decode.proofs.OverBands.{err_to, form_for}
use Rattle.lerc_decode.proofs.over_next.bits_behind.Goals as goal

pub returns-in-Empty-clause-ok : goal.returns-in-Empty-clause-ok
returns-in-Empty-clause-ok c = λ before b.
    empty_mask before c.args.blob.now.header c.args.blob.now.bytes.now c.args.form.now _ c.in-Empty.is c.requires.form.0 c.clear_bits.ensures.marks

pub returns-in-Full-clause-ok : goal.returns-in-Full-clause-ok
returns-in-Full-clause-ok c = λ before b.
    full_mask before c.args.blob.now.header c.args.blob.now.bytes.now c.args.form.now _ c.in-Full.is c.requires.form.0 c.set_bits.ensures.marks

pub returns-in-Runs-clause-ok : goal.returns-in-Runs-clause-ok
returns-in-Runs-clause-ok c =
    ok_map (λ m before b. runs_mask before c.args.blob.now.header c.args.blob.now.bytes.now c.args.form.now _ c.in-Runs.at c.in-Runs.len _ c.in-Runs.is c.requires.form.0 (ap (λ n. n + 4) c.head_length-place.ensures) m) c.bits_of_runs.result c.bits_of_runs.ensures.ok

pub returns-in-Runs-clause-fault : goal.returns-in-Runs-clause-fault
returns-in-Runs-clause-fault c =
    err_to (λ f w before b. mask_stop before c.args.blob.now.header c.args.blob.now.bytes.now f.place f.reason c.args.blob.now.sum
    (runs_fault before c.args.blob.now.header c.args.blob.now.bytes.now c.args.form.now c.in-Runs.at c.in-Runs.len _ f.place f.reason c.in-Runs.is c.requires.form.0 (ap (λ n. n + 4) c.head_length-place.ensures) w)) c.bits_of_runs.result c.bits_of_runs.ensures.fault

pub returns-in-Previous-clause-ok : goal.returns-in-Previous-clause-ok
returns-in-Previous-clause-ok c = λ before b.
    let h = c.args.blob.now.header in
    let blob = c.args.blob.now.bytes.now in
    previous_mask before h blob c.args.form.now _ c.in-Previous.is (form_for before h blob c.args.bits.now c.args.form.now b c.requires.form) (b ∙ ap Some (sym c.clear_spare.ensures.marks))

pub set_bits-requires-clause-few : goal.set_bits-requires-clause-few
set_bits-requires-clause-few c = pixels_of_head c.args.blob.now.bytes.now c.args.blob.now.header c.args.blob.now.head

pub bits_of_runs-requires-clause-pixels : goal.bits_of_runs-requires-clause-pixels
bits_of_runs-requires-clause-pixels c = pixels_of_head c.args.blob.now.bytes.now c.args.blob.now.header c.args.blob.now.head

pub clear_spare-requires-clause-few : goal.clear_spare-requires-clause-few
clear_spare-requires-clause-few c = pixels_of_head c.args.blob.now.bytes.now c.args.blob.now.header c.args.blob.now.head
