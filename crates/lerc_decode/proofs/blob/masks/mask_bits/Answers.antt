use Rattle.std.proofs.Common.{ap, ◌+◌}
use Rattle.lerc_header.proofs.HeadLemmas.{pixels_of_head}
use Rattle.lerc_decode.proofs.Bodies.{empty_mask, full_mask, runs_mask, runs_fault, previous_mask, mask_stop, ok_map, err_map}
use Rattle.lerc_decode.proofs.blob.masks.mask_bits.Goals as goal

pub returns-in-Empty-clause-ok : goal.returns-in-Empty-clause-ok
returns-in-Empty-clause-ok c =
    empty_mask c.args.before.now c.args.blob.now.header c.args.blob.now.bytes.now c.args.form.now _ c.in-Empty.is c.requires.form.0 c.clear_bits.ensures.marks

pub returns-in-Full-clause-ok : goal.returns-in-Full-clause-ok
returns-in-Full-clause-ok c =
    full_mask c.args.before.now c.args.blob.now.header c.args.blob.now.bytes.now c.args.form.now _ c.in-Full.is c.requires.form.0 c.set_bits.ensures.marks

pub returns-in-Runs-clause-ok : goal.returns-in-Runs-clause-ok
returns-in-Runs-clause-ok c =
    ok_map (λ b. runs_mask c.args.before.now c.args.blob.now.header c.args.blob.now.bytes.now c.args.form.now _ c.in-Runs.at c.in-Runs.len _ c.in-Runs.is c.requires.form.0 (ap (λ n. n + 4) c.head_length-place.ensures) b) c.bits_of_runs.result c.bits_of_runs.ensures.ok

pub returns-in-Runs-clause-fault : goal.returns-in-Runs-clause-fault
returns-in-Runs-clause-fault c =
    err_map (λ p r w. mask_stop c.args.before.now c.args.blob.now.header c.args.blob.now.bytes.now p r c.args.blob.now.sum
    (runs_fault c.args.before.now c.args.blob.now.header c.args.blob.now.bytes.now c.args.form.now c.in-Runs.at c.in-Runs.len _ p r c.in-Runs.is c.requires.form.0 (ap (λ n. n + 4) c.head_length-place.ensures) w)) c.bits_of_runs.result c.bits_of_runs.ensures.fault

pub returns-in-Previous-clause-ok : goal.returns-in-Previous-clause-ok
returns-in-Previous-clause-ok c =
    previous_mask c.args.before.now c.args.blob.now.header c.args.blob.now.bytes.now c.args.form.now _ c.in-Previous.is c.requires.form c.bits_before.ensures.marks

pub set_bits-requires-clause-few : goal.set_bits-requires-clause-few
set_bits-requires-clause-few c = pixels_of_head c.args.blob.now.bytes.now c.args.blob.now.header c.args.blob.now.head

pub bits_of_runs-requires-clause-pixels : goal.bits_of_runs-requires-clause-pixels
bits_of_runs-requires-clause-pixels c = pixels_of_head c.args.blob.now.bytes.now c.args.blob.now.header c.args.blob.now.head

pub bits_before-requires-clause-pixels : goal.bits_before-requires-clause-pixels
bits_before-requires-clause-pixels c = pixels_of_head c.args.blob.now.bytes.now c.args.blob.now.header c.args.blob.now.head
