use Rattle.std.proofs.Common.{ap, ◌∙◌, ◌*◌, ◌+◌, replicate, true}
use Rattle.std.specs.Prelude.{pos}
use Rattle.raster_values.specs.Raster.{Pixels, valid_count}
use Rattle.raster_values.specs.Flat.{marks_of}
use Rattle.lerc_header.proofs.HeadLemmas.{pixels_of_head}
use Rattle.lerc_decode.proofs.Marks.{blank_count, blank_marks, filled_marks}
use Rattle.lerc_decode.proofs.Bodies.{empty_mask, full_mask, runs_mask, runs_fault, previous_mask, ok_map, stops_map}
use Rattle.lerc_decode.proofs.blob.body.read_mask.Goals as goal

pub mark_all-requires : goal.mark_all-requires
mark_all-requires c =
    let h = c.args.blob.now.header in
    ap valid_count c.requires.blank ∙ blank_count h.kind h.rows h.cols h.depth

pub returns-in-Empty-clause-ok : goal.returns-in-Empty-clause-ok
returns-in-Empty-clause-ok c =
    let h = c.args.blob.now.header in
    empty_mask c.args.before.now h c.args.blob.now.bytes.now c.args.form.now _ c.in-Empty.is c.requires.form.0 (ap marks_of c.requires.blank ∙ blank_marks h.kind h.rows h.cols h.depth)

pub returns-in-Full-clause-ok : goal.returns-in-Full-clause-ok
returns-in-Full-clause-ok c =
    let h = c.args.blob.now.header in
    full_mask c.args.before.now h c.args.blob.now.bytes.now c.args.form.now _ c.in-Full.is c.requires.form.0
    (ap marks_of c.mark_all.ensures ∙ filled_marks c.args.raster.now (pos 0) ∙ ap (λ (r : Pixels). replicate (r.rows * r.cols) true) c.requires.blank)

pub returns-in-Runs-clause-ok : goal.returns-in-Runs-clause-ok
returns-in-Runs-clause-ok c =
    ok_map (λ b. runs_mask c.args.before.now c.args.blob.now.header c.args.blob.now.bytes.now c.args.form.now _ c.in-Runs.at c.in-Runs.len _ c.in-Runs.is c.requires.form.0 (ap (λ n. n + 4) c.head_length-place.ensures) b) c.mark_runs.result c.mark_runs.ensures.ok

pub returns-in-Runs-clause-fault : goal.returns-in-Runs-clause-fault
returns-in-Runs-clause-fault c =
    stops_map (λ p r w. runs_fault c.args.before.now c.args.blob.now.header c.args.blob.now.bytes.now c.args.form.now c.in-Runs.at c.in-Runs.len _ p r c.in-Runs.is c.requires.form.0 (ap (λ n. n + 4) c.head_length-place.ensures) w) c.mark_runs.result c.mark_runs.ensures.fault

pub returns-in-Previous-clause-ok : goal.returns-in-Previous-clause-ok
returns-in-Previous-clause-ok c =
    previous_mask c.args.before.now c.args.blob.now.header c.args.blob.now.bytes.now c.args.form.now _ c.in-Previous.is c.requires.form c.mark_as_before.ensures.marks

pub mark_runs-requires-clause-pixels : goal.mark_runs-requires-clause-pixels
mark_runs-requires-clause-pixels c = pixels_of_head c.args.blob.now.bytes.now c.args.blob.now.header c.args.blob.now.head
