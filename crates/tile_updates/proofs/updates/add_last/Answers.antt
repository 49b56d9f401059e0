use Rattle.std.proofs.Common.{◌∙◌, ◌+◌, ◌++◌, length, sym, ap, subst, refl, length-append}
use Rattle.std.proofs.lemmas.List.{length-map}
use Rattle.tile_updates.specs.declared.updates.SoFar.{SoFar}
use Rattle.tile_updates.specs.Stops.{TellsStop}
use Rattle.tile_updates.specs.Updates.{update_of, updates_of}
use Rattle.tile_updates.proofs.SoFar.{so_far_more}
use Rattle.tile_updates.proofs.Refusing.{refused_encoding}
use Rattle.tile_updates.proofs.updates.add_last.Goals as goal

pub returns-in-Ok-clause-ok : goal.returns-in-Ok-clause-ok
returns-in-Ok-clause-ok g c = λ input from now s w.
    let v = c.args.coding.now.version in
    let step = c.args.coding.now.step in
    let after : SoFar = record { list = c.encode_batch.new.list; place = c.args.waiting.place } in
    so_far_more v step input from now c.args.done.now after c.args.waiting s w c.in-Ok.ensures.passed c.in-Ok.ensures.encoded c.requires.few c.in-Ok.ensures.added refl

pub returns-in-Ok-clause-grows : goal.returns-in-Ok-clause-grows
returns-in-Ok-clause-grows g c =
    let v = c.args.coding.now.version in
    let step = c.args.coding.now.step in
    ap length {y = c.args.done.now.list ++ updates_of v step c.args.waiting.batch} c.in-Ok.ensures.added ∙ length-append c.args.done.now.list (updates_of v step c.args.waiting.batch) ∙ ap (λ n. length c.args.done.now.list + n) (length-map c.args.waiting.batch (update_of v step))

pub returns-in-Err-clause-refused : goal.returns-in-Err-clause-refused
returns-in-Err-clause-refused g c = λ input from now s w.
    let v = c.args.coding.now.version in
    let step = c.args.coding.now.step in
    subst (TellsStop v step input) (sym c.stream_stop.ensures)
    (refused_encoding v step input from now c.args.done.now c.args.waiting c.in-Err.stop s w c.requires.few c.in-Err.ensures.refused)
