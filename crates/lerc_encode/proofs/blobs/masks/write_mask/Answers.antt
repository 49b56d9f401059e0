use Rattle.std.proofs.Common.{◌≡◌, ◌∙◌, List, ℕ, [], length, sym, ap, refl, arith, length-drop}
use Rattle.std.proofs.lemmas.List.{take_rest}
use Rattle.mask_runs.specs.Chosen.{chosen_runs}
use Rattle.raster_values.specs.Flat.{marks_of}
use Rattle.lerc_encode.specs.Masks.{mask_part, runs_unless}
use Rattle.lerc_encode.proofs.Packing.{no_runs, runs_written, some_runs, taken_runs}
use Rattle.lerc_encode.proofs.blobs.masks.write_mask.Goals.{then-taken-via-then-taken, then-taken-via-else-taken+then-is_alike}
use Rattle.lerc_encode.proofs.blobs.masks.write_mask.Goals as goal

pub write_no_mask-requires : goal.write_no_mask-requires
write_no_mask-requires g c =
    let marks = marks_of (g.V.View.pixels c.args.raster.now) in
    let none : runs_unless c.args.taken marks ≡ [] = elim c.then-taken.branch [
      | then-taken-via-then-taken w ↦ taken_runs c.args.taken marks w.if-taken.true
      | then-taken-via-else-taken+then-is_alike w ↦ no_runs c.args.taken marks w.if-taken.false (sym w.is_alike.ensures.value ∙ w.if-is_alike.true)
    ] in
    omega (arith, c.requires.room, c.requires.size, ap length none)

pub returns-then-taken : goal.returns-then-taken
returns-then-taken g c =
    let marks = marks_of (g.V.View.pixels c.args.raster.now) in
    let none : runs_unless c.args.taken marks ≡ [] = elim c.then-taken.branch [
      | then-taken-via-then-taken w ↦ taken_runs c.args.taken marks w.if-taken.true
      | then-taken-via-else-taken+then-is_alike w ↦ no_runs c.args.taken marks w.if-taken.false (sym w.is_alike.ensures.value ∙ w.if-is_alike.true)
    ] in
    c.write_no_mask.ensures ∙ ap mask_part (sym none)

pub write_runs_with-requires-clause-room : goal.write_runs_with-requires-clause-room
write_runs_with-requires-clause-room g c =
    let marks = marks_of (g.V.View.pixels c.args.raster.now) in
    let buf = c.write_u32.new.buf in
    let runs = some_runs c.args.taken marks c.if-taken.false (sym c.is_alike.ensures.value ∙ c.if-is_alike.false) in
    omega (arith, ap length (take_rest buf 4), length-drop 4 buf, c.write_u32.auto.buf, c.requires.room, c.requires.size, ap length runs, ap (λ (xs : List ℕ). length (chosen_runs xs)) c.last_of-last.ensures.packed)

pub returns : goal.returns
returns g c =
    let marks = marks_of (g.V.View.pixels c.args.raster.now) in
    let runs = some_runs c.args.taken marks c.if-taken.false (sym c.is_alike.ensures.value ∙ c.if-is_alike.false) in
    runs_written (runs_unless c.args.taken marks) c.args.size _ c.write_u32.new.buf c.write_runs_with.new.out c.args.out.now c.requires.size c.requires.room c.write_u32.ensures
    (c.write_runs_with.ensures.chosen ∙ ap chosen_runs c.last_of-last.ensures.packed ∙ sym runs) refl
