use Rattle.std.proofs.Common.{◌≡◌, ℕ, List, ◌∷◌, ◌≤◌, drop, length, sym, subst, ap, ◌∙◌, arith, rules}
use Rattle.std.specs.Prelude.{IsTrue}
use Rattle.outside_io.specs.volume.Disk.{Disk, settled}
use Rattle.outside_io.specs.volume.History.{current}
use Rattle.bundle_store.specs.GroupPuts.{with_entries}
use Rattle.bundle_store.specs.LaidOver.{size_in}
use Rattle.bundle_store.specs.Recover.{AppliesTo}
use Rattle.bundle_store.proofs.GroupStanding.{lays_body, lays_tiles}
use Rattle.bundle_store.proofs.Midway.{midway_measuring, midway_putting}
use Rattle.bundle_store.proofs.Recovering.{keeps_measuring, keeps_putting, recovered_group}
use Rattle.bundle_store.proofs.Ways.{measured_way, measuring_way}
use Rattle.bundle_store.specs.inside.Grouped.{SaysThese}
use Rattle.bundle_store.proofs.recovery.finish_group.Goals as goal

pub returns-in_err-len-clause-changes : goal.returns-in_err-len-clause-changes
returns-in_err-len-clause-changes g c = record {
  same = (cc);
  counted = search rules;
  during = λ told.
      keeps_measuring _ _ _ (c.requires.quiet told) c.len.ensures.time (c.len.ensures.disk told);
}

pub returns-in_err-redo-clause-changes : goal.returns-in_err-redo-clause-changes
returns-in_err-redo-clause-changes g c = record {
  same = (cc);
  counted = search rules;
  during = λ told.
      keeps_putting c.args.group.now c.args.header.now c.args.size c.args.place _ _ _ _ (c.requires.quiet told) (c.requires.opened told) (c.requires.says told)
      c.len.ensures.time (c.len.ensures.disk told) (c.redo.ensures.changes.during (c.len.ensures.told ∙ told));
}

pub returns-clause-changes : goal.returns-clause-changes
returns-clause-changes g c = record {
  same = (cc);
  counted = search rules;
  during = λ told.
      keeps_putting c.args.group.now c.args.header.now c.args.size c.args.place _ _ _ _ (c.requires.quiet told) (c.requires.opened told) (c.requires.says told)
      c.len.ensures.time (c.len.ensures.disk told) (c.redo.ensures.changes.during (c.len.ensures.told ∙ told));
}

pub returns-clause-finishes : goal.returns-clause-finishes
returns-clause-finishes g c =
    let old = g.V.Volume.history c.args.vol.now in
    let b = (current old).bundle.now in
    let j = (current old).journal.now in
    let next = g.V.Volume.history c.len.new.self in
    let over = with_entries c.args.header.now c.args.group.now in
    let applies = λ (told : IsTrue (g.V.Volume.told c.args.vol.now)).
    let these = c.requires.says told in
    let within : size_in these.body ≤ length b = omega (arith, c.if-branch-size.false, c.in_ok-len.ensures.answer told, these.size_is) in
    let applies : AppliesTo b j = record { opened = c.requires.opened told; body = these.body; says = these.says; tiles = lays_tiles these.body c.args.group.now c.args.header.now these.lays; within = within } in
    applies in
    record {
      says = applies;
      done = λ told.
          let still : current next ≡ current old = c.len.ensures.disk told in
          let told_1 = c.len.ensures.told ∙ told in
          let bundle : (current next).bundle.now ≡ b = ap (λ (d : Disk). d.bundle.now) still in
          let journal : (current next).journal.now ≡ j = ap (λ (d : Disk). d.journal.now) still in
          let done = c.in_ok-redo.ensures.done told_1 in
          recovered_group b j c.args.group.now c.args.header.now c.args.size c.args.place (current (g.V.Volume.history c.redo.new.vol)) (c.requires.opened told) (c.requires.says told)
          (done ∙ (λ i. let x : Disk = record { bundle = settled (over (bundle i)); journal = settled (0 ∷ drop 1 (journal i)) } in x));
      leaves = λ told.
          let these = c.requires.says told in
          let bundle : (current next).bundle.now ≡ b = ap (λ (d : Disk). d.bundle.now) (c.len.ensures.disk told) in
          let done = c.in_ok-redo.ensures.done (c.len.ensures.told ∙ told) in
          (applies told, ap (λ (d : Disk). d.bundle.now) done ∙ ap over bundle ∙ lays_body b these.body c.args.group.now c.args.header.now these.lays);
      journal = λ told.
          let journal : (current next).journal.now ≡ j = ap (λ (d : Disk). d.journal.now) (c.len.ensures.disk told) in
          ap (λ (d : Disk). d.journal.now) (c.in_ok-redo.ensures.done (c.len.ensures.told ∙ told)) ∙ ap (λ (l : List ℕ). 0 ∷ drop 1 l) journal;
      closed = λ told. tt;
      refused = λ told. tt;
      answers = tt;
    }

pub returns-in_err-len-clause-bytes : goal.returns-in_err-len-clause-bytes
returns-in_err-len-clause-bytes g c = λ told.
    midway_measuring _ _ _ (c.requires.quiet told) c.len.ensures.time (c.len.ensures.disk told)

pub returns-in_err-redo-clause-bytes : goal.returns-in_err-redo-clause-bytes
returns-in_err-redo-clause-bytes g c = λ told.
    midway_putting c.args.group.now c.args.header.now c.args.size c.args.place _ _ _ _ (c.requires.quiet told) (c.requires.opened told) (c.requires.says told)
    (omega (arith, c.if-branch-size.false, c.in_ok-len.ensures.answer told)) c.len.ensures.time (c.len.ensures.disk told) (c.redo.ensures.bytes (c.len.ensures.told ∙ told))

pub returns-clause-bytes : goal.returns-clause-bytes
returns-clause-bytes g c = λ told.
    midway_putting c.args.group.now c.args.header.now c.args.size c.args.place _ _ _ _ (c.requires.quiet told) (c.requires.opened told) (c.requires.says told)
    (omega (arith, c.if-branch-size.false, c.in_ok-len.ensures.answer told)) c.len.ensures.time (c.len.ensures.disk told) (c.redo.ensures.bytes (c.len.ensures.told ∙ told))

pub returns-then-branch-size-clause-bytes : goal.returns-then-branch-size-clause-bytes
returns-then-branch-size-clause-bytes g c = λ told.
    midway_measuring _ _ _ (c.requires.quiet told) c.len.ensures.time (c.len.ensures.disk told)

pub returns-in_err-len-clause-files : goal.returns-in_err-len-clause-files
returns-in_err-len-clause-files g c = λ told.
    measuring_way _ _ _ (c.requires.quiet told) c.len.ensures.time (c.len.ensures.disk told)

pub returns-then-branch-size-clause-files : goal.returns-then-branch-size-clause-files
returns-then-branch-size-clause-files g c = λ told.
    measuring_way _ _ _ (c.requires.quiet told) c.len.ensures.time (c.len.ensures.disk told)

pub returns-in_err-redo-clause-files : goal.returns-in_err-redo-clause-files
returns-in_err-redo-clause-files g c = λ told.
    let old = g.V.Volume.history c.args.vol.now in
    let same = c.len.ensures.disk told in
    let these = subst (λ (d : Disk). SaysThese d.journal.now c.args.group.now c.args.header.now c.args.size c.args.place) (sym same) (c.requires.says told) in
    let fits = subst (λ (d : Disk). c.args.size ≤ length d.bundle.now) (sym same) (let fits : c.args.size ≤ length (current old).bundle.now = omega (arith, c.if-branch-size.false, c.in_ok-len.ensures.answer told) in fits) in
    measured_way old _ _ _ (c.requires.quiet told) c.len.ensures.time same (c.redo.ensures.files (c.len.ensures.told ∙ told) c.args.size c.args.place these fits)

pub returns-clause-files : goal.returns-clause-files
returns-clause-files g c = λ told.
    let old = g.V.Volume.history c.args.vol.now in
    let same = c.len.ensures.disk told in
    let these = subst (λ (d : Disk). SaysThese d.journal.now c.args.group.now c.args.header.now c.args.size c.args.place) (sym same) (c.requires.says told) in
    let fits = subst (λ (d : Disk). c.args.size ≤ length d.bundle.now) (sym same) (let fits : c.args.size ≤ length (current old).bundle.now = omega (arith, c.if-branch-size.false, c.in_ok-len.ensures.answer told) in fits) in
    measured_way old _ _ _ (c.requires.quiet told) c.len.ensures.time same (c.redo.ensures.files (c.len.ensures.told ∙ told) c.args.size c.args.place these fits)
