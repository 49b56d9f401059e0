use Rattle.std.proofs.Common.{◌≡◌, inl, inr, refl, get_or, length, sym, ap, ◌∙◌, subst, rules}
use Rattle.std.proofs.lemmas.Result.{on_ok_weaker}
use Rattle.outside_io.specs.volume.Disk.{Disk, File, IsSettled, settled}
use Rattle.outside_io.specs.volume.History.{current}
use Rattle.outside_io.proofs.VolumeLemmas.Moments.{during_end, during_join, during_map}
use Rattle.side_journal.specs.declared.body.Body.TheVariants.{Build}
use Rattle.side_journal.specs.Says.{IsWhole}
use Rattle.bundle_store.specs.inside.Parts.{IsBegun, KeepsJournal}
use Rattle.bundle_store.specs.inside.Table.{table_map}
use Rattle.bundle_store.specs.Images.{EachImage, EmptyOr}
use Rattle.bundle_store.specs.Layout.{layout}
use Rattle.bundle_store.specs.Tiles.{no_tiles}
use Rattle.bundle_store.proofs.Layouts.{layout_bundle, layout_tiles}
use Rattle.bundle_store.proofs.Recovering.{in_wiping}
use Rattle.bundle_store.proofs.Standing.{in_gate, weaker}
use Rattle.bundle_store.proofs.build.build_empty.Goals as goal

pub returns-in_err-begin-clause-changes : goal.returns-in_err-begin-clause-changes
returns-in_err-begin-clause-changes g c = record {
  same = (cc);
  counted = search rules;
  during = λ told.
      let old = g.V.Volume.history c.args.vol.now in
      let map = table_map c.args.tiles.now c.args.table.now in
      let Pass = EachImage (EmptyOr map) in
      let beginning = during_map _ Pass _ _ (λ d. weaker (λ m. m ≡ no_tiles) (EmptyOr map) d (λ m same. inl same)) (c.begin.ensures.changes.during told) in
      beginning;
}

pub returns-in_err-write_layout-clause-changes : goal.returns-in_err-write_layout-clause-changes
returns-in_err-write_layout-clause-changes g c = record {
  same = (cc);
  counted = search rules;
  during = λ told.
      let old = g.V.Volume.history c.args.vol.now in
      let map = table_map c.args.tiles.now c.args.table.now in
      let Pass = EachImage (EmptyOr map) in
      let beginning = during_map _ Pass _ _ (λ d. weaker (λ m. m ≡ no_tiles) (EmptyOr map) d (λ m same. inl same)) (c.begin.ensures.changes.during told) in
      let told_1 = c.begin.ensures.changes.same ∙ told in
      let next = current (g.V.Volume.history c.begin.new.vol) in
      let begun : IsBegun next = c.in_ok-begin.ensures.journal told in
      let laying = during_join Pass _ _ _ beginning (during_map _ Pass _ _ (λ d keeps. weaker (λ m. m ≡ no_tiles) (EmptyOr map) d (λ m same. inl same) (in_wiping next.journal.now next d begun.opened begun.says begun.journal keeps)) (c.write_layout.ensures.changes.during told_1)) in
      laying;
}

pub returns-clause-changes : goal.returns-clause-changes
returns-clause-changes g c = record {
  same = (cc);
  counted = search rules;
  during = λ told.
      let old = g.V.Volume.history c.args.vol.now in
      let map = table_map c.args.tiles.now c.args.table.now in
      let Pass = EachImage (EmptyOr map) in
      let beginning = during_map _ Pass _ _ (λ d. weaker (λ m. m ≡ no_tiles) (EmptyOr map) d (λ m same. inl same)) (c.begin.ensures.changes.during told) in
      let told_1 = c.begin.ensures.changes.same ∙ told in
      let next = current (g.V.Volume.history c.begin.new.vol) in
      let begun : IsBegun next = c.in_ok-begin.ensures.journal told in
      let laying = during_join Pass _ _ _ beginning (during_map _ Pass _ _ (λ d keeps. weaker (λ m. m ≡ no_tiles) (EmptyOr map) d (λ m same. inl same) (in_wiping next.journal.now next d begun.opened begun.says begun.journal keeps)) (c.write_layout.ensures.changes.during told_1)) in
      let last = current (g.V.Volume.history c.write_layout.new.vol) in
      let bundle = c.in_ok-write_layout.ensures.bundle told_1 in
      let kept : KeepsJournal next last = during_end (KeepsJournal next) (g.V.Volume.history c.begin.new.vol) (g.V.Volume.history c.write_layout.new.vol) (c.write_layout.ensures.changes.during told_1) in
      let journal = ap (λ (f : File). f.now) kept.journal in
      let closing = during_map _ Pass _ _ (λ d. in_gate (layout map) next.journal.now Build no_tiles (EmptyOr map) last d begun.opened.whole begun.says (inr (layout_bundle map c.requires.table.are_tiles)) (inr (layout_tiles map c.requires.table.are_tiles)) refl (inl refl) bundle journal) (c.close_gate.ensures.during (c.write_layout.ensures.changes.same ∙ told_1)) in
      during_join Pass _ _ _ laying closing;
}

pub close_gate-requires-clause-whole : goal.close_gate-requires-clause-whole
close_gate-requires-clause-whole g c = λ told_2.
    let told_1 = sym c.write_layout.ensures.changes.same ∙ told_2 in
    let begun = c.in_ok-begin.ensures.journal (sym c.begin.ensures.changes.same ∙ told_1) in
    let kept = during_end _ _ _ (c.write_layout.ensures.changes.during told_1) in
    subst IsWhole (sym (ap (λ (f : File). length f.now) kept.journal)) begun.opened.whole

pub close_gate-requires-clause-settled : goal.close_gate-requires-clause-settled
close_gate-requires-clause-settled g c = λ told_2.
    let told_1 = sym c.write_layout.ensures.changes.same ∙ told_2 in
    let begun = c.in_ok-begin.ensures.journal (sym c.begin.ensures.changes.same ∙ told_1) in
    let kept = during_end _ _ _ (c.write_layout.ensures.changes.during told_1) in
    subst IsSettled (sym kept.journal) begun.journal

pub returns-clause-done : goal.returns-clause-done
returns-clause-done g c = λ told.
    let told_1 = c.begin.ensures.changes.same ∙ told in
    let laid_out = c.in_ok-write_layout.ensures.bundle told_1 in
    on_ok_weaker c.close_gate.result (λ is.
    let now = ap (λ (d : Disk). d.journal) is in
    record {
      bundle_is = ap (λ (d : Disk). d.bundle) is ∙ laid_out;
      journal = now ∙ ap (λ (f : File). settled f.now) (sym now);
      closed = λ opened. opened.gate (ap (λ (f : File). get_or f.now 0 0) now);
    }) (c.close_gate.ensures.done (c.write_layout.ensures.changes.same ∙ told_1))
