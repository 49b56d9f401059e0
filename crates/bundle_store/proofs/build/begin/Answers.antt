use Rattle.std.proofs.Common.{◌≡◌, inl, inr, refl, ℕ, suc, List, [], ◌∷◌, drop, get_or, length, sym, ap, ◌∙◌, subst, arith, rules}
use Rattle.std.proofs.lemmas.Result.{IfOk-from_err, on_ok_weaker}
use Rattle.outside_io.specs.volume.Disk.{Disk, File, settled}
use Rattle.outside_io.specs.volume.History.{current}
use Rattle.outside_io.proofs.VolumeLemmas.Moments.{during_end, during_join, during_map}
use Rattle.side_journal.specs.declared.body.Body.TheVariants.{Build}
use Rattle.side_journal.specs.Says.{IsWhole, SaysBuild}
use Rattle.side_journal.specs.Bodies.{build_bytes}
use Rattle.side_journal.proofs.Spells.{build_whole, length-body_bytes, says_behind, says_body}
use Rattle.bundle_store.specs.Images.{EachImage}
use Rattle.bundle_store.specs.Tiles.{no_tiles}
use Rattle.bundle_store.proofs.Recovering.{tiles_empty}
use Rattle.bundle_store.proofs.Standing.{in_closed, in_gate, length-gated}
use Rattle.bundle_store.proofs.build.begin.Goals as goal

pub returns-in_err-prepare-clause-changes : goal.returns-in_err-prepare-clause-changes
returns-in_err-prepare-clause-changes g c = record {
  same = (cc);
  counted = search rules;
  during = λ told.
      let old = g.V.Volume.history c.args.vol.now in
      let Pass = EachImage (λ map. map ≡ no_tiles) in
      let bundle = (c.requires.idle told).quiet.bundle ∙ ap settled (c.requires.empty told) in
      let preparing = during_map _ Pass _ _ (λ d. in_closed [] (λ map. map ≡ no_tiles) (current old) d (inl refl) tiles_empty bundle) (c.prepare.ensures.during told) in
      preparing;
}

pub returns-in_err-arm-clause-changes : goal.returns-in_err-arm-clause-changes
returns-in_err-arm-clause-changes g c = record {
  same = (cc);
  counted = search rules;
  during = λ told.
      let old = g.V.Volume.history c.args.vol.now in
      let Pass = EachImage (λ map. map ≡ no_tiles) in
      let bundle = (c.requires.idle told).quiet.bundle ∙ ap settled (c.requires.empty told) in
      let preparing = during_map _ Pass _ _ (λ d. in_closed [] (λ map. map ≡ no_tiles) (current old) d (inl refl) tiles_empty bundle) (c.prepare.ensures.during told) in
      let told_1 = c.prepare.ensures.told ∙ told in
      let bundle_1 = c.prepare.ensures.bundle told ∙ bundle in
      let arming = during_join Pass _ _ _ preparing (during_map _ Pass _ _ (λ d. in_closed [] (λ map. map ≡ no_tiles) (current (g.V.Volume.history c.prepare.new.vol)) d (inl refl) tiles_empty bundle_1) (c.arm.ensures.during told_1)) in
      arming;
}

pub returns-in_err-arm-clause-bundle : goal.returns-in_err-arm-clause-bundle
returns-in_err-arm-clause-bundle g c = λ told.
    let arming = c.arm.ensures.during (c.prepare.ensures.told ∙ told) in
    (during_end _ _ _ arming).bundle ∙ c.prepare.ensures.bundle told

pub returns-clause-bundle : goal.returns-clause-bundle
returns-clause-bundle g c = λ told.
    let told_1 = c.prepare.ensures.told ∙ told in
    let opening = c.open_gate.ensures.during (c.arm.ensures.told ∙ told_1) in
    let armed = ap (λ (d : Disk). d.bundle) (c.in_ok-arm.ensures.done told_1) in
    (during_end _ _ _ opening).bundle ∙ armed ∙ c.prepare.ensures.bundle told

pub open_gate-requires-clause-whole : goal.open_gate-requires-clause-whole
open_gate-requires-clause-whole g c = λ told.
    let told_1 = sym c.arm.ensures.told ∙ told in
    inr (ap (λ (d : Disk). length d.journal.now) (c.in_ok-arm.ensures.done told_1) ∙ ap (λ (n : ℕ). suc n) (length-body_bytes Build tt))

pub returns-clause-journal : goal.returns-clause-journal
returns-clause-journal g c = λ told.
    let told_1 = c.prepare.ensures.told ∙ told in
    let done = c.in_ok-arm.ensures.done told_1 in
    let next = current (g.V.Volume.history c.arm.new.vol) in
    let journal_2 : next.journal.now ≡ 0 ∷ build_bytes = ap (λ (d : Disk). d.journal.now) done in
    let says : SaysBuild next.journal.now = subst SaysBuild (sym journal_2) (says_body 0 Build tt tt) in
    on_ok_weaker c.open_gate.result (λ is.
    let now = ap (λ (d : Disk). d.journal) is in
    let bytes = ap (λ (f : File). f.now) now in
    let moved = says_behind next.journal.now (1 ∷ drop 1 next.journal.now) (length-gated 1 next.journal.now (build_whole next.journal.now says)) refl Build says in
    record {
      journal = now ∙ ap settled (sym bytes);
      opened = record { whole = subst (λ (l : List ℕ). IsWhole (length l)) (sym bytes) (build_whole (1 ∷ drop 1 next.journal.now) moved); gate = λ shut. absurd (omega (arith, shut, ap (λ (l : List ℕ). get_or l 0 0) bytes)) };
      says = subst SaysBuild (sym bytes) moved;
    }) (c.open_gate.ensures.done (c.arm.ensures.told ∙ told_1))

pub returns-clause-changes : goal.returns-clause-changes
returns-clause-changes g c = record {
  same = (cc);
  counted = search rules;
  during = λ told.
      let old = g.V.Volume.history c.args.vol.now in
      let Pass = EachImage (λ map. map ≡ no_tiles) in
      let bundle = (c.requires.idle told).quiet.bundle ∙ ap settled (c.requires.empty told) in
      let preparing = during_map _ Pass _ _ (λ d. in_closed [] (λ map. map ≡ no_tiles) (current old) d (inl refl) tiles_empty bundle) (c.prepare.ensures.during told) in
      let told_1 = c.prepare.ensures.told ∙ told in
      let bundle_1 = c.prepare.ensures.bundle told ∙ bundle in
      let arming = during_join Pass _ _ _ preparing (during_map _ Pass _ _ (λ d. in_closed [] (λ map. map ≡ no_tiles) (current (g.V.Volume.history c.prepare.new.vol)) d (inl refl) tiles_empty bundle_1) (c.arm.ensures.during told_1)) in
      let done = c.in_ok-arm.ensures.done told_1 in
      let next = current (g.V.Volume.history c.arm.new.vol) in
      let journal_2 : next.journal.now ≡ 0 ∷ build_bytes = ap (λ (d : Disk). d.journal.now) done in
      let says : SaysBuild next.journal.now = subst SaysBuild (sym journal_2) (says_body 0 Build tt tt) in
      let bundle_2 = ap (λ (d : Disk). d.bundle) done ∙ bundle_1 in
      let opening = during_map _ Pass _ _ (λ d. in_gate [] next.journal.now Build no_tiles (λ map. map ≡ no_tiles) next d (build_whole next.journal.now says) says (inl refl) tiles_empty refl refl bundle_2 refl) (c.open_gate.ensures.during (c.arm.ensures.told ∙ told_1)) in
      during_join Pass _ _ _ arming opening;
}

pub returns-in_err-prepare-clause-journal : goal.returns-in_err-prepare-clause-journal
returns-in_err-prepare-clause-journal g c = λ told.
    IfOk-from_err c.from_residual.result _ c.from_residual.ensures.0

pub returns-in_err-arm-clause-journal : goal.returns-in_err-arm-clause-journal
returns-in_err-arm-clause-journal g c = λ told.
    IfOk-from_err c.from_residual-in_err-arm.result _ c.from_residual-in_err-arm.ensures.0

pub arm-requires-clause-ready : goal.arm-requires-clause-ready
arm-requires-clause-ready g c = λ told_1.
    let told = sym c.prepare.ensures.told ∙ told_1 in
    c.in_ok-prepare.ensures.ready told

pub open_gate-requires-clause-settled : goal.open_gate-requires-clause-settled
open_gate-requires-clause-settled g c = λ told_2.
    let told_1 = sym c.arm.ensures.told ∙ told_2 in
    let now = ap (λ (d : Disk). d.journal) (c.in_ok-arm.ensures.done told_1) in
    now ∙ ap (λ (f : File). settled f.now) (sym now)
