use Rattle.std.proofs.lemmas.Result.{on_ok_weaker}
use Rattle.std.proofs.Common.{◌≡◌, inl, inr, ℕ, List, length, sym, ap, ◌∙◌, subst, rules}
use Rattle.outside_io.specs.volume.Disk.{File}
use Rattle.outside_io.specs.volume.History.{current}
use Rattle.outside_io.proofs.VolumeLemmas.Moments.{during_join, during_map}
use Rattle.bundle_store.specs.Images.{EachImage}
use Rattle.bundle_store.specs.Tiles.{IsBundle, TileMap, tiles}
use Rattle.bundle_store.proofs.Standing.{weaker}
use Rattle.bundle_store.specs.Images.{EmptyOr}
use Rattle.bundle_store.specs.GroupPuts.{AllOrNone, bundle_with_tiles}
use Rattle.bundle_store.specs.Kept.{Keeps}
use Rattle.bundle_store.specs.Layout.{layout}
use Rattle.bundle_store.specs.Tiles.{no_tiles}
use Rattle.bundle_store.proofs.Layouts.{layout_bundle, layout_tiles, length-nothing, nothing_fits}
use Rattle.bundle_store.proofs.put.put_on_nothing.Goals as goal

pub returns-in_err-build_empty-clause-changes : goal.returns-in_err-build_empty-clause-changes
returns-in_err-build_empty-clause-changes g c = record {
  same = (cc);
  counted = search rules;
  during = λ told.
      let Either = AllOrNone c.args.updates.now no_tiles in
      during_map _ (EachImage Either) _ _ (λ d. weaker (EmptyOr no_tiles) Either d (λ m either. elim either [ inl before ↦ inl before | inr after ↦ inl after ])) (c.build_empty.ensures.changes.during told);
}

pub put_on_bundle-requires-clause-len : goal.put_on_bundle-requires-clause-len
put_on_bundle-requires-clause-len g c = λ told.
    let done = c.in_ok-build_empty.ensures.done (sym c.build_empty.ensures.changes.same ∙ told) in
    sym length-nothing ∙ sym (ap (λ (f : File). length f.now) done.bundle_is)

pub returns-clause-changes : goal.returns-clause-changes
returns-clause-changes g c = record {
  same = (cc);
  counted = search rules;
  during = λ told.
      let Either = AllOrNone c.args.updates.now no_tiles in
      let building = during_map _ (EachImage Either) _ _ (λ d. weaker (EmptyOr no_tiles) Either d (λ m either. elim either [ inl before ↦ inl before | inr after ↦ inl after ])) (c.build_empty.ensures.changes.during told) in
      let done = c.in_ok-build_empty.ensures.done told in
      let next = current (g.V.Volume.history c.build_empty.new.vol) in
      let bundle : next.bundle.now ≡ layout no_tiles = ap (λ (f : File). f.now) done.bundle_is in
      let none : tiles next.bundle.now ≡ no_tiles = ap tiles bundle ∙ layout_tiles no_tiles nothing_fits in
      let putting = during_map _ (EachImage Either) _ _ (λ d each. subst (λ (m : TileMap). EachImage (AllOrNone c.args.updates.now m) d) none (each (subst IsBundle (sym bundle) (layout_bundle no_tiles nothing_fits)))) (c.put_on_bundle.ensures.changes.during (c.build_empty.ensures.changes.same ∙ told)) in
      during_join (EachImage Either) _ _ _ building putting;
}

pub put_on_bundle-requires-clause-keeps : goal.put_on_bundle-requires-clause-keeps
put_on_bundle-requires-clause-keeps g c = λ told.
    let done = c.in_ok-build_empty.ensures.done (sym c.build_empty.ensures.changes.same ∙ told) in
    subst (Keeps c.build_empty.new.front) (sym (ap (λ (f : File). f.now) done.bundle_is)) c.in_ok-build_empty.ensures.keeps

pub returns-clause-keeps : goal.returns-clause-keeps
returns-clause-keeps g c = λ told.
    let done = c.in_ok-build_empty.ensures.done told in
    let bundle = ap (λ (f : File). f.now) done.bundle_is in
    on_ok_weaker c.put_on_bundle.result (λ keeps. subst (λ (b : List ℕ). Keeps c.put_on_bundle.new.front (bundle_with_tiles b c.args.updates.now)) bundle keeps) (c.put_on_bundle.ensures.keeps (c.build_empty.ensures.changes.same ∙ told))
