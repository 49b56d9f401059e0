use Rattle.std.proofs.Common.{◌≡◌, ◌⊎◌, inl, inr, ℕ, List, ◌∷◌, ◌++◌, length, sym, ap, ◌∙◌, subst, arith, length-append, rules}
use Rattle.std.proofs.lemmas.Result.{IfOk-from_err, on_ok_weaker}
use Rattle.outside_io.specs.volume.Disk.{Disk, File, settled}
use Rattle.outside_io.specs.volume.History.{current}
use Rattle.outside_io.proofs.VolumeLemmas.Moments.{during_join, during_map}
use Rattle.side_journal.specs.Bodies.{body_bytes}
use Rattle.bundle_store.specs.GroupPuts.{group_records}
use Rattle.bundle_store.specs.LaidOver.{with_body}
use Rattle.bundle_store.specs.Images.{EachImage}
use Rattle.bundle_store.specs.Tiles.{IsBundle, IsReadable, TileMap, tiles}
use Rattle.bundle_store.proofs.GroupStanding.{body_written}
use Rattle.bundle_store.proofs.Standing.{weaker}
use Rattle.bundle_store.proofs.Region.{front_bundle, front_tiles}
use Rattle.bundle_store.proofs.put.steps.commit.Goals as goal

pub stage-requires-clause-body : goal.stage-requires-clause-body
stage-requires-clause-body g c = body_written c.args.body.now c.requires.body

pub returns-in_err-stage-clause-changes : goal.returns-in_err-stage-clause-changes
returns-in_err-stage-clause-changes g c = record {
  same = (cc);
  counted = search rules;
  during = λ told.
      let b = (current (g.V.Volume.history c.args.vol.now)).bundle.now in
      let over = with_body c.args.body.now (b ++ group_records c.args.updates.now) in
      let Either : TileMap → Type 0 = λ map. (map ≡ tiles b) ⊎ (map ≡ tiles over) in
      let Pass : Disk → Type 0 = λ d. IsBundle b → IsReadable over → EachImage Either d in
      during_map _ Pass _ _ (λ d each is readable. weaker (λ map. map ≡ tiles b) Either d (λ map same. inl same) (each is)) (c.stage.ensures.changes.during told);
}

pub apply_body-requires-clause-long : goal.apply_body-requires-clause-long
apply_body-requires-clause-long g c = λ told_1.
    let told = sym c.stage.ensures.changes.same ∙ told_1 in
    let b = (current (g.V.Volume.history c.args.vol.now)).bundle.now in
    let now = ap (λ (d : Disk). length d.bundle.now) (c.in_ok-stage.ensures.done told) in
    omega (arith, now, length-append b (group_records c.args.updates.now), c.requires.least told, c.requires.end told)

pub apply_body-requires-clause-within : goal.apply_body-requires-clause-within
apply_body-requires-clause-within g c = λ told_1.
    let told = sym c.stage.ensures.changes.same ∙ told_1 in
    let b = (current (g.V.Volume.history c.args.vol.now)).bundle.now in
    let now = ap (λ (d : Disk). length d.bundle.now) (c.in_ok-stage.ensures.done told) in
    omega (arith, now, length-append b (group_records c.args.updates.now), c.requires.names, c.requires.end told)

pub apply_body-requires-clause-holds : goal.apply_body-requires-clause-holds
apply_body-requires-clause-holds g c = λ told_1.
    ap (λ (d : Disk). d.journal.now) (c.in_ok-stage.ensures.done (sym c.stage.ensures.changes.same ∙ told_1))

pub apply_body-requires-clause-quiet : goal.apply_body-requires-clause-quiet
apply_body-requires-clause-quiet g c = λ told_1.
    let done = c.in_ok-stage.ensures.done (sym c.stage.ensures.changes.same ∙ told_1) in
    let bundle = ap (λ (d : Disk). d.bundle) done in
    let journal = ap (λ (d : Disk). d.journal) done in
    record {
      bundle = bundle ∙ ap (λ (f : File). settled f.now) (sym bundle);
      journal = journal ∙ ap (λ (f : File). settled f.now) (sym journal);
    }

pub returns-clause-changes : goal.returns-clause-changes
returns-clause-changes g c = record {
  same = (cc);
  counted = search rules;
  during = λ told.
      let b = (current (g.V.Volume.history c.args.vol.now)).bundle.now in
      let more = group_records c.args.updates.now in
      let over = with_body c.args.body.now (b ++ more) in
      let Either : TileMap → Type 0 = λ map. (map ≡ tiles b) ⊎ (map ≡ tiles over) in
      let Pass : Disk → Type 0 = λ d. IsBundle b → IsReadable over → EachImage Either d in
      let staging = during_map _ Pass _ _ (λ d each is readable. weaker (λ map. map ≡ tiles b) Either d (λ map same. inl same) (each is)) (c.stage.ensures.changes.during told) in
      let next = current (g.V.Volume.history c.stage.new.vol) in
      let bundle : next.bundle.now ≡ b ++ more = ap (λ (d : Disk). d.bundle.now) (c.in_ok-stage.ensures.done told) in
      let Next : TileMap → Type 0 = λ map. (map ≡ tiles next.bundle.now) ⊎ (map ≡ tiles (with_body c.args.body.now next.bundle.now)) in
      let applying = during_map _ Pass _ _ (λ d each is readable. weaker Next Either d (λ map either. elim either [
        | inl same ↦ inl (same ∙ ap tiles bundle ∙ front_tiles b more is)
        | inr put ↦ inr (put ∙ ap (λ (l : List ℕ). tiles (with_body c.args.body.now l)) bundle)
      ]) (each (subst IsReadable (sym bundle) (inr (front_bundle b more is))) (subst (λ (l : List ℕ). IsReadable (with_body c.args.body.now l)) (sym bundle) readable))) (c.apply_body.ensures.changes.during (c.stage.ensures.changes.same ∙ told)) in
      during_join Pass _ _ _ staging applying;
}

pub returns-clause-done : goal.returns-clause-done
returns-clause-done g c = λ told.
    let Done : Disk → Disk = λ d. record { bundle = settled (with_body c.args.body.now d.bundle.now); journal = settled (0 ∷ body_bytes c.args.body.now) } in
    on_ok_weaker c.apply_body.result (λ is. is ∙ ap Done (c.in_ok-stage.ensures.done told)) (c.apply_body.ensures.done (c.stage.ensures.changes.same ∙ told))

pub returns-in_err-stage-clause-done : goal.returns-in_err-stage-clause-done
returns-in_err-stage-clause-done g c = λ told.
    IfOk-from_err c.from_residual.result _ c.from_residual.ensures.0
