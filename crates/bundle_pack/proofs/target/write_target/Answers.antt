use Rattle.std.proofs.Common.{Bool, IsTrue, subst, sym}
use Rattle.outside_io.specs.declared.volume.VolFile.TheVariants.{Bundle}
use Rattle.outside_io.specs.volume.History.{contents}
use Rattle.outside_io.proofs.VolumeLemmas.Moments.{during_map}
use Rattle.bundle_store.specs.Build.{last_tiles}
use Rattle.bundle_pack.specs.Files.{files_in}
use Rattle.bundle_store.proofs.Refusals.{cause_weaker, refusal_weaker}
use Rattle.bundle_pack.proofs.Opening.{build_says, was_running}
use Rattle.bundle_pack.proofs.Recovered.{left_on, opened, recovers_on}
use Rattle.bundle_pack.proofs.Targets.{target_images}
use Rattle.bundle_pack.proofs.target.write_target.Goals as goal

pub build-requires : goal.build-requires
build-requires g c = record {
  ready = λ tells running.
      let told = subst (λ (b : Bool). IsTrue b) c.open_one.ensures.kept.told_same tells in
      let shut = c.in-Ok.ensures.shut told in
      record { serves = (c.in-Ok.ensures.says told).1; quiet = shut.quiet; closed = shut.closed };
}

pub returns-in-Ok-clause-images : goal.returns-in-Ok-clause-images
returns-in-Ok-clause-images g c told =
    let vol = g.W.Volume in
    let old = vol.history c.args.to.now in
    let mid = vol.history c.open_one.new.vol in
    let new = vol.history c.build.new.vol in
    let kept = c.open_one.ensures.kept in
    let tells : IsTrue (vol.told c.open_one.new.vol) = subst (λ (b : Bool). IsTrue b) (sym kept.told_same) told in
    target_images (files_in old) (last_tiles c.args.tiles.now) old mid new (g.met.W.Volume.present c.open_one.new.vol tells)
    (c.in-Ok.ensures.says told).0 (c.in-Ok.ensures.shut told) (kept.images told) (c.build.ensures.beside tells)
    (during_map _ _ mid new (λ d f. f c.in-Ok.ensures.running) (c.build.ensures.images tells))

pub returns-in-Ok-clause-unpacked : goal.returns-in-Ok-clause-unpacked
returns-in-Ok-clause-unpacked g c told =
    let vol = g.W.Volume in
    let old = vol.history c.args.to.now in
    let mid = vol.history c.open_one.new.vol in
    let new = vol.history c.build.new.vol in
    let kept = c.open_one.ensures.kept in
    let tells : IsTrue (vol.told c.open_one.new.vol) = subst (λ (b : Bool). IsTrue b) (sym kept.told_same) told in
    refusal_weaker c.build.result _ _ (recovers_on old mid new (opened vol.told vol.history c.args.to.now c.open_one.new.vol told kept (c.in-Ok.ensures.left told))) (c.build.ensures.kept tells)

pub returns-in-Err-clause-unpacked : goal.returns-in-Err-clause-unpacked
returns-in-Err-clause-unpacked g c told =
    let vol = g.W.Volume in
    cause_weaker c.in-Err.fault _ _ (opened vol.told vol.history c.args.to.now c.open_one.new.vol told c.open_one.ensures.kept) (c.in-Err.ensures.left told)

pub returns-in-Ok-clause-left : goal.returns-in-Ok-clause-left
returns-in-Ok-clause-left g c told =
    let vol = g.W.Volume in
    let old = vol.history c.args.to.now in
    let mid = vol.history c.open_one.new.vol in
    let new = vol.history c.build.new.vol in
    let tells : IsTrue (vol.told c.open_one.new.vol) = subst (λ (b : Bool). IsTrue b) (sym c.open_one.ensures.kept.told_same) told in
    refusal_weaker c.build.result _ _ (left_on old mid new (c.in-Ok.ensures.left told)) (c.build.ensures.kept tells)

pub returns-in-Ok-clause-says : goal.returns-in-Ok-clause-says
returns-in-Ok-clause-says g c told =
    let vol = g.W.Volume in
    let tells : IsTrue (vol.told c.open_one.new.vol) = subst (λ (b : Bool). IsTrue b) (sym c.open_one.ensures.kept.told_same) told in
    build_says (files_in (vol.history c.args.to.now)) (contents Bundle (vol.history c.open_one.new.vol)) c.args.tiles.now c.build.result (c.in-Ok.ensures.says told).0 c.requires.fits
    (λ is. was_running c.in-Ok.session.stopped (c.build.ensures.stopped.0 is) c.in-Ok.ensures.running) (c.build.ensures.empty tells) c.build.ensures.answers (c.build.ensures.not_empty tells)
