use Rattle.std.proofs.Common.{◌≡◌, ◌∙◌, ◌+◌, ℕ, IsTrue, List, [], ◌∷◌, length, sym, ap, subst, arith, refl, length-append}
use Rattle.outside_io.specs.declared.volume.VolFile.TheVariants.{Bundle}
use Rattle.outside_io.specs.volume.History.{contents, current}
use Rattle.outside_io.proofs.VolumeLemmas.Moments.{started}
use Rattle.tile_updates.proofs.SoFar.{same_count}
use Rattle.overview_updates.specs.inside.Fours.{IsFour, IsRound}
use Rattle.overview_updates.proofs.Rounds.{round_more, round_none}
use Rattle.overview_updates.proofs.Still.{said_before, still_join}
use Rattle.overview_updates.proofs.places.read_round.Goals as goal

pub loop-at-init : goal.loop-at-init
loop-at-init g c =
    let h = g.V.Volume.history c.args.vol.now in
    let told = g.V.Volume.told c.args.vol.now in
    let empty = c.new-fours.ensures.items in
    let none : length c.new-fours.result.items ≡ 0 = ap length empty in
    record {
      round = subst (IsRound told (contents Bundle h) c.args.place) (sym empty) (round_none told (contents Bundle h) c.args.place);
      numbered = omega (arith, none);
      within = omega (arith, c.requires.place);
      begun = λ e. (refl, refl);
      faults = refl;
      same = refl;
      stays = λ tells. started (λ d. d ≡ current h) h refl;
      reading = c.requires.reading;
    }

pub loop-at-preserved : goal.loop-at-preserved
loop-at-preserved g c =
    let inv = c.loop-at.invariant in
    let h = g.V.Volume.history in
    let entry = c.args.vol.now in
    let mid = c.loop-at.vol in
    let new = c.read_four.new.vol in
    let four = c.in-Ok.four in
    let fours = c.loop-at.fours.items in
    let place : four.place ≡ c.args.place + length fours = c.in-Ok.ensures.place ∙ inv.numbered in
    let here = λ (tells : IsTrue (g.V.Volume.told entry)). said_before (λ (b : List ℕ). IsFour b four) (h entry) (h mid) (inv.stays tells) (c.in-Ok.ensures.four (inv.same ∙ tells)) in
    let more = round_more (g.V.Volume.told entry) (contents Bundle (h entry)) c.args.place fours four place c.in-Ok.ensures.readable here inv.round in
    let pushed = c.in-Ok-push.ensures.items in
    let longer : length c.push.new.self.items ≡ length fours + 1 = ap length pushed ∙ length-append fours (four ∷ []) in
    record {
      round = subst (IsRound (g.V.Volume.told entry) (contents Bundle (h entry)) c.args.place) (sym pushed) more;
      numbered = omega (arith, inv.numbered, longer);
      within = omega (arith, c.loop-at-test.true);
      begun = λ e. absurd (let no : ⊥ = omega (arith, e, inv.numbered) in no);
      faults = same_count _ (g.V.Volume.faults mid) (g.V.Volume.faults new) c.in-Ok.ensures.reads.counted (λ e. let no : ⊥ = cc e in no) ∙ inv.faults;
      same = c.read_four.ensures.reads.same ∙ inv.same;
      stays = λ tells. still_join (h entry) (h mid) (h new) (inv.stays tells) (c.read_four.ensures.reads.during (inv.same ∙ tells));
      reading = c.in-Ok.ensures.reading;
    }
