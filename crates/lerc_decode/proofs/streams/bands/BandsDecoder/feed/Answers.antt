use Rattle.std.proofs.Common.{◌≡◌, ℕ, ◌++◌, List, take, drop, sym, ap, ◌∙◌, subst, arith}
use Rattle.std.proofs.lemmas.List.{append_assoc, length-drop, take_rest}
use Rattle.std.proofs.Math.Seq.{take-add}
use Rattle.lerc_decode.specs.Reading.{BandsDecoding, IsAfter, wanted}
use Rattle.lerc_decode.specs.BandsStates.{IsBandsTold}
use Rattle.lerc_decode.proofs.BandsFeeding.{ended_wants}
use Rattle.lerc_decode.proofs.Tiles.{told_at}
use Rattle.lerc_decode.proofs.streams.bands.BandsDecoder.feed.Goals as goal

pub loop-used-preserved : goal.loop-used-preserved
loop-used-preserved c =
    let piece = c.args.piece.now in
    let used = c.loop-used.used in
    let r = c.step-used.result in
    record {
      within = omega (arith, c.step-used.ensures.within, length-drop used piece, c.loop-used-test.true);
      taken = λ taken is. subst (λ (u : List ℕ). IsAfter u c.step-used.new.self)
          (ap (λ (u : List ℕ). (taken ++ take used piece) ++ take r u) (take_rest piece used) ∙ append_assoc taken (take used piece) (take r (drop used piece)) ∙ ap (λ (u : List ℕ). taken ++ u) (sym (take-add used r piece)))
          (c.step-used.ensures.taken (taken ++ take used piece) (c.loop-used.invariant.taken taken is));
      ended = λ e.
          let none_ : wanted c.loop-used.self.stage ≡ 0 = ap (λ (d : BandsDecoding). wanted d.stage) (c.loop-used.invariant.ended e).0 ∙ ended_wants c.args.self.now.stage e in
          absurd (omega (arith, none_, c.wants.ensures, c.if-wants-gt0.true));
    }

pub returns-clause-told : goal.returns-clause-told
returns-clause-told c = λ taken is. subst (IsBandsTold taken) (sym c.state.ensures.value) (told_at taken c.loop-used.self.front c.loop-used.self.stage is)
