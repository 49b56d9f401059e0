use Rattle.std.proofs.Common.{ℕ, ◌++◌, ◌∷◌, [], List, length, take, get_or, sym, ap, ◌∙◌, subst, inl, inr}
use Rattle.std.specs.Prelude.{min}
use Rattle.std.proofs.lemmas.List.{append-nil}
use Rattle.lerc_decode.specs.Reading.{Wrong, NoMemory, BandsStage, BandsDecoding, IsAfter, IsAt, wanted}
use Rattle.lerc_decode.specs.declared.streams.bands.BandsProgress.TheVariants.{OutOfMemory}
use Rattle.lerc_decode.specs.inside.BandsStages.{stage_in}
use Rattle.lerc_decode.proofs.BlobTurns.{first_byte}
use Rattle.lerc_decode.proofs.Tiles.{at_progress}
use Rattle.lerc_decode.proofs.streams.bands.BandsDecoder.step.Goals as goal

pub settle-requires : goal.settle-requires
settle-requires c =
    let taken = c.self.invariant.0 in
    let there = at_progress taken c.self.inside.front c.self.inside.progress _ (sym c.replace.ensures.value ∙ c.in-Inside.is) c.self.invariant.1 in
    (taken ++ take c.take_turn-used.result.used c.args.piece.now, (there.0, (there.1.0, c.take_turn-used.ensures.next taken there.0 there.1.1.0)))

pub invariant_of-self : goal.invariant_of-self
invariant_of-self c =
    let taken = c.self.invariant.0 in
    let there = at_progress taken c.self.inside.front c.self.inside.progress _ (sym c.replace.ensures.value ∙ c.in-Inside.is) c.self.invariant.1 in
    let all = taken ++ take c.take_turn-used.result.used c.args.piece.now in
    (all, c.settle.ensures.at all there.0 there.1.0 (c.take_turn-used.ensures.next taken there.0 there.1.1.0))

pub returns-in-Inside-clause-taken : goal.returns-in-Inside-clause-taken
returns-in-Inside-clause-taken c = λ taken is.
    let there = at_progress taken c.self.inside.front c.self.inside.progress _ (sym c.replace.ensures.value ∙ c.in-Inside.is) (subst (IsAfter taken) (sym c.self.view_is) is) in
    c.settle.ensures.at (taken ++ take c.take_turn-used.result.used c.args.piece.now) there.0 there.1.0 (c.take_turn-used.ensures.next taken there.0 there.1.1.0)

pub returns-in-Inside-clause-used : goal.returns-in-Inside-clause-used
returns-in-Inside-clause-used c =
    let stage = ap (λ (v : BandsDecoding). v.stage) (sym c.self.view_is) ∙ ap stage_in (sym c.replace.ensures.value ∙ c.in-Inside.is) in
    elim c.take_turn-used.ensures.used [
      | inl none_ ↦ inl (c.settle.ensures.none none_)
      | inr u ↦ inr (u ∙ ap (λ (s : BandsStage). min (wanted s) (length c.args.piece.now)) (sym stage))
    ]

pub invariant_of-self-in-Behind : goal.invariant_of-self-in-Behind
invariant_of-self-in-Behind c =
    let taken = c.self.invariant.0 in
    let there = at_progress taken c.self.inside.front c.self.inside.progress _ (sym c.replace.ensures.value ∙ c.in-Behind.is) c.self.invariant.1 in
    (taken ++ get_or c.args.piece.now 0 0 ∷ [], c.follow.ensures taken there.0 there.1.0 there.1.1.0)

pub returns-in-Behind-clause-taken : goal.returns-in-Behind-clause-taken
returns-in-Behind-clause-taken c = λ taken is.
    let there = at_progress taken c.self.inside.front c.self.inside.progress _ (sym c.replace.ensures.value ∙ c.in-Behind.is) (subst (IsAfter taken) (sym c.self.view_is) is) in
    subst (λ (u : List ℕ). IsAt (taken ++ u) c.self.inside.front (stage_in c.follow.result)) (sym (first_byte c.args.piece.now c.requires.some)) (c.follow.ensures taken there.0 there.1.0 there.1.1.0)

pub returns-in-Refused-clause-taken : goal.returns-in-Refused-clause-taken
returns-in-Refused-clause-taken c = λ taken is.
    let there = at_progress taken c.self.inside.front c.self.inside.progress _ (sym c.replace.ensures.value ∙ c.in-Refused.is) (subst (IsAfter taken) (sym c.self.view_is) is) in
    subst (λ (u : List ℕ). IsAt u c.self.inside.front (Wrong c.in-Refused.fault.place c.in-Refused.fault.reason)) (sym (append-nil taken)) there

pub returns-in-OutOfMemory-clause-taken : goal.returns-in-OutOfMemory-clause-taken
returns-in-OutOfMemory-clause-taken c = λ taken is.
    let there = at_progress taken c.self.inside.front c.self.inside.progress _ (sym c.replace.ensures.value ∙ c.in-OutOfMemory.is) (subst (IsAfter taken) (sym c.self.view_is) is) in
    at_progress (taken ++ []) c.self.inside.front OutOfMemory c.replace.new.dest (sym c.replace.ensures.after) (subst (λ (u : List ℕ). IsAt u c.self.inside.front NoMemory) (sym (append-nil taken)) there)
