use Rattle.std.proofs.Common.{◌≡◌, ◌<◌, inl, inr, ℕ, Some, None, Ok, Err, length, slice_get, refl, subst, sym, ap, ◌∙◌, arith}
use Rattle.std.proofs.lemmas.Option.{slice_get-get_or}
use Rattle.bundle_pack.specs.Files.{all_bundles}
use Rattle.bundle_pack.specs.Sources.{DeviceAt}
use Rattle.bundle_pack.specs.inside.Collecting.{IsChoice, TakesTile, TileSays}
use Rattle.bundle_pack.proofs.Ahead.{ahead_still, ahead_turn}
use Rattle.bundle_pack.proofs.Getting.{chosen_bundle, get_of, tile_said}
use Rattle.bundle_pack.proofs.Reading.{served, still_turn}
use Rattle.bundle_pack.proofs.Steps.{err_as, get_fails, still_map}
use Rattle.bundle_pack.proofs.Volumes.{told_at}
use Rattle.bundle_pack.proofs.collecting.take_tile.Goals.{in-Ok, in-Err-push}
use Rattle.bundle_pack.proofs.collecting.take_tile.Goals as goal

pub returns-in_default-choice_at-clause-takes : goal.returns-in_default-choice_at-clause-takes
returns-in_default-choice_at-clause-takes g c = λ all.
    let vol = g.V.Volume in
    let bundles = all_bundles vol.history c.args.from.now in
    let all_served = served vol.told vol.history c.args.sessions.now c.args.from.now c.requires.serving all in
    inl (subst (λ (k : ℕ). IsChoice bundles k None) c.in-Some.ensures.some (c.in_default-choice_at.ensures.is bundles all_served), refl)

pub get_tile-requires-clause-running : goal.get_tile-requires-clause-running
get_tile-requires-clause-running g c =
    let at = c.in-Some-choice_at.choice.at in
    let s = c.index-sessions-at.result in
    let less : at < length c.args.sessions.now = c.in-Some-choice_at.ensures.within in
    let first : slice_get c.args.sessions.now at ≡ Some s = slice_get-get_or c.args.sessions.now at s less ∙ ap Some (sym c.index-sessions-at.is) in
    let there = slice_get-get_or c.args.from.now at c.index-from-at.result (omega (arith, less, c.requires.serving.many)) in
    (c.requires.serving.each at s _ first there).0

pub get_tile-requires-clause-serves : goal.get_tile-requires-clause-serves
get_tile-requires-clause-serves g c =
    let at = c.in-Some-choice_at.choice.at in
    let s = c.index-sessions-at.result in
    let less : at < length c.args.sessions.now = c.in-Some-choice_at.ensures.within in
    let first : slice_get c.args.sessions.now at ≡ Some s = slice_get-get_or c.args.sessions.now at s less ∙ ap Some (sym c.index-sessions-at.is) in
    let there = slice_get-get_or c.args.from.now at c.index-from-at.result (omega (arith, less, c.requires.serving.many)) in
    (c.requires.serving.each at s _ first there).1

pub get_tile-requires-clause-ahead : goal.get_tile-requires-clause-ahead
get_tile-requires-clause-ahead g c =
    let at = c.in-Some-choice_at.choice.at in
    let less : at < length c.args.from.now = omega (arith, c.in-Some-choice_at.ensures.within, c.requires.serving.many) in
    let there = slice_get-get_or c.args.from.now at c.index-from-at.result less in
    let beside = slice_get-get_or c.args.aheads.now at c.index-aheads-at.result (omega (arith, less, c.requires.aheads.many)) in
    c.requires.aheads.each at _ _ there beside

pub returns-after-push-clause-aheads : goal.returns-after-push-clause-aheads
returns-after-push-clause-aheads g c =
    let vol = g.V.Volume in
    let at = c.in-Some-choice_at.choice.at in
    let less : at < length c.args.from.now = omega (arith, c.in-Some-choice_at.ensures.within, c.requires.serving.many) in
    let there = slice_get-get_or c.args.from.now at c.index-from-at.result less in
    let beside = slice_get-get_or c.args.aheads.now at c.index-aheads-at.result (omega (arith, less, c.requires.aheads.many)) in
    ahead_turn vol.told vol.history c.args.from.now c.args.aheads.now at _ c.get_tile.new.vol _ c.get_tile.new.ahead there beside c.requires.aheads
    (ahead_still vol.told vol.history vol.faults _ _ c.get_tile.new.vol c.get_tile.new.ahead c.get_tile.ensures.still c.get_tile.ensures.ahead)

pub returns-in-Ok-None-clause-aheads : goal.returns-in-Ok-None-clause-aheads
returns-in-Ok-None-clause-aheads g c =
    let vol = g.V.Volume in
    let at = c.in-Some-choice_at.choice.at in
    let less : at < length c.args.from.now = omega (arith, c.in-Some-choice_at.ensures.within, c.requires.serving.many) in
    let there = slice_get-get_or c.args.from.now at c.index-from-at.result less in
    let beside = slice_get-get_or c.args.aheads.now at c.index-aheads-at.result (omega (arith, less, c.requires.aheads.many)) in
    ahead_turn vol.told vol.history c.args.from.now c.args.aheads.now at _ c.get_tile.new.vol _ c.get_tile.new.ahead there beside c.requires.aheads
    (ahead_still vol.told vol.history vol.faults _ _ c.get_tile.new.vol c.get_tile.new.ahead c.get_tile.ensures.still c.get_tile.ensures.ahead)

pub returns-in-Err-clause-aheads : goal.returns-in-Err-clause-aheads
returns-in-Err-clause-aheads g c =
    let vol = g.V.Volume in
    let at = c.in-Some-choice_at.choice.at in
    let less : at < length c.args.from.now = omega (arith, c.in-Some-choice_at.ensures.within, c.requires.serving.many) in
    let there = slice_get-get_or c.args.from.now at c.index-from-at.result less in
    let beside = slice_get-get_or c.args.aheads.now at c.index-aheads-at.result (omega (arith, less, c.requires.aheads.many)) in
    ahead_turn vol.told vol.history c.args.from.now c.args.aheads.now at _ c.get_tile.new.vol _ c.get_tile.new.ahead there beside c.requires.aheads
    (ahead_still vol.told vol.history vol.faults _ _ c.get_tile.new.vol c.get_tile.new.ahead c.get_tile.ensures.still c.get_tile.ensures.ahead)

pub returns-after-push-clause-still : goal.returns-after-push-clause-still
returns-after-push-clause-still g c =
    let vol = g.V.Volume in
    let at = c.in-Some-choice_at.choice.at in
    let less : at < length c.args.from.now = omega (arith, c.in-Some-choice_at.ensures.within, c.requires.serving.many) in
    let there = slice_get-get_or c.args.from.now at c.index-from-at.result less in
    let never : (i : ℕ) → DeviceAt c.match-push.result i → ⊥ = λ i is. elim c.match-push.branch [ in-Ok w ↦ absurd (let e = sym w.result-is ∙ is in cc) | in-Err-push w ↦ absurd (let e = sym w.result-is ∙ is in cc) ] in
    still_turn vol.told vol.history vol.faults (DeviceAt c.match-push.result) c.args.from.now at _ c.get_tile.new.vol there
    (still_map vol.told vol.history vol.faults _ (DeviceAt c.match-push.result at) _ c.get_tile.new.vol (λ is. absurd cc) (λ is. absurd (never at is)) c.in-Ok-Some.ensures.still)
    (λ i other is. never i is)

pub returns-after-push-clause-takes : goal.returns-after-push-clause-takes
returns-after-push-clause-takes g c = λ all.
    let vol = g.V.Volume in
    let bundles = all_bundles vol.history c.args.from.now in
    let choice = c.in-Some-choice_at.choice in
    let less : choice.at < length c.args.from.now = omega (arith, c.in-Some-choice_at.ensures.within, c.requires.serving.many) in
    let there = slice_get-get_or c.args.from.now choice.at c.index-from-at.result less in
    let all_served = served vol.told vol.history c.args.sessions.now c.args.from.now c.requires.serving all in
    let chosen = chosen_bundle vol.history c.args.from.now c.in-Some.slot choice _ there (c.in-Some-choice_at.ensures.is bundles all_served) in
    let tells = told_at vol.told c.args.from.now choice.at _ all there in
    let says = rw c.in-Ok-Some.field-0-is at c.in-Ok-Some.ensures.says in
    elim c.match-push.branch [
      | in-Ok w ↦ rw w.result-is (subst (λ (k : ℕ). TakesTile bundles k c.args.tiles.now.items c.push.new.self.items) c.in-Some.ensures.some (inr (choice.at, (_, c.in-Ok-Some.bytes, (chosen, (says tells, w.in-Ok.ensures.items))))))
      | in-Err-push w ↦ rw w.result-is tt
    ]

pub returns-in-Ok-None-clause-still : goal.returns-in-Ok-None-clause-still
returns-in-Ok-None-clause-still g c =
    let vol = g.V.Volume in
    let at = c.in-Some-choice_at.choice.at in
    let less : at < length c.args.from.now = omega (arith, c.in-Some-choice_at.ensures.within, c.requires.serving.many) in
    let there = slice_get-get_or c.args.from.now at c.index-from-at.result less in
    still_turn vol.told vol.history vol.faults (λ i. DeviceAt {X = Unit {0}} (Ok tt) i) c.args.from.now at _ c.get_tile.new.vol there
    (still_map vol.told vol.history vol.faults _ (DeviceAt {X = Unit {0}} (Ok tt) at) _ c.get_tile.new.vol (λ is. absurd cc) (λ is. absurd cc) c.in-Ok-None.ensures.still)
    (λ i other is. absurd cc)

pub returns-in-Ok-None-clause-takes : goal.returns-in-Ok-None-clause-takes
returns-in-Ok-None-clause-takes g c = λ all.
    let vol = g.V.Volume in
    let bundles = all_bundles vol.history c.args.from.now in
    let choice = c.in-Some-choice_at.choice in
    let less : choice.at < length c.args.from.now = omega (arith, c.in-Some-choice_at.ensures.within, c.requires.serving.many) in
    let there = slice_get-get_or c.args.from.now choice.at c.index-from-at.result less in
    let all_served = served vol.told vol.history c.args.sessions.now c.args.from.now c.requires.serving all in
    let chosen = chosen_bundle vol.history c.args.from.now c.in-Some.slot choice _ there (c.in-Some-choice_at.ensures.is bundles all_served) in
    let tells = told_at vol.told c.args.from.now choice.at _ all there in
    let says = rw c.in-Ok-None.field-0-is at c.in-Ok-None.ensures.says in
    absurd (omega (arith, says tells, chosen.some))

pub returns-in-Err-clause-still : goal.returns-in-Err-clause-still
returns-in-Err-clause-still g c =
    let vol = g.V.Volume in
    let at = c.in-Some-choice_at.choice.at in
    let fault = c.in-Err.fault in
    let less : at < length c.args.from.now = omega (arith, c.in-Some-choice_at.ensures.within, c.requires.serving.many) in
    let there = slice_get-get_or c.args.from.now at c.index-from-at.result less in
    still_turn vol.told vol.history vol.faults (λ i. DeviceAt {X = Unit {0}} (Err fault) i) c.args.from.now at _ c.get_tile.new.vol there
    (still_map vol.told vol.history vol.faults _ (DeviceAt {X = Unit {0}} (Err fault) at) _ c.get_tile.new.vol (λ is. err_as fault _ is) (λ is. err_as fault _ is) c.in-Err.ensures.still)
    (λ i other is. get_of (Unit {0}) at c.in-Some.slot i fault c.in-Err.ensures.answers other is)

pub returns-in-Err-clause-says : goal.returns-in-Err-clause-says
returns-in-Err-clause-says g c = λ all.
    let vol = g.V.Volume in
    let bundles = all_bundles vol.history c.args.from.now in
    let choice = c.in-Some-choice_at.choice in
    let less : choice.at < length c.args.from.now = omega (arith, c.in-Some-choice_at.ensures.within, c.requires.serving.many) in
    let there = slice_get-get_or c.args.from.now choice.at c.index-from-at.result less in
    let all_served = served vol.told vol.history c.args.sessions.now c.args.from.now c.requires.serving all in
    let chosen = chosen_bundle vol.history c.args.from.now c.in-Some.slot choice _ there (c.in-Some-choice_at.ensures.is bundles all_served) in
    let tells = told_at vol.told c.args.from.now choice.at _ all there in
    subst (λ (k : ℕ). TileSays bundles k c.in-Err.fault) c.in-Some.ensures.some (tile_said bundles c.in-Some.slot choice.at _ c.in-Err.fault chosen c.in-Err.ensures.answers (c.in-Err.ensures.says tells))

pub returns-in-Err-clause-answers : goal.returns-in-Err-clause-answers
returns-in-Err-clause-answers g c =
    let at = c.in-Some-choice_at.choice.at in
    let less : at < length c.args.from.now = omega (arith, c.in-Some-choice_at.ensures.within, c.requires.serving.many) in
    get_fails at c.in-Some.slot (length c.args.from.now) c.in-Err.fault less (omega (arith, c.in-Some.ensures.some, c.requires.number)) c.in-Err.ensures.answers
