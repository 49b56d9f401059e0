use Rattle.std.proofs.Common.{◌≡◌, ◌∙◌, ◌++◌, ◌∷◌, [], ◌<◌, ℕ, List, false, get_or, take, sym, ap, subst, arith}
use Rattle.std.proofs.lemmas.List.{take_more_set}
use Rattle.lut_stuff.specs.Tables.{occurs}
use Rattle.lut_stuff.specs.inside.Slots.{AreDistinct, slot_of}
use Rattle.lut_stuff.proofs.Gathered.{distinct_added, distinct_stay, slot_empty, slot_known, slots_set}
use Rattle.lut_stuff.proofs.hashing.gather_value.Goals as goal
use Rattle.lut_stuff.proofs.hashing.gather_value.Goals.{then-value-eq0-via-then-value-eq0, then-value-eq0-via-else-value-eq0+then-last-value}
use Rattle.lut_stuff.proofs.hashing.gather_value.Goals.{else-last-gt0-via-then-last-gt0+else-has_value, else-last-gt0-via-else-last-gt0}

pub returns-then-value-eq0-clause-found : goal.returns-then-value-eq0-clause-found
returns-then-value-eq0-clause-found c = λ values s d. distinct_stay values (take c.args.count c.args.found.now) c.args.value (λ some. elim c.then-value-eq0.branch [
  | then-value-eq0-via-then-value-eq0 w ↦ absurd (omega (arith, some, w.if-value-eq0.true))
  | then-value-eq0-via-else-value-eq0+then-last-value w ↦ slot_known values c.args.slots.now c.args.value c.slot_of-slot.result w.if-last-value.true s some
]) d

pub returns-then-has_value-clause-found : goal.returns-then-has_value-clause-found
returns-then-has_value-clause-found c = λ values s d. distinct_stay values (take c.args.count c.args.found.now) c.args.value
    (λ some. sym (d.others c.args.value some) ∙ sym c.has_value.ensures ∙ c.if-has_value.true) d

pub returns-clause-slots : goal.returns-clause-slots
returns-clause-slots c = λ values s d.
    slots_set values c.args.slots.now c.args.value c.slot_of-slot.result (omega (arith, c.if-value-eq0.false)) c.slot_of-slot.ensures.slot (omega (arith, c.slot_of-slot.ensures.byte, c.requires.slots)) s

pub returns-clause-found : goal.returns-clause-found
returns-clause-found c = λ values s d.
    let v = c.args.value in
    let slots = c.args.slots.now in
    let found = c.args.found.now in
    let some : 0 < v = omega (arith, c.if-value-eq0.false) in
    let new : occurs values v ≡ false = elim c.else-last-gt0.branch [
      | else-last-gt0-via-then-last-gt0+else-has_value w ↦ sym (d.others v some) ∙ sym w.has_value.ensures ∙ w.if-has_value.false
      | else-last-gt0-via-else-last-gt0 w ↦
          let at : get_or slots (slot_of v) 0 ≡ get_or slots c.slot_of-slot.result 0 = ap (λ (n : ℕ). get_or slots n 0) (sym c.slot_of-slot.ensures.slot) in
          slot_empty values slots v some (omega (arith, at, w.if-last-gt0.false)) s
    ] in
    subst (λ (u : List ℕ). AreDistinct (values ++ v ∷ []) u) (sym (take_more_set found c.args.count v c.requires.room)) (distinct_added values (take c.args.count found) v some new d)
