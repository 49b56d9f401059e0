use Rattle.std.proofs.Common.{◌≡◌, ◌++◌, ◌∷◌, [], List, Option, None, Some, rules, refl, sym, ap, ◌∙◌}
use Rattle.std.proofs.lemmas.Result.{err_from_is_err_and}
use Rattle.ascii_grid.specs.Tokens.{TokenAt}
use Rattle.ascii_grid.specs.Head.{BeginsWithLetter, IsKey, Pair, flat}
use Rattle.ascii_grid.specs.declared.words.Key.{Key}
use Rattle.ascii_grid.proofs.HeadSteps.{all_there, are_more, has_it, has_not, joined_more, keeps_none, key_few, not_all, value_few}
use Rattle.ascii_grid.proofs.HeadFaultSteps.{head_end, head_none_key, head_repeated, head_missing, head_value, head_value_end}
use Rattle.ascii_grid.proofs.head.read_head.Goals as goal

no_key : (key : Key) → ◌≡◌ {A = Option Key} None (Some key) → ⊥
no_key key e = cc

pub loop-word-init : goal.loop-word-init
loop-word-init g c = record { faults = refl; fair = record { x = tt; y = tt; cell = tt; nodata = tt }; so_far = λ total tokens left. ([], (tokens, (tt, (refl, (keeps_none, left))))) }

pub returns-in_err-word-clause-read : goal.returns-in_err-word-clause-read
returns-in_err-word-clause-read g c = λ total tokens left.
    let so = c.loop-word.invariant.so_far total tokens left in
    let p = err_from_is_err_and c.from_residual.result c.from_residual.ensures.1 in
    rw (p.1, p.2) (head_end _ c.demand.new.window total tokens so.1.0 so.0 c.in_err-word.field-0.0 so.1.1.0 so.1.1.1.0 (c.in_err-word.ensures.next total so.1.0 so.1.1.1.1.1))

pub returns-then-has_all-clause-read : goal.returns-then-has_all-clause-read
returns-then-has_all-clause-read g c = λ total tokens left.
    let so = c.loop-word.invariant.so_far total tokens left in
    let next = c.in_ok-word.ensures.next total so.1.0 so.1.1.1.1.1 in
    let plain : ¬ BeginsWithLetter c.in_ok-word.word.bytes = λ letter. absurd (let bad : ⊥ = search rules in bad) in
    record {
      pairs = so.0;
      rest = next.0;
      joined = so.1.1.1.0 ∙ ap (λ (l : List TokenAt). flat so.0 ++ l) next.1.0;
      stand = so.1.1.0;
      all = all_there c.loop-word.head so.0 so.1.1.1.1.0 (sym c.has_all.ensures ∙ c.if-has_all.true);
      keeps = so.1.1.1.1.0;
      behind = plain;
      later = next.1.1;
    }

pub returns-then-not-begins_with_letter-clause-read : goal.returns-then-not-begins_with_letter-clause-read
returns-then-not-begins_with_letter-clause-read g c = λ total tokens left.
    let so = c.loop-word.invariant.so_far total tokens left in
    let next = c.in_ok-word.ensures.next total so.1.0 so.1.1.1.1.1 in
    let plain : ¬ BeginsWithLetter c.in_ok-word.word.bytes = λ letter. absurd (let bad : ⊥ = search rules in bad) in
    let lacks = not_all c.loop-word.head so.0 so.1.1.1.1.0 (sym c.has_all.ensures ∙ c.if-has_all.false) in
    head_missing _ c.demand.new.window total tokens next.0 so.0 c.stop.result c.in_ok-word.word so.1.1.0 (so.1.1.1.0 ∙ ap (λ (l : List TokenAt). flat so.0 ++ l) next.1.0) plain lacks (rw c.place.ensures at c.stop.ensures)

pub returns-in_default-clause-read : goal.returns-in_default-clause-read
returns-in_default-clause-read g c = λ total tokens left.
    let so = c.loop-word.invariant.so_far total tokens left in
    let next = c.in_ok-word.ensures.next total so.1.0 so.1.1.1.1.1 in
    let letter : BeginsWithLetter c.in_ok-word.word.bytes = search rules in
    let unknown : (key : Key) → ¬ IsKey c.in_ok-word.word.bytes key = λ key is. no_key key (sym c.in_default.is ∙ (c.key_of.ensures key).1 (rw c.bytes-in-loop-word.ensures.value is)) in
    head_none_key _ c.demand.new.window total tokens next.0 so.0 c.stop-in_default.result c.in_ok-word.word so.1.1.0 (so.1.1.1.0 ∙ ap (λ (l : List TokenAt). flat so.0 ++ l) next.1.0) letter unknown (rw c.place-in_default.ensures at c.stop-in_default.ensures)

pub returns-then-has-clause-read : goal.returns-then-has-clause-read
returns-then-has-clause-read g c = λ total tokens left.
    let so = c.loop-word.invariant.so_far total tokens left in
    let next = c.in_ok-word.ensures.next total so.1.0 so.1.1.1.1.1 in
    let letter : BeginsWithLetter c.in_ok-word.word.bytes = search rules in
    let named = rw c.bytes-in-loop-word.ensures.value at ((c.key_of.ensures c.in-Some.key).0 c.in-Some.is) in
    let has = has_it c.loop-word.head so.0 c.in-Some.key so.1.1.1.1.0 (sym c.has.ensures ∙ c.if-has.true) in
    head_repeated _ c.demand.new.window total tokens next.0 so.0 c.stop-then-has.result c.in_ok-word.word c.in-Some.key so.1.1.0 (so.1.1.1.0 ∙ ap (λ (l : List TokenAt). flat so.0 ++ l) next.1.0) letter named has (rw c.place-then-has.ensures at c.stop-then-has.ensures)

pub returns-in_err-value-clause-read : goal.returns-in_err-value-clause-read
returns-in_err-value-clause-read g c = λ total tokens left.
    let so = c.loop-word.invariant.so_far total tokens left in
    let next = c.in_ok-word.ensures.next total so.1.0 so.1.1.1.1.1 in
    let letter : BeginsWithLetter c.in_ok-word.word.bytes = search rules in
    let named = rw c.bytes-in-loop-word.ensures.value at ((c.key_of.ensures c.in-Some.key).0 c.in-Some.is) in
    let new = has_not c.loop-word.head so.0 c.in-Some.key so.1.1.1.1.0 (sym c.has.ensures ∙ c.if-has.false) in
    let p = err_from_is_err_and c.from_residual-in_err-value.result c.from_residual-in_err-value.ensures.1 in
    rw (p.1, p.2) (head_value_end _ c.demand-in-loop-word.new.window total tokens next.0 so.0 c.in_err-value.field-0.0 c.in_ok-word.word c.in-Some.key so.1.1.0 (so.1.1.1.0 ∙ ap (λ (l : List TokenAt). flat so.0 ++ l) next.1.0) letter named new (c.in_err-value.ensures.next total next.0 (next.1.1 (key_few c.in_ok-word.word.bytes c.in-Some.key named))))

pub returns-in-Err-clause-read : goal.returns-in-Err-clause-read
returns-in-Err-clause-read g c = λ total tokens left.
    let so = c.loop-word.invariant.so_far total tokens left in
    let next = c.in_ok-word.ensures.next total so.1.0 so.1.1.1.1.1 in
    let letter : BeginsWithLetter c.in_ok-word.word.bytes = search rules in
    let named = rw c.bytes-in-loop-word.ensures.value at ((c.key_of.ensures c.in-Some.key).0 c.in-Some.is) in
    let new = has_not c.loop-word.head so.0 c.in-Some.key so.1.1.1.1.0 (sym c.has.ensures ∙ c.if-has.false) in
    let value = c.in_ok-value.ensures.next total next.0 (next.1.1 (key_few c.in_ok-word.word.bytes c.in-Some.key named)) in
    head_value _ c.demand-in-loop-word.new.window total tokens value.0 so.0 c.stop-in-Err.result c.in_ok-word.word c.in_ok-value.value c.in-Some.key c.in-Err.reason c.place-place.result so.1.1.0
    (so.1.1.1.0 ∙ ap (λ (l : List TokenAt). flat so.0 ++ l) (next.1.0 ∙ ap (λ (l : List TokenAt). c.in_ok-word.word ∷ l) value.1.0)) letter named new (c.in-Err.ensures.err so.0 so.1.1.1.1.0) c.place-place.ensures c.stop-in-Err.ensures

pub loop-word-preserved : goal.loop-word-preserved
loop-word-preserved g c = record {
  faults = c.in_ok-value.ensures.counted ∙ c.in_ok-word.ensures.counted ∙ c.loop-word.invariant.faults;
  fair = (rw c.in_default-take_value.is at c.take_value.ensures).fair c.loop-word.invariant.fair;
  so_far = λ total tokens left.
      let so = c.loop-word.invariant.so_far total tokens left in
      let next = c.in_ok-word.ensures.next total so.1.0 so.1.1.1.1.1 in
      let letter : BeginsWithLetter c.in_ok-word.word.bytes = search rules in
      let named = rw c.bytes-in-loop-word.ensures.value at ((c.key_of.ensures c.in-Some.key).0 c.in-Some.is) in
      let new = has_not c.loop-word.head so.0 c.in-Some.key so.1.1.1.1.0 (sym c.has.ensures ∙ c.if-has.false) in
      let value = c.in_ok-value.ensures.next total next.0 (next.1.1 (key_few c.in_ok-word.word.bytes c.in-Some.key named)) in
      let p : Pair = record { word = c.in_ok-word.word; key = c.in-Some.key; value = c.in_ok-value.value } in
      let done = rw c.in_default-take_value.is at c.take_value.ensures in
      let stands = done.stands so.0 so.1.1.1.1.0 in (
        so.0 ++ p ∷ [],
        (
          value.0,
          (
            are_more [] so.0 p so.1.1.0 (letter, (named, (new, stands))),
            (
              joined_more tokens value.0 so.0 p (so.1.1.1.0 ∙ ap (λ (l : List TokenAt). flat so.0 ++ l) (next.1.0 ∙ ap (λ (l : List TokenAt). c.in_ok-word.word ∷ l) value.1.0)),
              (done.kept so.0 c.in_ok-word.word so.1.1.1.1.0, value.1.1 (value_few so.0 c.in-Some.key c.in_ok-value.value.bytes stands)),
            ),
          ),
        ),
      );
}
