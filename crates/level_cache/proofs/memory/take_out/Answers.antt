use Rattle.std.proofs.Common.{◌∙◌, IfSome, List, subst, sym, ap, length}
use Rattle.level_cache.specs.declared.memory.Kept.{Kept}
use Rattle.level_cache.specs.inside.Places.{Takes}
use Rattle.level_cache.proofs.Places.{whole}
use Rattle.level_cache.proofs.memory.take_out.Goals as goal

pub returns-clause-takes : goal.returns-clause-takes
returns-clause-takes c =
    let value = c.deref_mut.ensures.value in
    let many = c.take_from.ensures.many ∙ ap length value in
    subst (λ (ks : List Kept). IfSome c.take_from.result (λ r. Takes c.args.base c.args.places.now.items ks r.0 r.1))
    (sym (whole c.take_from.new.places c.args.places.now.items _ many (ap length (sym value) ∙ c.deref_mut.ensures.len)))
    (subst (λ (ks : List Kept). IfSome c.take_from.result (λ r. Takes c.args.base ks c.take_from.new.places r.0 r.1)) value c.take_from.ensures.takes)

pub returns-clause-same : goal.returns-clause-same
returns-clause-same c = λ none.
    let value = c.deref_mut.ensures.value in
    let many = c.take_from.ensures.many ∙ ap length value in
    whole c.take_from.new.places c.args.places.now.items _ many (ap length (sym value) ∙ c.deref_mut.ensures.len) ∙ (c.take_from.ensures.same none ∙ value)
