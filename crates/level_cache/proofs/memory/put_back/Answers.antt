use Rattle.std.proofs.Common.{◌∙◌, List, subst, sym, ap, length}
use Rattle.level_cache.specs.declared.memory.Kept.{Kept}
use Rattle.level_cache.specs.inside.Places.{PutsBackAt}
use Rattle.level_cache.proofs.Places.{whole}
use Rattle.level_cache.proofs.memory.put_back.Goals as goal

pub returns : goal.returns
returns c =
    let value = c.deref_mut.ensures.value in
    let many = c.put_at.ensures.many ∙ ap length value in
    subst (λ (ks : List Kept). PutsBackAt c.args.at c.args.places.now.items ks c.args.vol)
    (sym (whole c.put_at.new.places c.args.places.now.items _ many (ap length (sym value) ∙ c.deref_mut.ensures.len)))
    (subst (λ (ks : List Kept). PutsBackAt c.args.at ks c.put_at.new.places c.args.vol) value c.put_at.ensures.lies)
