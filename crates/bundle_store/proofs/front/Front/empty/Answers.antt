use Rattle.bundle_store.proofs.front.Front.empty.Goals as goal

pub returns : goal.returns
returns c = c.in_ok-index.ensures.items_if_clones_equal (λ y is. is)
