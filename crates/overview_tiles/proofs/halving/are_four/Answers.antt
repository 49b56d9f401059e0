use Rattle.std.proofs.Common.{List, ℕ, length, get_or, replicate, ap, ◌∙◌, arith}
use Rattle.std.proofs.lemmas.List.{get_or-replicate, get_or-take}
use Rattle.overview_tiles.proofs.halving.are_four.Goals as goal

pub returns : goal.returns
returns c same k less =
    let n = length c.args.counts.now in
    ap (λ (l : List ℕ). get_or l k 0) (c.are_same.ensures.0 same) ∙ get_or-take n (replicate 256 4) k 0 less ∙ get_or-replicate 256 k 4 0 (omega (arith, less, c.requires))
