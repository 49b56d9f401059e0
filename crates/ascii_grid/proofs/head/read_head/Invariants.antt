use Rattle.std.proofs.Common.{◌≡◌, ◌++◌, [], ℕ, List}
use Rattle.ascii_grid.specs.Tokens.{TokenAt}
use Rattle.ascii_grid.specs.Head.{ArePairs, Pair, flat}
use Rattle.ascii_grid.specs.inside.Heads.{IsFair, Keeps, missing}
use Rattle.ascii_grid.specs.inside.Reading.{Left}
use Rattle.ascii_grid.proofs.head.read_head.Given as goal

abbrev pub invariant-loop-word : goal.invariant-loop-word
invariant-loop-word g l = record {
  faults : g.S.Source.faults l.src ≡ g.S.Source.faults l.fn.src;
  fair : IsFair l.head;
  so_far : (total : ℕ) (tokens : List TokenAt) → Left (g.S.Source.left l.fn.src) l.fn.window total tokens
      → (ps : List Pair) × ((rest : List TokenAt) × (ArePairs [] ps × ((tokens ≡ flat ps ++ rest)
      × (Keeps l.head ps × Left (g.S.Source.left l.src) l.window total rest))));
}

abbrev pub decreases-loop-word : goal.decreases-loop-word
decreases-loop-word g l = missing l.head
