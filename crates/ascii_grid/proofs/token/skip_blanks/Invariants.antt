use Rattle.std.proofs.Common.{◌≡◌, ℕ, ◌+◌, ◌-◌, List, length}
use Rattle.ascii_grid.specs.inside.Reading.{Ahead, tokens_of}
use Rattle.ascii_grid.specs.Tokens.{limit}
use Rattle.ascii_grid.proofs.token.skip_blanks.Given as goal

abbrev pub invariant-loop-byte : goal.invariant-loop-byte
invariant-loop-byte g l = record {
  faults : g.S.Source.faults l.src ≡ g.S.Source.faults l.fn.src;
  ahead : (text : List ℕ) → Ahead (g.S.Source.left l.fn.src) l.fn.window text → (bytes : List ℕ)
      × (Ahead (g.S.Source.left l.src) l.window bytes
      × ((l.window.place + length bytes ≡ l.fn.window.place + length text)
      × (tokens_of l.window.place bytes ≡ tokens_of l.fn.window.place text)));
}

abbrev pub decreases-loop-byte : goal.decreases-loop-byte
decreases-loop-byte g l = limit - l.window.place
