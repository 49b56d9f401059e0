use Rattle.std.proofs.Common.{◌≡◌, ℕ, ◌+◌, ◌-◌, ◌≤◌, List, ◌++◌, length, All}
use Rattle.ascii_grid.specs.inside.Reading.{Ahead}
use Rattle.ascii_grid.specs.Tokens.{IsDark, limit}
use Rattle.ascii_grid.proofs.token.take_dark.Given as goal

abbrev pub invariant-loop-window : goal.invariant-loop-window
invariant-loop-window g l = record {
  faults : g.S.Source.faults l.src ≡ g.S.Source.faults l.fn.src;
  place : l.token.place ≡ l.fn.token.place;
  within : l.window.place ≤ limit;
  few : length l.token.bytes ≤ 33;
  dark : All IsDark l.token.bytes;
  at : l.window.place ≡ l.fn.window.place + length l.token.bytes;
  ahead : (text : List ℕ) → Ahead (g.S.Source.left l.fn.src) l.fn.window text → (bytes : List ℕ)
      × (Ahead (g.S.Source.left l.src) l.window bytes × (text ≡ l.token.bytes ++ bytes));
}

abbrev pub decreases-loop-window : goal.decreases-loop-window
decreases-loop-window g l = 33 - length l.token.bytes
