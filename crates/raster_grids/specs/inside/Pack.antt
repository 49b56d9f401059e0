-- What the parts of `grid_write` leave.
use Rattle.std.specs.Prelude.{◌≡◌, ℕ, List, ◌++◌, Option}
use Rattle.outside_io.specs.streams.Sink.{Holds}

-- of all these bytes the sink has taken some, some wait in a buffer, and the rest is still to be
-- made
pub record Sends (old new : Option (List ℕ)) (waiting rest all : List ℕ) : Type 0 where
  pub sent : List ℕ
  pub told : sent ++ (waiting ++ rest) ≡ all
  pub held : Holds old new sent
