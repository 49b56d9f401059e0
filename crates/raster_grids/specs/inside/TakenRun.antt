-- A run of values taken from a source.
use Rattle.std.specs.Prelude.{ℕ, ◌<◌, ◌≤◌, List, length, Option, Result, Ok, Err, ◌≡◌, ◌-◌, ◌++◌, get_or, take, drop, None, Some, ◌+◌, ◌*◌}
use Rattle.outside_io.specs.declared.streams.failed.Failed.{Failed}
use Rattle.outside_io.specs.streams.Source.{TakesFront, IsAtEnd}
use Rattle.raster_cells.specs.PixelType.{bytes_of}
use Rattle.raster_cells.specs.CellList.{CellList, values_in}

-- as many bytes as the run has were taken, or fewer and then none is left; where the source failed
-- nothing is said
abbrev pub TakesRun : Result ℕ Failed → Option (List ℕ) → Option (List ℕ) → List ℕ → Type 0
TakesRun (Ok n) old new run = (n ≤ length run)
    × (TakesFront old new n run × (n < length run → IsAtEnd new))
TakesRun (Err e) old new run = Unit {0}

-- some bytes were laid over those from `from` to `end`, of which P holds
pub record Laid (from end : ℕ) (old new : List ℕ) (P : List ℕ → Type 0) : Type 0 where
  pub run : List ℕ
  pub size : length run ≡ end - from
  pub small : (i : ℕ) → get_or run i 0 < 256
  pub laid : new ≡ take from old ++ (run ++ drop end old)
  pub of_run : P run

-- bytes of a source that wait to be asked for, and how many more may be taken from it
pub record AheadOf : Type 0 where
  pub waiting : List ℕ
  pub more : ℕ

-- the bytes that wait, and behind them those that the source has left, where it tells them
abbrev pub behind : List ℕ → Option (List ℕ) → Option (List ℕ)
behind waiting None = None
behind waiting (Some left) = Some (waiting ++ left)

-- the same of values
pub record PutsRun (old new : CellList) (at count : ℕ) (P : List ℕ → Type 0) : Type 0 where
  pub run : List ℕ
  pub size : length run ≡ count * bytes_of old.kind
  pub small : (i : ℕ) → get_or run i 0 < 256
  pub put : new
      ≡ record old {
        values =
            take at old.values ++ (values_in old.kind count run ++ drop (at + count) old.values);
      }
  pub of_run : P run
