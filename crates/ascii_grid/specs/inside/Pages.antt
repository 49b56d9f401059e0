-- Words that wait in a page to be given to a sink.
use Rattle.std.specs.Prelude.{◌≡◌, ℕ, List, ◌++◌, OnErr, OnOk, Option, Result}
use Rattle.outside_io.specs.declared.streams.failed.Failed.{Failed}
use Rattle.outside_io.specs.streams.Faults.{CountsFaults}
use Rattle.outside_io.specs.streams.Sink.{Holds, HoldsPrefix}
use Rattle.ascii_grid.specs.Canon.{Word, spelled}

-- Words were added to the bytes that wait; of all these some first ones were given, and the others
-- wait.
pub record Waits (old new : Option (List ℕ)) (before after : List ℕ) (words : List Word) :
    Type 0 where
  pub given : List ℕ
  pub held : Holds old new given
  pub joined : before ++ spelled words ≡ given ++ after

-- the sink failed, and has taken a prefix of them
abbrev pub Breaks : Option (List ℕ) → Option (List ℕ) → List ℕ → List Word → Type 0
Breaks old new before words = HoldsPrefix old new (before ++ spelled words)

-- Words were added and wait, or the sink failed; it failed only where its count of faults says so.
pub record Adds {K : Type 0} (held : K → Option (List ℕ)) (faults : K → ℕ)
    (result : Result (Unit {0}) Failed) (old new : K) (before after : List ℕ)
    (words : List Word) : Type 0 where
  pub ok : OnOk result (Waits (held old) (held new) before after words)
  pub err : OnErr result (Breaks (held old) (held new) before words)
  pub counted : CountsFaults result (faults old) (faults new)

-- These bytes were given, or the sink failed and has taken a prefix of them; likewise.
pub record Gives {K : Type 0} (held : K → Option (List ℕ)) (faults : K → ℕ)
    (result : Result (Unit {0}) Failed) (old new : K) (bytes : List ℕ) : Type 0 where
  pub ok : OnOk result (Holds (held old) (held new) bytes)
  pub err : OnErr result (HoldsPrefix (held old) (held new) bytes)
  pub counted : CountsFaults result (faults old) (faults new)
