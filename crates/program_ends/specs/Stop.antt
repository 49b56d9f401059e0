-- How a run ends: its status, the line that is given to the error output, and what of the output.
use Rattle.std.specs.Prelude.{◌≡◌, ◌⊎◌, ℕ, ◌<◌, List, [], ◌∷◌, ◌++◌, codes, Option, Result, Ok, Err}
use Rattle.outside_io.specs.program.Line.{GivesLine}
use Rattle.outside_io.specs.streams.Sink.{Holds, HoldsPrefix}
use Rattle.program_ends.specs.Moves.{Change, SinkMove}
use Rattle.program_ends.specs.declared.stop.Stop.{Stop}
use Rattle.program_ends.specs.declared.stop.Stop.TheVariants.{Usage, Source, Output, Volume, OutOfMemory, Refused}

-- how a run ends: well, or with its stop
abbrev pub End : Type 0 → Type 0
End R = Result (Unit {0}) (Stop R)

-- a status that a program may give to its own reasons: the others are those of the other stops
abbrev pub IsRefusalStatus : ℕ → Type 0
IsRefusalStatus status = (status ≡ 2) ⊎ (6 < status)

-- the status of a stop, where the reasons have theirs
abbrev pub status_by : {R : Type 0} → (R → ℕ) → Stop R → ℕ
status_by status Usage = 1
status_by status Source = 3
status_by status Output = 4
status_by status Volume = 5
status_by status OutOfMemory = 6
status_by status (Refused refusal) = status refusal

abbrev pub status_at : {R : Type 0} → (R → ℕ) → End R → ℕ
status_at status (Ok x) = 0
status_at status (Err stop) = status_by status stop

-- The text of a stop, where the reasons have theirs. Another one is the program's for words that
-- are no command.
abbrev pub text_by : {R : Type 0} → (R → List ℕ) → List ℕ → Stop R → List ℕ
text_by text usage Usage = usage
text_by text usage Source = codes "source failed"
text_by text usage Output = codes "output failed"
text_by text usage Volume = codes "volume failed"
text_by text usage OutOfMemory = codes "out of memory"
text_by text usage (Refused refusal) = text refusal

-- the line: the text and a line feed
unfoldable pub line_by : {R : Type 0} → (R → List ℕ) → List ℕ → Stop R → List ℕ
line_by text usage stop = text_by text usage stop ++ 10 ∷ []

-- the error output was given the line of the stop, and is as it was where all went well
abbrev pub GivesLineOf : {R : Type 0} → (R → List ℕ) → List ℕ → End R → SinkMove → Type 0
GivesLineOf text usage (Ok x) err = err.same
GivesLineOf text usage (Err stop) err =
    GivesLine err.held.old err.held.new err.faults.old err.faults.new (line_by text usage stop)

-- the output has gained the bytes, or where it failed a prefix of them
abbrev pub Gained : {R : Type 0} → End R → Change (Option (List ℕ)) → List ℕ → Type 0
Gained (Err Output) held bytes = HoldsPrefix held.old held.new bytes
Gained end held bytes = Holds held.old held.new bytes
