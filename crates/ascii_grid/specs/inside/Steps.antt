-- What the steps of reading a text leave.
use Rattle.std.specs.Prelude.{◌≡◌, ◌≢◌, ℕ, ◌+◌, ◌<◌, ◌≤◌, Bool, false, List, [], ◌∷◌, ◌++◌, length, Option, Result, Ok, Err, All}
use Rattle.ascii_grid.specs.declared.fault.AsciiFault.{AsciiFault}
use Rattle.ascii_grid.specs.declared.fault.AsciiStop.{AsciiStop}
use Rattle.ascii_grid.specs.declared.fault.AsciiStop.TheVariants.{Fault, Source, OutOfMemory}
use Rattle.ascii_grid.specs.Tokens.{EndsToken, IsDark, TokenAt, limit}
use Rattle.ascii_grid.specs.Endings.{ending}
use Rattle.ascii_grid.specs.inside.Reading.{Ahead, Held, Left, TakesNext, begins_dark, tokens_of}
use Rattle.ascii_grid.specs.Tokens.{decided_front}
use Rattle.ascii_grid.specs.inside.Stops.{too_long}

-- blanks were gone past: these bytes are ahead, with the same tokens
pub record Skips (left : Option (List ℕ)) (window : Held) (from : ℕ) (text bytes : List ℕ)
    (more : Bool) : Type 0 where
  pub ahead : Ahead left window bytes
  pub total : window.place + length bytes ≡ from + length text
  pub tokens : tokens_of window.place bytes ≡ tokens_of from text
  pub within : window.place ≤ limit
  pub dark : begins_dark bytes ≡ more
  pub ends : more ≡ false → bytes ≡ []

-- no token is decided before the byte at the limit, and there is one
abbrev pub IsOver : AsciiFault → ℕ → List TokenAt → Type 0
IsOver f total tokens = (f ≡ too_long) × ((limit < total) × (decided_front tokens ≡ []))

abbrev pub Skipped : Result Bool AsciiStop → Option (List ℕ) → Held → ℕ → List ℕ → Type 0
Skipped (Ok more) left window from text =
    (bytes : List ℕ) × Skips left window from text bytes more
Skipped (Err (Fault f)) left window from text = IsOver f (from + length text) (tokens_of from text)
Skipped (Err Source) left window from text = Unit {0}
Skipped (Err OutOfMemory) left window from text = ⊥

-- the bytes of a token were taken, all or 33
pub record Takes (left : Option (List ℕ)) (window : Held) (from : ℕ) (text word bytes : List ℕ) :
    Type 0 where
  pub ahead : Ahead left window bytes
  pub joined : text ≡ word ++ bytes
  pub place : window.place ≡ from + length word
  pub within : window.place ≤ limit
  pub dark : All IsDark word
  pub few : length word ≤ 33
  pub ends : length word < 33 → EndsToken bytes × (bytes ≢ [] → window.place < limit)

-- some bytes of a token stand before the byte at the limit, fewer than 33
pub record CutOff (f : AsciiFault) (from : ℕ) (text word bytes : List ℕ) : Type 0 where
  pub fault : f ≡ too_long
  pub joined : text ≡ word ++ bytes
  pub some : bytes ≢ []
  pub place : from + length word ≡ limit
  pub dark : All IsDark word
  pub few : length word < 33

abbrev pub WordTaken : Result Unit AsciiStop → Option (List ℕ) → Held → ℕ → List ℕ → List ℕ → Type 0
WordTaken (Ok u) left window from text word =
    (bytes : List ℕ) × Takes left window from text word bytes
WordTaken (Err (Fault f)) left window from text word =
    (bytes : List ℕ) × CutOff f from text word bytes
WordTaken (Err Source) left window from text word = Unit {0}
WordTaken (Err OutOfMemory) left window from text word = ⊥

-- the next token was taken, or there is none
abbrev pub NextTaken : Result (Option TokenAt) AsciiStop → Option (List ℕ) → Held → ℕ → List TokenAt
    → Type 0
NextTaken (Ok found) left window total tokens = TakesNext left window total tokens found
NextTaken (Err (Fault f)) left window total tokens =
    (tokens ≡ []) × ((limit < total) × (f ≡ too_long))
NextTaken (Err Source) left window total tokens = Unit {0}
NextTaken (Err OutOfMemory) left window total tokens = ⊥

-- the next token was taken, or there is none and how the text ends was told
abbrev pub Demanded : Result TokenAt AsciiStop → Option (List ℕ) → Held → ℕ → List TokenAt → Type 0
Demanded (Ok token) left window total tokens =
    (ts : List TokenAt) × ((tokens ≡ token ∷ ts)
    × (length token.bytes < 33 → Left left window total ts))
Demanded (Err (Fault f)) left window total tokens =
    (tokens ≡ []) × ending total f.place f.reason
Demanded (Err Source) left window total tokens = Unit {0}
Demanded (Err OutOfMemory) left window total tokens = ⊥
