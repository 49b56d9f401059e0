-- What each step of the decoder does.
use Rattle.std.specs.Prelude.{◌≡◌, ℕ, List, length}
use Rattle.lerc_decode.specs.Decoding.{Stage, Key, Fields, Body, Wrong, NoMemory, Decoding, IsSame}
use Rattle.lerc_decode.specs.States.{IsUsed}

-- the stage after a step over the key, all of the piece being used where it is not whole
abbrev pub AfterKey : Stage → Type 0 → Type 0
AfterKey Key all = all
AfterKey (Fields v) all = Unit {0}
AfterKey (Wrong place reason) all = Unit {0}
AfterKey _ all = ⊥

abbrev pub AfterFields : Stage → Type 0 → Type 0
AfterFields (Fields v) all = all
AfterFields (Body h) all = Unit {0}
AfterFields (Wrong place reason) all = Unit {0}
AfterFields NoMemory all = Unit {0}
AfterFields _ all = ⊥

abbrev pub AfterBody : Stage → Type 0 → Type 0
AfterBody (Body h) all = all
AfterBody Key all = ⊥
AfterBody (Fields v) all = ⊥
AfterBody _ all = Unit {0}

-- each step does nothing at another stage
abbrev pub StepsKey : Stage → Decoding → Decoding → List ℕ → ℕ → Type 0
StepsKey Key old new piece used = AfterKey new.stage (used ≡ length piece)
StepsKey _ old new piece used = IsSame old new used

abbrev pub StepsFields : Stage → Decoding → Decoding → List ℕ → ℕ → Type 0
StepsFields (Fields v) old new piece used = AfterFields new.stage (used ≡ length piece)
StepsFields _ old new piece used = IsSame old new used

abbrev pub StepsBody : Stage → Decoding → Decoding → List ℕ → ℕ → Type 0
StepsBody (Body h) old new piece used = AfterBody new.stage (used ≡ length piece)
StepsBody _ old new piece used = IsSame old new used

abbrev pub UsesKey : Stage → Stage → List ℕ → ℕ → Type 0
UsesKey Key new piece used = IsUsed new piece used
UsesKey _ new piece used = Unit {0}

abbrev pub UsesFields : Stage → Stage → List ℕ → ℕ → Type 0
UsesFields (Fields v) new piece used = IsUsed new piece used
UsesFields _ new piece used = Unit {0}

abbrev pub UsesBody : Stage → Stage → List ℕ → ℕ → Type 0
UsesBody (Body h) new piece used = IsUsed new piece used
UsesBody _ new piece used = Unit {0}
