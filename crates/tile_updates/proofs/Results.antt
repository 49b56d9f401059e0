-- What is known of results.
use Rattle.std.proofs.Common.{◌≡◌, ℕ, List, Option, subst}
use Rattle.std.specs.Prelude.{Result, Ok, Err, IfErr, IfOk, OnOk}
use Rattle.lerc_header.specs.declared.header.Version.{Version}
use Rattle.tile_updates.specs.declared.stop.StreamStop.{StreamStop}
use Rattle.tile_updates.specs.Stops.{TellsStop}
use Rattle.tile_updates.specs.inside.SoFar.{IsFree}

-- what holds anyway holds of an Ok
pub on_ok : {X E : Type 0} (r : Result X E) (P : Type 0) → P → OnOk r P
on_ok (Ok x) P p = p
on_ok (Err e) P p = tt

-- what holds of an Ok holds here
pub at_ok : {X E : Type 0} (r : Result X E) (x : X) (P : X → Type 0) → r ≡ Ok x → IfOk r P → P x
at_ok (Ok y) x P is h = let same : y ≡ x = cc in subst P same h
at_ok (Err e) x P is h = absurd (cc)

pub there_ok : {X E : Type 0} (r : Result X E) (x : X) (P : Type 0) → r ≡ Ok x → OnOk r P → P
there_ok (Ok y) x P is h = h
there_ok (Err e) x P is h = absurd (cc)

-- a stop that may be told of any input may be told of this one
pub free_of : {X : Type 0} (v : Version) (step : ℕ) (input : Option (List ℕ)) (r : Result X StreamStop) → IfErr r (IsFree v) → IfErr r (TellsStop v step input)
free_of v step input (Ok x) h = tt
free_of v step input (Err e) h = h step input
