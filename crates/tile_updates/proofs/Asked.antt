-- What is known once one byte more was asked for.
use Rattle.std.proofs.Common.{◌≡◌, ℕ, ◌<◌, true, false, List, [], ◌∷◌, length, drop, Option, Some, None, refl, sym, ap, ◌∙◌, arith}
use Rattle.std.specs.Prelude.{Ok, Err}
use Rattle.outside_io.specs.declared.streams.failed.Failed.{Failed}
use Rattle.outside_io.specs.streams.Source.{IsAtEnd}
use Rattle.outside_io.specs.streams.Asks.{AsksOne}
use Rattle.raster_grids.specs.Taken.{TookBytes, TookSome}

-- some bytes, the first of which was asked for
pub record Taken (old new : Option (List ℕ)) : Type 0 where
  pub bytes : List ℕ
  pub some : 0 < length bytes
  pub took : TookBytes old new bytes

one_taken : (left : List ℕ) (new : Option (List ℕ)) → 0 < length left → new ≡ Some (drop 1 left) → Taken (Some left) new
one_taken [] new some is = absurd (omega (arith, some))
one_taken (x ∷ xs) new some is = record { bytes = x ∷ []; some = omega arith; took = (xs, (refl, is)) }

pub more_asked : (old new : Option (List ℕ)) → AsksOne (Ok true) old new → Taken old new
more_asked None new is = record { bytes = 0 ∷ []; some = omega arith; took = is }
more_asked (Some left) new (some, is) = one_taken left new some is

pub none_asked : (old new : Option (List ℕ)) → AsksOne (Ok false) old new → IsAtEnd old × (new ≡ old)
none_asked None new is = (tt, is)
none_asked (Some left) new (empty, is) = (empty, is ∙ ap Some (sym empty))

pub failure_asked : (e : Failed) (old new : Option (List ℕ)) → AsksOne (Err e) old new → TookSome old new
failure_asked e None new is = ([], is)
failure_asked e (Some left) new is = ([], (left, (refl, is)))
