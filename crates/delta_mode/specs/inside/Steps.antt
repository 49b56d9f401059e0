-- How a state goes on.
use Rattle.std.specs.Prelude.{ℕ, ◌≡◌, ◌+◌, false, pos}
use Rattle.delta_mode.specs.declared.giving.EncodeState.{EncodeState}
use Rattle.delta_mode.specs.declared.walk.Walk.{Walk}

-- by so many pixels of the same depth
pub record IsFurther (old new : EncodeState) (count : ℕ) (walk : Walk) : Type 0 where
  pub d : new.d ≡ old.d
  pub place : new.place ≡ old.place + count
  pub walk_is : new.walk ≡ walk

-- to the first pixel of the next depth
pub record IsDeeper (old new : EncodeState) : Type 0 where
  pub d : new.d ≡ old.d + 1
  pub place : new.place ≡ 0
  pub left : new.walk.left ≡ false
  pub last : new.walk.last ≡ pos 0
  pub none : new.walk.count ≡ 0
