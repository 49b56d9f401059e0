-- What a call leaves of an object that it is lent: one record for each kind of object, of what was
-- told of it before the call and behind it. What an object tells is None, or false, where it tells
-- nothing.
use Rattle.std.specs.Prelude.{◌≡◌, ℕ, List, Option, Bool}
use Rattle.outside_io.specs.volume.History.{History}

-- before a call, and behind it
pub record Change (X : Type 0) : Type 0 where
  pub old : X
  pub new : X

-- Of a source: whether it is as it was, the bytes left, the count of its faults.
pub record SourceMove : Type 1 where
  pub same : Type 0
  pub left : Change (Option (List ℕ))
  pub faults : Change ℕ

-- Of a sink: whether it is as it was, the bytes that it holds, the count of its faults.
pub record SinkMove : Type 1 where
  pub same : Type 0
  pub held : Change (Option (List ℕ))
  pub faults : Change ℕ

-- Of a volume: whether it is as it was, whether it tells its files, what they were at each moment,
-- the count of its faults.
pub record VolumeMove : Type 1 where
  pub same : Type 0
  pub told : Change Bool
  pub history : Change History
  pub faults : Change ℕ

abbrev pub source_move : {X : Type 0} → (X → Option (List ℕ)) → (X → ℕ) → X → X → SourceMove
source_move left faults old new = record {
  same = new ≡ old;
  left = record { old = left old; new = left new };
  faults = record { old = faults old; new = faults new };
}

abbrev pub sink_move : {X : Type 0} → (X → Option (List ℕ)) → (X → ℕ) → X → X → SinkMove
sink_move held faults old new = record {
  same = new ≡ old;
  held = record { old = held old; new = held new };
  faults = record { old = faults old; new = faults new };
}

abbrev pub volume_move : {X : Type 0} → (X → Bool) → (X → History) → (X → ℕ) → X → X → VolumeMove
volume_move told history faults old new = record {
  same = new ≡ old;
  told = record { old = told old; new = told new };
  history = record { old = history old; new = history new };
  faults = record { old = faults old; new = faults new };
}
