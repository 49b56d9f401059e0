-- A volume in memory, by what its files held first and what was done to them.
use Rattle.std.specs.Prelude.{◌≡◌, ◌⊎◌, ℕ, ◌+◌, ◌-◌, ◌^◌, ◌<◌, ◌≤◌, min, List, [], ◌∷◌, length, take, map, Option, IsSomeAnd, Result, OnOk, OnErr, Contains}
use Rattle.outside_io.specs.declared.volume.call_log.Ask.{Ask}
use Rattle.outside_io.specs.declared.volume.call_log.Ask.TheVariants.{Look, Write, Cut, Sync}
use Rattle.outside_io.specs.streams.Faults.{one_more}
use Rattle.outside_io.specs.volume.Disk.{Disk, change, settled, shortened, synced, wrote}
use Rattle.outside_io.specs.volume.History.{History}
use Rattle.outside_io.specs.volume.Sparse.{SparseFile, as_byte, sparse_bytes}

-- what a call did, and with which bytes
pub record Effect : Type 0 where
  pub ask : Ask
  pub bytes : List ℕ

-- What a call does to the disk. Places past the file's end count as its end.
abbrev pub disk_after : Ask → List ℕ → Disk → Disk
disk_after Look bytes d = d
disk_after (Write file at) bytes d = change file (λ f. wrote (min at (length f.now)) bytes f) d
disk_after (Cut file len) bytes d = change file (λ f. shortened (min len (length f.now)) f) d
disk_after (Sync file) bytes d = change file synced d

-- what the calls do, one after the other
abbrev pub replay : List Effect → Disk → Disk
replay [] d = d
replay (s ∷ ss) d = replay ss (disk_after s.ask s.bytes d)

-- how many bytes the calls wrote
abbrev pub sum_written : List Effect → ℕ
sum_written [] = 0
sum_written (s ∷ ss) = length s.bytes + sum_written ss

-- the call with its numbers as bytes
abbrev pub clean : Effect → Effect
clean s = record { ask = s.ask; bytes = map as_byte s.bytes }

pub record Recorded : Type 0 where
  -- what the files held first
  pub bundle : SparseFile
  pub journal : SparseFile
  -- the calls so far, by what each did; one that failed or only read did nothing
  pub effects : List Effect
  -- the number of the next call
  pub clock : ℕ
  pub faults : ℕ
  -- when it fails
  pub failing : List ℕ
  pub stop : Option ℕ
  pub calls : ℕ
  pub room : ℕ

-- what the files held first
abbrev pub first_of : SparseFile → SparseFile → Disk
first_of bundle journal = record {
  bundle = settled (sparse_bytes bundle);
  journal = settled (sparse_bytes journal);
}

-- the disk at a moment is what the calls before it made of the first one
abbrev pub history_of : Recorded → History
history_of r = record {
  moment = r.clock;
  disk_at = λ t. replay (map clean (take t r.effects)) (first_of r.bundle r.journal);
}

-- a volume of which nothing has been asked
abbrev pub first_record : SparseFile → SparseFile → List ℕ → Option ℕ → ℕ → ℕ → Recorded
first_record bundle journal failing stop calls room = record {
  bundle = bundle;
  journal = journal;
  effects = [];
  clock = 0;
  faults = 0;
  failing = failing;
  stop = stop;
  calls = calls;
  room = room;
}

-- The next call has to fail, whatever it is: its number was named, or is not below `stop` or
-- `calls`, or the clock stands at its end.
abbrev pub MustFail : Recorded → Type 0
MustFail r =
    Contains r.failing r.clock
    ⊎ (IsSomeAnd r.stop (λ from. from ≤ r.clock)
    ⊎ ((r.calls ≤ r.clock) ⊎ (r.clock ≡ 2 ^ 64 - 1)))

-- The next call has to fail where it is a write of so many bytes: `room` counts for writes alone.
abbrev pub MustFailToWrite : Recorded → ℕ → Type 0
MustFailToWrite r more = MustFail r ⊎ (r.room < sum_written r.effects + more)

-- What a call that writes so many bytes leaves as it is, how many bytes are written after it, and
-- that a failure is counted once.
pub record KeepsRecord {T E : Type 0} (old new : Recorded) (more : ℕ)
    (result : Result T E) : Type 0 where
  pub kept : new ≡ record old { effects = new.effects; clock = new.clock; faults = new.faults }
  pub written : OnOk result (sum_written new.effects ≡ sum_written old.effects + more)
  pub none_written : OnErr result (sum_written new.effects ≡ sum_written old.effects)
  pub same_faults : OnOk result (new.faults ≡ old.faults)
  pub one_fault : OnErr result (new.faults ≡ one_more old.faults)
