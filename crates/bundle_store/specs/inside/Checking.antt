-- What the parts of a check give.
use Rattle.std.specs.Prelude.{◌≡◌, ℕ, ◌+◌, ◌*◌, ◌≤◌, ◌==◌, Bool, if◌then◌else◌, List, Option, Some, None}
use Rattle.bundle_index.specs.Entry.{entry_at}
use Rattle.bundle_store.specs.Check.{is_bad}
use Rattle.bundle_store.specs.declared.check.CheckReport.{CheckReport}
use Rattle.bundle_store.specs.declared.check.Look.{Look}

-- so many slots leave the report's numbers below their limits
pub record IsSmall (slots : ℕ) (report : CheckReport) : Type 0 where
  pub tiles : report.tiles ≤ slots
  pub bytes : report.bytes ≤ slots * 16777216
  pub bad : report.bad ≤ slots

-- the first bad slot once one more slot was looked at
abbrev pub first_bad_with : Option ℕ → ℕ → Bool → Option ℕ
first_bad_with (Some first) slot bad = Some first
first_bad_with None slot bad = if bad then Some slot else None

-- a report, and the one with one slot more
pub record NextReport (slot size : ℕ) (is : Bool) (old now : CheckReport) : Type 0 where
  pub tiles : now.tiles ≡ old.tiles + (if size == 0 then 0 else 1)
  pub bytes : now.bytes ≡ old.bytes + size
  pub bad : now.bad ≡ old.bad + (if is then 1 else 0)
  pub first_bad : now.first_bad ≡ first_bad_with old.first_bad slot is

-- a slot's size, and whether its entry is bad
pub record Sees (bundle : List ℕ) (slot : ℕ) (l : Look) : Type 0 where
  pub size : l.size ≡ (entry_at bundle slot).size
  pub bad : l.bad ≡ is_bad bundle (entry_at bundle slot)
