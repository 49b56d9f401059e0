-- The clock of a volume, and the stated disk at each moment.
use Rattle.std.specs.Prelude.{◌≡◌, ℕ, ◌+◌, ◌-◌, ◌^◌, ◌<◌, ◌≤◌, min, List, ◌++◌, length, take, drop, Result, OnOk}
use Rattle.outside_io.specs.declared.volume.VolFile.{VolFile}
use Rattle.outside_io.specs.volume.Disk.{Disk, IsImage, file_of}

-- The clock, and the disk at each moment so far. A crash inside a call leaves an image of the moment before it or of
-- the moment after it.
pub record History : Type 0 where
  pub moment : ℕ
  pub disk_at : ℕ → Disk

abbrev pub current : History → Disk
current h = h.disk_at h.moment

-- what a read gives
abbrev pub contents : VolFile → History → List ℕ
contents file h = (file_of file (current h)).now

-- What a read gives has always been one of the images.
pub record IsPresent (h : History) : Type 0 where
  pub bundle : (t : ℕ) → t ≤ h.moment → IsImage (h.disk_at t).bundle (h.disk_at t).bundle.now
  pub journal : (t : ℕ) → t ≤ h.moment → IsImage (h.disk_at t).journal (h.disk_at t).journal.now

-- n bytes were read, as many as there are from the place on, into the front of a buffer
pub record ReadsAt (file : List ℕ) (at n : ℕ) (old new : List ℕ) : Type 0 where
  pub count : n ≡ min (length old) (length file - at)
  pub bytes : new ≡ take n (drop at file) ++ drop n old

-- A call takes one moment, and leaves the earlier ones as they were. At the clock's end it fails, and neither the
-- clock nor the files change.
pub record Ticks {T E : Type 0} (old new : History) (result : Result T E) : Type 0 where
  pub later : old.moment ≤ new.moment
  pub clock : new.moment ≡ min (old.moment + 1) (2 ^ 64 - 1)
  pub past : (t : ℕ) → t ≤ old.moment → new.disk_at t ≡ old.disk_at t
  pub room : OnOk result (old.moment < 2 ^ 64 - 1)

-- Over a run of calls: the moments before it are as they were, and at each moment from its start to its end P holds of
-- the moment and the disk.
pub record DuringAt (P : ℕ → Disk → Type 0) (old new : History) : Type 0 where
  pub later : old.moment ≤ new.moment
  pub past : (t : ℕ) → t ≤ old.moment → new.disk_at t ≡ old.disk_at t
  pub each : (t : ℕ) → old.moment ≤ t → t ≤ new.moment → P t (new.disk_at t)

-- the same, where P is of the disk alone
abbrev pub During : (Disk → Type 0) → History → History → Type 0
During P old new = DuringAt (λ _ d. P d) old new
