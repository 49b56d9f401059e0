-- What was asked of a volume in memory, and the bytes that were written.
use Rattle.std.specs.Prelude.{ℕ, ◌+◌, ◌^◌, ◌≤◌, length, max, List, [], ◌∷◌, take, drop, map, Option, Some, None, Bool, true, false}
use Rattle.outside_io.specs.declared.volume.VolFile.{VolFile}
use Rattle.outside_io.specs.declared.volume.VolFile.TheVariants.{Bundle, Journal}
use Rattle.outside_io.specs.declared.volume.call_log.Ask.{Ask}
use Rattle.outside_io.specs.declared.volume.call_log.Ask.TheVariants.{Look, Write, Cut, Sync}
use Rattle.outside_io.specs.declared.volume.call_log.Call.{Call}
use Rattle.outside_io.specs.volume.Disk.{Disk, file_of}
use Rattle.outside_io.specs.volume.Recorded.{Effect, disk_after}

abbrev pub effect : List ℕ → Call → Effect
effect written c = record { ask = c.ask; bytes = take c.count (drop c.from written) }

abbrev pub effects : List ℕ → List Call → List Effect
effects written = map (effect written)

-- the bytes of each call are there
abbrev pub AllInPool : ℕ → List Call → Type 0
AllInPool n [] = Unit {0}
AllInPool n (c ∷ cs) = (c.from + c.count ≤ n) × AllInPool n cs

-- where the file is written
abbrev pub place_in : Ask → VolFile → Option ℕ
place_in (Write Bundle at) Bundle = Some at
place_in (Write Journal at) Journal = Some at
place_in _ _ = None

abbrev pub with_piece : Option ℕ → List ℕ → List (ℕ × List ℕ) → List (ℕ × List ℕ)
with_piece None bytes rest = rest
with_piece (Some at) bytes rest = (at, bytes) ∷ rest

-- what was written to the file
abbrev pub written_pieces : VolFile → List Effect → List (ℕ × List ℕ)
written_pieces file [] = []
written_pieces file (s ∷ ss) = with_piece (place_in s.ask file) s.bytes (written_pieces file ss)

-- the end of what is written can be named
abbrev pub EndsWithin : Ask → ℕ → Type 0
EndsWithin (Write file at) n = at + n ≤ 2 ^ 62
EndsWithin _ n = Unit {0}

-- the length of a file after a call
abbrev pub len_after : VolFile → Ask → ℕ → ℕ → ℕ
len_after Bundle (Write Bundle at) len n = max len (at + n)
len_after Journal (Write Journal at) len n = max len (at + n)
len_after Bundle (Cut Bundle to) len n = to
len_after Journal (Cut Journal to) len n = to
len_after _ _ len n = len

abbrev pub AllEndWithin : List Call → Type 0
AllEndWithin [] = Unit {0}
AllEndWithin (c ∷ cs) = EndsWithin c.ask c.count × AllEndWithin cs

-- a sync of the file
abbrev pub syncs : Ask → VolFile → Bool
syncs (Sync Bundle) Bundle = true
syncs (Sync Journal) Journal = true
syncs _ _ = false

-- the place of the call lies in the file
abbrev pub Fits : Ask → Disk → Type 0
Fits Look d = Unit {0}
Fits (Write file at) d = at ≤ length (file_of file d).now
Fits (Cut file len) d = len ≤ length (file_of file d).now
Fits (Sync file) d = Unit {0}

abbrev pub AllFit : List Effect → Disk → Type 0
AllFit [] d = Unit {0}
AllFit (s ∷ ss) d = Fits s.ask d × AllFit ss (disk_after s.ask s.bytes d)
