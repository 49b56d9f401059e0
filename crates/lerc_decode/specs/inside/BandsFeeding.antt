-- Feeding a decoder of bands from a source.
use Rattle.std.specs.Prelude.{◌≡◌, ℕ, ◌+◌, ◌-◌, List, ◌++◌, length, Option, None, Some, IfSome}
use Rattle.lerc_decode.specs.Decoding.{HasHeader}
use Rattle.lerc_decode.specs.Reading.{BandsStage, InBlob, Behind, NoMemory, BandsDecoding}
use Rattle.lerc_decode.specs.Reading.{WholeFront, IsAfter}

-- What a source had is what the decoder took and what the source has left. None is a source that
-- does not tell its bytes.
abbrev pub Reads : Option (List ℕ) → Option (List ℕ) → BandsDecoding → Type 0
Reads None new d = (new ≡ None) × ((taken : List ℕ) × IsAfter taken d)
Reads (Some input) new d = (taken : List ℕ) × ((rest : List ℕ)
    × ((input ≡ taken ++ rest) × ((new ≡ Some rest) × IsAfter taken d)))

-- where memory was refused the input has a header
abbrev pub ReadsAt : BandsStage → Option (List ℕ) → Type 0 → Type 0
ReadsAt NoMemory first reads = IfSome first HasHeader
ReadsAt _ first reads = reads

abbrev pub HasRead : Option (List ℕ) → Option (List ℕ) → BandsDecoding → Type 0
HasRead first new d = ReadsAt d.stage first (Reads first new d)

-- how many bytes were taken
abbrev pub reached : WholeFront → BandsStage → ℕ
reached f (InBlob d) = f.place + length d.taken
reached f (Behind have) = f.place + have
reached f _ = 0

-- a number that falls with each byte taken, and to 0 where nothing more is decided
abbrev pub room_at : WholeFront → BandsStage → ℕ
room_at f (InBlob d) = 2147483650 - (f.place + length d.taken)
room_at f (Behind have) = 2147483650 - (f.place + have)
room_at f _ = 0

abbrev pub room_of : BandsDecoding → ℕ
room_of d = room_at d.front d.stage

-- 1 where more is decided
abbrev pub live_at : BandsStage → ℕ
live_at (InBlob d) = 1
live_at (Behind have) = 1
live_at _ = 0
