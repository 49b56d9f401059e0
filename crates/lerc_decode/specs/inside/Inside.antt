-- What a decoder holds.
use Rattle.std.specs.Prelude.{◌≡◌, ℕ, ◌<◌, ◌≤◌, nat_eq, if◌then◌else◌, List, [], length, take}
use Rattle.lerc_header.specs.Head.{head_length}
use Rattle.lerc_decode.specs.declared.streams.decoder.Decoder.TheInside.{Inside}
use Rattle.lerc_decode.specs.declared.streams.decoder.Progress.{Progress}
use Rattle.lerc_decode.specs.declared.streams.decoder.Progress.TheVariants.{Key as AtKey}
use Rattle.lerc_decode.specs.declared.streams.decoder.Progress.TheVariants.{Fields as AtFields}
use Rattle.lerc_decode.specs.declared.streams.decoder.Progress.TheVariants.{Body as AtBody}
use Rattle.lerc_decode.specs.declared.streams.decoder.Progress.TheVariants.{Done as AtDone}
use Rattle.lerc_decode.specs.inside.Stages.{stage_of}
use Rattle.lerc_decode.specs.Decoding.{Decoding, IsStageOf}

-- the bytes taken stand in the array, until the header is whole
abbrev pub taken_of : Inside → List ℕ
taken_of a = if nat_eq (length a.blob.items) 0 then take a.have a.head else a.blob.items

abbrev pub seen : Inside → Decoding
seen a = record { taken = taken_of a; stage = stage_of a.progress; before = a.before }

-- the bytes are kept in the vector from the whole header on, and before that in the array alone
abbrev pub IsKept : Inside → Progress → Type 0
IsKept a AtKey = (a.blob.items ≡ []) × (a.have < 10)
IsKept a (AtFields v) = (a.blob.items ≡ []) × (a.have < head_length v)
IsKept a (AtBody h) = 0 < length a.blob.items
IsKept a (AtDone r) = 0 < length a.blob.items
IsKept a _ = Unit {0}

pub record IsInside (a : Inside) : Type 0 where
  pub room : length a.head ≡ 66
  pub within : a.have ≤ 66
  pub kept : IsKept a a.progress
  pub stands : IsStageOf a.before (taken_of a) (stage_of a.progress)
