-- What a decoder of bands holds.
use Rattle.std.specs.Prelude.{ℕ, List}
use Rattle.lerc_decode.specs.declared.streams.bands.BandsDecoder.TheInside.{Inside}
use Rattle.lerc_decode.specs.Reading.{BandsDecoding, IsAfter}
use Rattle.lerc_decode.specs.inside.BandsStages.{stage_in}

abbrev pub seen_bands : Inside → BandsDecoding
seen_bands a = record { front = a.front; stage = stage_in a.progress }

-- it is a decoder after some bytes
abbrev pub IsInsideBands : Inside → Type 0
IsInsideBands a = (taken : List ℕ) × IsAfter taken (seen_bands a)
