-- The verdict on a whole input that is to be the blobs of bands: there is one.
use Rattle.std.proofs.Common.{◌≡◌, ℕ, List}
use Rattle.raster_values.specs.Raster.{Pixels}
use Rattle.lerc_grammar.specs.declared.bands.BandReason.{BandReason}
use Rattle.lerc_grammar.specs.Bands.{BandsBlob, BandsFaultAt, Decoded, Refused}
use Rattle.lerc_grammar.proofs.BandsOnce.{one_bands_verdict}

pub one_list : (input : List ℕ) (bands others : List Pixels) → BandsBlob input bands → BandsBlob input others → bands ≡ others
one_list input bands others a b =
    let same = one_bands_verdict input (Decoded bands) (Decoded others) a b in
    let is : bands ≡ others = cc in is

pub bands_or_fault : (input : List ℕ) (bands : List Pixels) (place : ℕ) (reason : BandReason) → BandsBlob input bands → BandsFaultAt input place reason → ⊥
bands_or_fault input bands place reason a f =
    let same = one_bands_verdict input (Decoded bands) (Refused place reason) a f in absurd cc

pub one_whole_fault : (input : List ℕ) (p q : ℕ) (a b : BandReason) → BandsFaultAt input p a → BandsFaultAt input q b → (p ≡ q) × (a ≡ b)
one_whole_fault input p q a b f g =
    let same = one_bands_verdict input (Refused p a) (Refused q b) f g in
    let place : p ≡ q = cc in
    let reason : a ≡ b = cc in (place, reason)
