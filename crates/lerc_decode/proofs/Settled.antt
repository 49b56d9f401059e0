-- Where a decoder of bands is when a piece of a blob came to something.
use Rattle.std.proofs.Common.{◌≡◌, ℕ, ◌+◌, ◌^◌, ◌<◌, ◌≤◌, List, [], ◌∷◌, ◌++◌, length, take, codes, Option, None, sym, ap, ◌∙◌, subst, arith}
use Rattle.std.proofs.lemmas.List.{length-append, length-take-le}
use Rattle.raster_values.specs.Bands.{MayBeBands}
use Rattle.lerc_grammar.specs.declared.bands.BandsFault.{BandsFault}
use Rattle.lerc_grammar.specs.Mask.{Previous}
use Rattle.lerc_grammar.specs.Bands.{FirstBandsFault, IsLeastFault}
use Rattle.lerc_decode.specs.declared.streams.bands.BandsProgress.{BandsProgress}
use Rattle.lerc_decode.specs.declared.streams.bands.BandsProgress.TheVariants.{Inside, Behind as AtKey, Refused as AtFault, OutOfMemory as AtNone}
use Rattle.lerc_decode.specs.declared.streams.turns.Ended.{Ended}
use Rattle.lerc_decode.specs.declared.streams.turns.Next.{Next}
use Rattle.lerc_decode.specs.declared.streams.turns.Next.TheVariants.{Ends, Refused}
use Rattle.lerc_decode.specs.Decoding.{Stage, Key, Fields, Body, Whole, Wrong as WrongBlob, NoMemory as NoneLeft, HasHeader, IsStageOf}
use Rattle.lerc_decode.specs.States.{IsUsed}
use Rattle.lerc_decode.specs.Reading.{WholeFront, Behind, IsFrontOf, IsAt}
use Rattle.lerc_decode.specs.inside.BandsStages.{stage_in, IsRaised}
use Rattle.lerc_decode.specs.inside.Turns.{with_blob, IsNext}
use Rattle.lerc_decode.proofs.BlobTurns.{header_before}
use Rattle.lerc_grammar.proofs.BlobPlaces.{bands_fault_within, blobs_few}
use Rattle.lerc_decode.proofs.Tiles.{front_next}

-- ---- a blob is whole

pub ends_may_be : (taken bytes : List ℕ) (f : WholeFront) (next : Next) (e : Ended) → next ≡ Ends e → IsNext taken f.bands bytes next → MayBeBands (f.bands ++ e.band ∷ [])
ends_may_be taken bytes f next e is n = (subst (IsNext taken f.bands bytes) is n).0.behind.may_be

pub ends_few : (taken bytes : List ℕ) (f : WholeFront) (next : Next) (e : Ended) → next ≡ Ends e → IsFrontOf bytes f → IsNext taken f.bands bytes next → f.place + length e.blob.items < 2 ^ 64
ends_few taken bytes f next e is front n =
    let there = subst (IsNext taken f.bands bytes) is n in
    omega (arith, front.0, length-append bytes e.blob.items, blobs_few None (bytes ++ e.blob.items) (f.bands ++ e.band ∷ []) there.0.behind.stand, there.0.behind.may_be.few)

pub ends_at : (taken bytes : List ℕ) (f g : WholeFront) (next : Next) (e : Ended) → next ≡ Ends e → g ≡ with_blob f e.band e.blob.items → IsFrontOf bytes f → IsNext taken f.bands bytes next → IsAt taken g (Behind 0)
ends_at taken bytes f g next e is new front n =
    let there = subst (IsNext taken f.bands bytes) is n in
    subst (λ (x : WholeFront). IsAt taken x (Behind 0)) (sym new) (bytes ++ e.blob.items, (front_next f bytes e.blob.items e.band front there.1, (there.0, omega arith)))

pub ends_no_room : (taken bytes : List ℕ) (f : WholeFront) (next : Next) (e : Ended) → next ≡ Ends e → IsNext taken f.bands bytes next → HasHeader taken
ends_no_room taken bytes f next e is n =
    let there = subst (IsNext taken f.bands bytes) is n in
    subst HasHeader (sym there.0.behind.joined) (header_before None (f.bands ++ e.band ∷ []) (bytes ++ e.blob.items) [] there.0.behind.stand there.0.some)

-- ---- it is wrong

-- its place has a number
pub refused_few : (taken bytes : List ℕ) (f : WholeFront) (next : Next) (fault : BandsFault) → next ≡ Refused fault → IsFrontOf bytes f → IsNext taken f.bands bytes next → f.place + fault.place < 2 ^ 64
refused_few taken bytes f next fault is front n =
    let there = subst (IsNext taken f.bands bytes) is n in
    let low = bands_fault_within taken (length bytes + fault.place) fault.reason there.0.0 in
    omega (arith, front.0, low.1)

pub refused_at : (taken bytes : List ℕ) (f : WholeFront) (next : Next) (fault : BandsFault) (p : BandsProgress) → next ≡ Refused fault → IsRaised fault f.place p → IsFrontOf bytes f → IsNext taken f.bands bytes next → IsAt taken f (stage_in p)
refused_at taken bytes f next fault p is raised front n = by p raised (subst (IsNext taken f.bands bytes) is n)
  where
    by : (p : BandsProgress) → IsRaised fault f.place p → IsNext taken f.bands bytes (Refused fault) → IsAt taken f (stage_in p)
    by (AtFault g) same there =
        subst (λ (x : BandsFault). FirstBandsFault taken x.place x.reason × IsLeastFault taken) (sym same) (subst (λ (k : ℕ). FirstBandsFault taken (k + fault.place) fault.reason × IsLeastFault taken) front.0 there.0)
    by AtNone same there = absurd same
    by (Inside d) same there = absurd same
    by (AtKey have) same there = absurd same

-- ---- a key is fed

-- all six bytes are taken
pub key_fed : (before : Option Previous) (old new : List ℕ) (s : Stage) (used : ℕ) → old ≡ [] → new ≡ old ++ take used (codes "Lerc2 ") → used ≤ 6 → IsUsed s (codes "Lerc2 ") used → IsStageOf before new s → new ≡ codes "Lerc2 "
key_fed before old new s used none_ taken few uses stands = by s uses stands
  where
    front : new ≡ take used (codes "Lerc2 ")
    front = taken ∙ ap (λ (u : List ℕ). u ++ take used (codes "Lerc2 ")) none_

    whole : used ≡ 6 → new ≡ codes "Lerc2 "
    whole six = front ∙ ap (λ n. take n (codes "Lerc2 ")) six

    by : (s : Stage) → IsUsed s (codes "Lerc2 ") used → IsStageOf before new s → new ≡ codes "Lerc2 "
    by Key uses stands = whole uses
    by (Fields v) uses stands = whole uses
    by (Body h) uses stands = whole uses
    by (Whole r) uses stands = whole uses
    by (WrongBlob place reason) uses stands = whole uses
    by NoneLeft uses stands = absurd (omega (arith, stands.stands.long, ap length front, length-take-le used (codes "Lerc2 ") (let t : used ≤ length (codes "Lerc2 ") = omega (arith, few) in t), few))
