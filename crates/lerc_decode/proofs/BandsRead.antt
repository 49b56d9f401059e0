-- What a source's bytes are once a decoder of bands has ended.
use Rattle.std.proofs.Common.{◌≡◌, ℕ, ◌<◌, List, [], ◌++◌, Option, None, Some, Result, Ok, Err, refl, sym, ap, ◌∙◌, subst, arith, ◌⊎◌, inl, inr}
use Rattle.std.specs.Prelude.{IfSome}
use Rattle.std.proofs.lemmas.List.{append-nil}
use Rattle.outside_io.specs.streams.Source.{IsAtEnd}
use Rattle.raster_values.specs.Raster.{Pixels}
use Rattle.raster_values.specs.Bands.{AreBands}
use Rattle.lerc_grammar.specs.declared.bands.BandReason.{BandReason}
use Rattle.lerc_grammar.specs.declared.bands.BandsFault.{BandsFault}
use Rattle.lerc_grammar.specs.Bands.{BandsBlob, BandsFaultAt}
use Rattle.lerc_grammar.proofs.BandsSteps.{bands_faults_stay}
use Rattle.lerc_decode.specs.declared.streams.bands.BandsStop.{BandsStop}
use Rattle.lerc_decode.specs.declared.streams.bands.BandsStop.TheVariants.{Fault, OutOfMemory}
use Rattle.lerc_decode.specs.Decoding.{Decoding, HasHeader}
use Rattle.lerc_decode.specs.BandsStates.{IsBandsFinish}
use Rattle.lerc_decode.specs.BandsSource.{IsNoBands, HoldsBlobs, IsDecidedBy, LeavesRest}
use Rattle.lerc_decode.specs.Reading.{BandsStage, InBlob, Behind, Wrong, NoMemory, BandsDecoding, AreKept, IsAt, IsAfter, wanted}
use Rattle.lerc_decode.specs.inside.BandsAnswers.{from_stop}
use Rattle.lerc_decode.specs.inside.BandsFeeding.{Reads, ReadsAt, HasRead}
use Rattle.lerc_decode.specs.inside.BandsStages.{IsKeptFinish}
use Rattle.lerc_decode.specs.inside.Kept.{IsKeeping}
use Rattle.lerc_decode.proofs.BandsFeeding.{blob_wants}

-- ---- all was read

-- the decoder took all that the source told
abbrev pub TookAll : Option (List ℕ) → Option (List ℕ) → BandsDecoding → Type 0
TookAll None new d = (taken : List ℕ) × IsAfter taken d
TookAll (Some input) new d = IsAfter input d × (new ≡ Some [])

took_all : (first new : Option (List ℕ)) (d : BandsDecoding) → IsAtEnd new → Reads first new d → TookAll first new d
took_all None new d end (none_, is) = is
took_all (Some input) new d end (taken, (rest, (joined, (left, is)))) =
    let empty : rest ≡ [] = subst IsAtEnd left end in
    (subst (λ (u : List ℕ). IsAfter u d) (sym (joined ∙ ap (λ (u : List ℕ). taken ++ u) empty ∙ append-nil taken)) is, left ∙ ap Some empty)

at_end : (new : Option (List ℕ)) (s : BandsStage) → 0 < wanted s → (wanted s ≡ 0) ⊎ IsAtEnd new → IsAtEnd new
at_end new s some (inl none_) = absurd (omega (arith, some, none_))
at_end new s some (inr end) = end

blob_some : (first new : Option (List ℕ)) (d : BandsDecoding) (x : Decoding) → d.stage ≡ InBlob x → Reads first new d → 0 < wanted d.stage
blob_some first new d x is read = subst (λ (s : BandsStage). 0 < wanted s) (sym is) (some first read)
  where
    some : (first : Option (List ℕ)) → Reads first new d → 0 < wanted (InBlob x)
    some None (none_, (taken, at)) = blob_wants taken d.front x (subst (IsAt taken d.front) is at)
    some (Some input) (taken, (rest, (joined, (left, at)))) = blob_wants taken d.front x (subst (IsAt taken d.front) is at)

-- what it came to: all was taken, or a fault was decided, or memory was refused
pub data Came (first new : Option (List ℕ)) (d : BandsDecoding) : Type 0 where
  all : IsAtEnd new → TookAll first new d → Came first new d
  wrong : (place : ℕ) (reason : BandReason) → d.stage ≡ Wrong place reason → Reads first new d → Came first new d
  no_memory : d.stage ≡ NoMemory → IfSome first HasHeader → Came first new d

pub came : (first new : Option (List ℕ)) (d : BandsDecoding) → HasRead first new d → (wanted d.stage ≡ 0) ⊎ IsAtEnd new → Came first new d
came first new d read why = by d.stage refl read
  where
    by : (s : BandsStage) → d.stage ≡ s → ReadsAt s first (Reads first new d) → Came first new d
    by (InBlob x) is read = let end = at_end new d.stage (blob_some first new d x is read) why in all end (took_all first new d end read)
    by (Behind have) is read = let end = at_end new d.stage (subst (λ (s : BandsStage). 0 < wanted s) (sym is) (omega arith)) why in all end (took_all first new d end read)
    by (Wrong place reason) is read = wrong place reason is read
    by NoMemory is read = no_memory is read

-- ---- the answer is one of bands

pub ok_end : (first new : Option (List ℕ)) (d : BandsDecoding) → Came first new d → ((place : ℕ) (reason : BandReason) → ¬ (d.stage ≡ Wrong place reason)) → ¬ (d.stage ≡ NoMemory) → IsAtEnd new × TookAll first new d
ok_end first new d (all end took) right some = (end, took)
ok_end first new d (wrong place reason is read) right some = absurd (right place reason is)
ok_end first new d (no_memory is head) right some = absurd (some is)

pub ok_told : (first new : Option (List ℕ)) (d : BandsDecoding) (bands : List Pixels) → TookAll first new d → ((taken : List ℕ) → IsAfter taken d → BandsBlob taken bands) → IfSome first (λ bytes. BandsBlob bytes bands)
ok_told None new d bands took verdict = tt
ok_told (Some input) new d bands took verdict = verdict input took.0

pub ok_left : (first new : Option (List ℕ)) (d : BandsDecoding) → TookAll first new d → IfSome first (λ input. new ≡ Some [])
ok_left None new d took = tt
ok_left (Some input) new d took = took.1

pub ok_bands : (first new : Option (List ℕ)) (d : BandsDecoding) (bands : List Pixels) → TookAll first new d → ((taken : List ℕ) → IsAfter taken d → BandsBlob taken bands) → AreBands bands
ok_bands None new d bands took verdict = (verdict took.0 took.1).0
ok_bands (Some input) new d bands took verdict = (verdict input took.0).0

pub ok_kept : (first new : Option (List ℕ)) (d : BandsDecoding) (kept : Option (List (List ℕ))) (found : List Pixels × Option (List (List ℕ))) → TookAll first new d → ((taken : List ℕ) → IsAfter taken d → IsKeptFinish taken kept (Ok found)) → found.1 ≡ kept
ok_kept None new d kept found took verdict = (verdict took.0 took.1).1.0
ok_kept (Some input) new d kept found took verdict = (verdict input took.0).1.0

held : (taken : List ℕ) (kept : Option (List (List ℕ))) (found : List Pixels × Option (List (List ℕ))) (blobs : List (List ℕ)) → found.1 ≡ Some blobs → IsKeptFinish taken kept (Ok found) → AreBands found.0 × AreKept (Some blobs) taken found.0
held taken kept found blobs is v = (v.0.0, subst (λ (o : Option (List (List ℕ))). AreKept o taken found.0) (sym v.1.0 ∙ is) v.1.1)

pub ok_held : (first new : Option (List ℕ)) (d : BandsDecoding) (kept : Option (List (List ℕ))) (found : List Pixels × Option (List (List ℕ))) (blobs : List (List ℕ)) → found.1 ≡ Some blobs → TookAll first new d
    → ((taken : List ℕ) → IsAfter taken d → IsKeptFinish taken kept (Ok found)) → HoldsBlobs blobs first
ok_held None new d kept found blobs is took verdict = let h = held took.0 kept found blobs is (verdict took.0 took.1) in (found.0, (h.0, (h.1.1, tt)))
ok_held (Some input) new d kept found blobs is took verdict = let h = held input kept found blobs is (verdict input took.0) in (found.0, (h.0, (h.1.1, sym h.1.0)))

pub none_kept : (first new : Option (List ℕ)) (d : BandsDecoding) (found : List Pixels × Option (List (List ℕ))) → found.1 ≡ None → IsKeeping d.front.kept → TookAll first new d → ((taken : List ℕ) → IsAfter taken d → IsKeptFinish taken d.front.kept (Ok found)) → ⊥
none_kept first new d found is keeping took verdict = let no_ : IsKeeping None = subst IsKeeping (sym (ok_kept first new d d.front.kept found took verdict) ∙ is) keeping in no_

-- ---- it is a stop

fault_told : (f : BandsFault) (first new : Option (List ℕ)) (d : BandsDecoding) → d.stage ≡ Wrong f.place f.reason → Reads first new d → IfSome first (λ input. BandsFaultAt input f.place f.reason)
fault_told f None new d is read = tt
fault_told f (Some input) new d is (taken, (rest, (joined, (left, at)))) =
    let there : IsAt taken d.front (Wrong f.place f.reason) = subst (IsAt taken d.front) is at in
    subst (λ (u : List ℕ). BandsFaultAt u f.place f.reason) (sym joined) (bands_faults_stay taken rest f.place f.reason there.0)

fault_left : (f : BandsFault) (first new : Option (List ℕ)) (d : BandsDecoding) → d.stage ≡ Wrong f.place f.reason → Reads first new d → IfSome first (λ input. IsDecidedBy f input new)
fault_left f None new d is read = tt
fault_left f (Some input) new d is (taken, (rest, (joined, (left, at)))) =
    let there : IsAt taken d.front (Wrong f.place f.reason) = subst (IsAt taken d.front) is at in
    (taken, (rest, (joined, (left, inr there))))

pub stop_told : (first new : Option (List ℕ)) (d : BandsDecoding) (stop : BandsStop) → Came first new d → ((taken : List ℕ) → IsAfter taken d → IsBandsFinish taken (Err stop)) → (d.stage ≡ NoMemory → stop ≡ OutOfMemory)
    → ((place : ℕ) (reason : BandReason) → d.stage ≡ Wrong place reason → stop ≡ Fault (record { reason = reason; place = place })) → IfSome first (IsNoBands (from_stop stop))
stop_told None new d stop c verdict memory refused = tt
stop_told (Some input) new d (Fault f) (all end took) verdict memory refused = verdict input took.0
stop_told (Some input) new d OutOfMemory (all end took) verdict memory refused = verdict input took.0
stop_told (Some input) new d stop (wrong place reason is read) verdict memory refused =
    subst (λ (s : BandsStop). IsNoBands (from_stop s) input) (sym (refused place reason is)) (fault_told (record { reason = reason; place = place }) (Some input) new d is read)
stop_told (Some input) new d stop (no_memory is head) verdict memory refused = subst (λ (s : BandsStop). IsNoBands (from_stop s) input) (sym (memory is)) head

pub stop_left : (X : Type 0) (first new : Option (List ℕ)) (d : BandsDecoding) (stop : BandsStop) → Came first new d → (d.stage ≡ NoMemory → stop ≡ OutOfMemory)
    → ((place : ℕ) (reason : BandReason) → d.stage ≡ Wrong place reason → stop ≡ Fault (record { reason = reason; place = place })) → LeavesRest {X = X} (Err (from_stop stop)) first new
stop_left X first new d OutOfMemory c memory refused = tt
stop_left X None new d (Fault f) c memory refused = tt
stop_left X (Some input) new d (Fault f) (all end took) memory refused = (input, ([], (sym (append-nil input), (took.1, inl refl))))
stop_left X (Some input) new d (Fault f) (wrong place reason is read) memory refused =
    let same : Fault f ≡ Fault (record { reason = reason; place = place }) = refused place reason is in
    subst (λ (s : BandsStop). LeavesRest {X = X} (Err (from_stop s)) (Some input) new) (sym same) (fault_left (record { reason = reason; place = place }) (Some input) new d is read)
stop_left X (Some input) new d (Fault f) (no_memory is head) memory refused = let no_ : Fault f ≡ OutOfMemory = memory is in absurd (cc)

-- ---- answers that are stops

abbrev stop_of : {X : Type 0} → Result X BandsStop → BandsStop
stop_of (Ok x) = OutOfMemory
stop_of (Err s) = s

pub same_stop : {X : Type 0} (r : Result X BandsStop) (s t : BandsStop) → r ≡ Err s → r ≡ Err t → s ≡ t
same_stop r s t p q = sym (ap stop_of p) ∙ ap stop_of q

pub kept_stop : (taken : List ℕ) (kept : Option (List (List ℕ))) (stop : BandsStop) → IsKeptFinish taken kept (Err stop) → IsBandsFinish taken (Err stop)
kept_stop taken kept (Fault f) v = v
kept_stop taken kept OutOfMemory v = v
