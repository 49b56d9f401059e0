-- What is read, what is made of it, and how that ends.
use Rattle.std.proofs.Common.{◌≡◌, ℕ, ◌<◌, ◌≤◌, Bool, true, false, List, [], ◌∷◌, ◌++◌, length, take, drop, append_assoc, Option, Some, None, Result, Ok, Err, sym, ap, subst, ◌∙◌, arith}
use Rattle.std.specs.Prelude.{IfErr, IfOk, IfSome}
use Rattle.std.proofs.lemmas.List.{append-nil, take-append-drop}
use Rattle.outside_io.specs.declared.streams.failed.Failed.{Failed}
use Rattle.raster_grids.specs.declared.reading.GridStop.{GridStop}
use Rattle.raster_grids.specs.declared.reading.GridStop.TheVariants.{Fault as GridFaultOf, Source as GridSource, OutOfMemory as GridMemory}
use Rattle.raster_grids.specs.BandsGrid.{IsBandsGrid, TookBands, bands_faults}
use Rattle.raster_values.specs.Raster.{Pixels}
use Rattle.raster_values.specs.Bands.{AreBands}
use Rattle.raster_grids.specs.ReadGrid.{IsToldFault}
use Rattle.raster_grids.specs.Taken.{TookSome}
use Rattle.raster_grids.proofs.BandsGridLaws.{grids_are_of_bands}
use Rattle.outside_io.specs.streams.Asks.{AsksOne}
use Rattle.lerc_header.specs.declared.header.Version.{Version}
use Rattle.lerc_header.specs.declared.header.Version.TheVariants.{V3}
use Rattle.lerc_header.specs.Written.{step_of}
use Rattle.lerc_grammar.proofs.BandsOne.{bands_some}
use Rattle.lerc_encode.specs.Choice.{chosen_bands}
use Rattle.lerc_encode.specs.Encoded.{AreEncodedOnce, BandsNeedV4, DeclareEach}
use Rattle.grid_blobs.specs.declared.stop.InputReason.{InputReason}
use Rattle.grid_blobs.specs.declared.stop.InputReason.TheVariants.{Grid, Leftover, DepthNeedsV4}
use Rattle.grid_blobs.specs.declared.stop.InputStop.{InputStop}
use Rattle.grid_blobs.specs.declared.stop.InputStop.TheVariants.{Fault, Source, OutOfMemory}
use Rattle.grid_blobs.specs.Blobs.{AreBlobsOf}
use Rattle.grid_blobs.specs.Stops.{IsFirstFault, IsStopOf, OfDepths, SaysOfAny, grid_stop_of}
use Rattle.grid_blobs.specs.inside.Reads.{MakesBlobs, ReadsGrid}

pub told_stop : (stop : GridStop) (left : Option (List ℕ)) → IsToldFault bands_faults left 0 stop → ReadsGrid left (Err (grid_stop_of stop))
told_stop (GridFaultOf f) None told = λ version. (tt, tt)
told_stop (GridFaultOf f) (Some left) (at, (is, fault)) = λ version. (let same : at ≡ f.place = omega (arith, is) in subst (λ (p : ℕ). bands_faults left p f.reason) same fault, tt)
told_stop GridSource left told = λ version. (tt, tt)
told_stop GridMemory left told = λ version. (tt, tt)

pub reads_all : (bands : List Pixels) (left mid new : Option (List ℕ)) → TookBands left mid bands → AsksOne (Ok false) mid new → ReadsGrid left (Ok bands)
reads_all bands None mid new took asks = (grids_are_of_bands took.0 bands took.1.0, tt)
reads_all bands (Some input) mid new (grid, (stands, (rest, (joined, is)))) asks =
    let none : AsksOne (Ok false) (Some rest) new = subst (λ (o : Option (List ℕ)). AsksOne (Ok false) o new) is asks in
    let all : input ≡ grid = joined ∙ ap (λ u. grid ++ u) none.0 ∙ append-nil grid in
    (grids_are_of_bands grid bands stands, subst (λ (u : List ℕ). IsBandsGrid u bands) (sym all) stands)

pub reads_more : (bands : List Pixels) (place : ℕ) (left mid new : Option (List ℕ)) → ((grid : List ℕ) → IsBandsGrid grid bands → place ≡ length grid) → TookBands left mid bands → AsksOne (Ok true) mid new
    → ReadsGrid left (Err (Fault (record { reason = Leftover; place = place })))
reads_more bands place None mid new ends took asks = λ version. (tt, tt)
reads_more bands place (Some input) mid new ends (grid, (stands, (rest, (joined, is)))) asks = λ version.
    let some : AsksOne (Ok true) (Some rest) new = subst (λ (o : Option (List ℕ)). AsksOne (Ok true) o new) is asks in
    (record { bands = bands; grid = grid; rest = rest; joined = joined; stands = stands; ends = ends grid stands; more = some.0 }, tt)

-- what was taken
pub took_some : (bands : List Pixels) (left mid : Option (List ℕ)) → TookBands left mid bands → TookSome left mid
took_some bands left mid took = (took.0, took.1.1)

pub took_more : (asked : Result Bool Failed) (left mid new : Option (List ℕ)) → TookSome left mid → AsksOne asked mid new → TookSome left new
took_more asked None mid new (bytes, is) asks = ([], (let there : AsksOne asked None new = subst (λ (o : Option (List ℕ)). AsksOne asked o new) is asks in there))
took_more asked (Some left) mid new (bytes, (rest, (joined, is))) asks = by asked (subst (λ (o : Option (List ℕ)). AsksOne asked o new) is asks)
  where
    by : (a : Result Bool Failed) → AsksOne a (Some rest) new → TookSome (Some left) new
    by (Ok true) here = (bytes ++ take 1 rest, (drop 1 rest, (joined ∙ ap (λ u. bytes ++ u) (sym (take-append-drop 1 rest)) ∙ sym (append_assoc bytes (take 1 rest) (drop 1 rest)), here.1)))
    by (Ok false) here = (bytes, (rest, (joined, here.1 ∙ ap Some (sym here.0))))
    by (Err e) here = (bytes, (rest, (joined, here)))

pub makes : (version : Version) (error step : ℕ) (bands : List Pixels) (blobs : List ℕ) → step ≡ step_of error → ¬ BandsNeedV4 version bands → blobs ≡ chosen_bands None bands version step → DeclareEach blobs bands version step
    → AreEncodedOnce blobs bands step → length blobs ≤ 134217728 → MakesBlobs version error bands (Ok blobs)
makes version error step bands blobs said flat chosen declared once few = (
  flat,
  record {
    chosen = subst (λ (n : ℕ). blobs ≡ chosen_bands None bands version n) said chosen;
    declared = subst (λ (n : ℕ). DeclareEach blobs bands version n) said declared;
    once = subst (λ (n : ℕ). AreEncodedOnce blobs bands n) said once;
  },
  bands_some blobs once.rasters once.blobs,
  few,
)

needs_v4 : (version : Version) (bands : List Pixels) → BandsNeedV4 version bands → version ≡ V3
needs_v4 version [] deep = absurd deep
needs_v4 version (r ∷ more) deep = deep.0

too_deep : (version : Version) (input : Option (List ℕ)) (bands : List Pixels) (place : ℕ) → IfSome input (λ bytes. IsBandsGrid bytes bands) → place ≡ 13 → BandsNeedV4 version bands
    → IfSome input (λ bytes. IsFirstFault version bytes place DepthNeedsV4)
too_deep version None bands place told is deep = tt
too_deep version (Some input) bands place told is deep = (is, (needs_v4 version bands deep, (bands, (told, deep))))

pub made_stop : (version : Version) (error : ℕ) (input : Option (List ℕ)) (bands : List Pixels) (result : Result (List ℕ) InputStop) → IfSome input (λ bytes. IsBandsGrid bytes bands) → MakesBlobs version error bands result
    → IfErr result (λ stop. IsStopOf version input stop)
made_stop version error input bands (Ok blobs) told h = tt
made_stop version error input bands (Err (Fault f)) told h =
    subst (λ (why : InputReason). IfSome input (λ bytes. IsFirstFault version bytes f.place why)) (sym h.0) (too_deep version input bands f.place told h.1 h.2)
made_stop version error input bands (Err Source) told h = absurd h
made_stop version error input bands (Err OutOfMemory) told h = tt

pub made_deep : (version : Version) (error : ℕ) (bands : List Pixels) (result : Result (List ℕ) InputStop) → MakesBlobs version error bands result → IfErr result (λ stop. SaysOfAny version stop)
made_deep version error bands (Ok blobs) h = tt
made_deep version error bands (Err (Fault f)) h = subst (OfDepths version f.place) (sym h.0) (h.1, needs_v4 version bands h.2)
made_deep version error bands (Err Source) h = absurd h
made_deep version error bands (Err OutOfMemory) h = tt

pub made : (version : Version) (error : ℕ) (input : Option (List ℕ)) (bands : List Pixels) (result : Result (List ℕ) InputStop) → AreBands bands → IfSome input (λ bytes. IsBandsGrid bytes bands) → MakesBlobs version error bands result
    → IfOk result (λ blobs. AreBlobsOf version error input blobs)
made version error input bands (Ok blobs) are told h = record { bands = bands; are = are; grid = told; flat = h.0; blobs_are = h.1 }
made version error input bands (Err stop) are told h = tt

pub made_some : (version : Version) (error : ℕ) (bands : List Pixels) (result : Result (List ℕ) InputStop) → MakesBlobs version error bands result → IfOk result (λ blobs. 0 < length blobs)
made_some version error bands (Ok blobs) h = h.2
made_some version error bands (Err stop) h = tt

pub made_few : (version : Version) (error : ℕ) (bands : List Pixels) (result : Result (List ℕ) InputStop) → MakesBlobs version error bands result → IfOk result (λ blobs. length blobs ≤ 134217728)
made_few version error bands (Ok blobs) h = h.3
made_few version error bands (Err stop) h = tt

pub no_source : (version : Version) (error : ℕ) (bands : List Pixels) (result : Result (List ℕ) InputStop) → MakesBlobs version error bands result → result ≡ Err Source → ⊥
no_source version error bands result h is = let none : MakesBlobs version error bands (Err Source) = subst (λ (x : Result (List ℕ) InputStop). MakesBlobs version error bands x) is h in none
