-- The chosen blobs of bands, one band after the other.
use Rattle.std.proofs.Common.{◌≡◌, ℕ, ◌+◌, ◌-◌, ◌<◌, Bool, true, false, ◌≤◌, zero, suc, List, [], ◌∷◌, ◌++◌, length, take, Option, None, Some, All, refl, sym, ap, ◌∙◌, subst, arith, length-append}
use Rattle.std.specs.Prelude.{slice_get, unwrap_or, IsTrue, ◌↔◌}
use Rattle.std.proofs.lemmas.List.{append_assoc, append-nil}
use Rattle.std.proofs.lemmas.List.Elements.{All-nil, All-cons, All-head, All-tail}
use Rattle.raster_values.specs.Raster.{Pixels, IsRaster}
use Rattle.raster_values.specs.Bands.{AreBands, IsLike}
use Rattle.raster_cells.specs.Step.{IsTwiceError}
use Rattle.lerc_header.specs.declared.header.Version.{Version}
use Rattle.lerc_header.specs.declared.header.Version.TheVariants.{V3}
use Rattle.lerc_grammar.specs.Mask.{Previous, previous_of}
use Rattle.lerc_grammar.specs.Near.{NearEach}
use Rattle.lerc_grammar.specs.Bands.{BandsBlob, BlobsAfter, Decoded, last_after}
use Rattle.lerc_grammar.proofs.BandsNear.{same_previous, near_long, near_like}
use Rattle.lerc_grammar.proofs.BandsOnce.{one_bands_verdict}
use Rattle.lerc_encode.specs.Choice.{chosen_after, chosen_bands, chosen_blob}
use Rattle.lerc_encode.specs.Encoded.{AreEncodedOnce, BandsNeedV4, DeclareEach, NeedsV4}
use Rattle.lerc_encode.specs.Masks.{takes_mask}
use Rattle.lerc_encode.specs.inside.Asked.{IsAsked}
use Rattle.lerc_encode.proofs.Asked.{asked_is}
use Rattle.lerc_encode.proofs.Own.{after_declares, after_once}

-- ---- one band more

got : (b r : Pixels) → ◌≡◌ {A = Option Pixels} (Some b) (Some r) → b ≡ r
got b r e = ap (λ (u : Option Pixels). unwrap_or u b) e

pub last_taken : (before : Option Previous) (bands : List Pixels) (k : ℕ) (r : Pixels) → slice_get bands k ≡ Some r → last_after before (take (suc k) bands) ≡ Some (previous_of r)
last_taken before [] k r e = absurd (cc)
last_taken before (b ∷ bands) zero r e = ap (λ (x : Pixels). Some (previous_of x)) (got b r e)
last_taken before (b ∷ bands) (suc k) r e = last_taken (Some (previous_of b)) bands k r e

chosen_next : (before : Option Previous) (bands : List Pixels) (version : Version) (step k : ℕ) (r : Pixels) → slice_get bands k ≡ Some r
    → chosen_bands before (take (suc k) bands) version step ≡ chosen_bands before (take k bands) version step ++ chosen_after (last_after before (take k bands)) r version step
chosen_next before [] version step k r e = absurd (cc)
chosen_next before (b ∷ bands) version step zero r e = append-nil (chosen_after before b version step) ∙ ap (λ (x : Pixels). chosen_after before x version step) (got b r e)
chosen_next before (b ∷ bands) version step (suc k) r e =
    ap (λ (xs : List ℕ). chosen_after before b version step ++ xs) (chosen_next (Some (previous_of b)) bands version step k r e)
    ∙ sym (append_assoc (chosen_after before b version step) (chosen_bands (Some (previous_of b)) (take k bands) version step) (chosen_after (last_after (Some (previous_of b)) (take k bands)) r version step))

pub chosen_more : (bands : List Pixels) (version : Version) (step k : ℕ) (r : Pixels) → slice_get bands k ≡ Some r
    → chosen_bands None (take (k + 1) bands) version step ≡ chosen_bands None (take k bands) version step ++ chosen_after (last_after None (take k bands)) r version step
chosen_more bands version step k r e =
    ap (λ n. chosen_bands None (take n bands) version step) (let one : k + 1 ≡ suc k = omega arith in one) ∙ chosen_next None bands version step k r e

-- one band alone is encoded as a raster is
pub chosen_single : (r : Pixels) (version : Version) (step : ℕ) → chosen_bands None (r ∷ []) version step ≡ chosen_blob r version step
unfolding chosen_after chosen_blob
chosen_single r version step = append-nil (chosen_after None r version step)

pub all_at : {X : Type 0} (P : X → Type 0) (xs : List X) (k : ℕ) (x : X) → All P xs → slice_get xs k ≡ Some x → P x
all_at P [] k x all e = absurd (cc)
all_at {X} P (y ∷ ys) zero x all e = subst P (ap (λ (u : Option X). unwrap_or u y) e) (All-head P y ys all)
all_at P (y ∷ ys) (suc k) x all e = all_at P ys k x (All-tail P y ys all) e

pub single_is : (bands : List Pixels) (r : Pixels) → length bands ≡ 1 → slice_get bands 0 ≡ Some r → bands ≡ r ∷ []
single_is [] r long e = absurd (cc)
single_is (b ∷ []) r long e = ap (λ (x : Pixels). x ∷ []) (got b r e)
single_is (b ∷ x ∷ more) r long e = absurd (omega (arith, long))

-- ---- what is asked of each band

abbrev pub AreAsked : List Pixels → Version → ℕ → Type 0
AreAsked bands version step = All (λ r. IsAsked r version step) bands

asked_like : (version : Version) (step : ℕ) (first : Pixels) → IsTwiceError step → (NeedsV4 version first → ⊥) → (bands : List Pixels) → All IsRaster bands → All (IsLike first) bands → AreAsked bands version step
asked_like version step first allowed flat [] sound like = All-nil (λ r. IsAsked r version step)
asked_like version step first allowed flat (r ∷ more) sound like =
    let same : r.depth ≡ first.depth = (All-head (IsLike first) r more like).depth in
    All-cons (λ r. IsAsked r version step) r more (asked_is r version step (All-head IsRaster r more sound) allowed (λ needs. flat (needs.0, (let more_than = needs.1 in omega (arith, more_than, same)))))
    (asked_like version step first allowed flat more (All-tail IsRaster r more sound) (All-tail (IsLike first) r more like))

pub asked_all : (bands : List Pixels) (version : Version) (step : ℕ) → AreBands bands → IsTwiceError step → (BandsNeedV4 version bands → ⊥) → AreAsked bands version step
asked_all [] version step are allowed flat = All-nil (λ r. IsAsked r version step)
asked_all (r ∷ more) version step are allowed flat =
    asked_like version step r allowed flat (r ∷ more) are.1.sound
    (All-cons (IsLike r) r more (record { kind = refl; rows = refl; cols = refl; depth = refl }) are.1.like.0)

-- the first band tells whether all need version 4
needs_first : (bands : List Pixels) (version : Version) (r : Pixels) → slice_get bands 0 ≡ Some r → BandsNeedV4 version bands → NeedsV4 version r
needs_first [] version r e needs = absurd needs
needs_first (b ∷ more) version r e needs = subst (NeedsV4 version) (got b r e) needs

pub needs_not : (bands : List Pixels) (version : Version) (r : Pixels) (b : Bool) (depth : ℕ) → slice_get bands 0 ≡ Some r → depth ≡ r.depth → b ≡ false → (IsTrue b ↔ ((version ≡ V3) × (1 < depth))) → BandsNeedV4 version bands → ⊥
needs_not bands version r b depth e same off tells needs =
    let first = needs_first bands version r e needs in
    let more = first.1 in
    let t : b ≡ true = tells.1 (first.0, omega (arith, more, same)) in
    absurd (let both : true ≡ false = sym t ∙ off in cc)

-- ---- the blobs of exactly one list of bands

record EncodedEach (before : Option Previous) (bytes : List ℕ) (bands : List Pixels) (step : ℕ) : Type 0 where
  rasters : List Pixels
  stand : BlobsAfter before bytes rasters
  near : NearEach bands rasters step
  sound : All IsRaster rasters

encoded_each : (before : Option Previous) (bands : List Pixels) (version : Version) (step : ℕ) → AreAsked bands version step → EncodedEach before (chosen_bands before bands version step) bands step
encoded_each before [] version step asked = record { rasters = []; stand = refl; near = tt; sound = All-nil IsRaster }
encoded_each before (r ∷ more) version step asked =
    let Asked : Pixels → Type 0 = λ r. IsAsked r version step in
    let first = after_once before r version step (All-head Asked r more asked) in
    let later = encoded_each (Some (previous_of r)) more version step (All-tail Asked r more asked) in
    let rest = chosen_bands (Some (previous_of r)) more version step in
    record {
      rasters = first.raster ∷ later.rasters;
      stand = (chosen_after before r version step, (rest, (refl, (first.blob, subst (λ (p : Previous). BlobsAfter (Some p) rest later.rasters) (same_previous r first.raster step first.near) later.stand))));
      near = (first.near, later.near);
      sound = All-cons IsRaster first.raster later.rasters first.blob.0 later.sound;
    }

pub bands_once : (bands : List Pixels) (version : Version) (step : ℕ) → AreBands bands → AreAsked bands version step → AreEncodedOnce (chosen_bands None bands version step) bands step
bands_once bands version step are asked =
    let e = encoded_each None bands version step asked in
    let bytes = chosen_bands None bands version step in
    let long = near_long bands e.rasters step e.near in
    let some = are.0 in
    let few = are.1.few in
    let b : BandsBlob bytes e.rasters = ((omega (arith, long, some), record { few = omega (arith, long, few); sound = e.sound; like = near_like bands e.rasters step e.near are.1.like }), e.stand) in
    record {
      rasters = e.rasters;
      blobs = b;
      only = λ others o. let same = one_bands_verdict bytes (Decoded others) (Decoded e.rasters) o b in cc;
      near = e.near;
    }

declare_after : (before : Option Previous) (bands : List Pixels) (version : Version) (step : ℕ) → AreAsked bands version step → DeclareEach (chosen_bands before bands version step) bands version step
declare_after before [] version step asked = refl
declare_after before (r ∷ more) version step asked = (
  chosen_after before r version step,
  (
    chosen_bands (Some (previous_of r)) more version step,
    (refl, (after_declares before r version step (All-head (λ r. IsAsked r version step) r more asked), declare_after (Some (previous_of r)) more version step (All-tail (λ r. IsAsked r version step) r more asked))),
  ),
)

pub declare_each : (bands : List Pixels) (version : Version) (step : ℕ) → AreAsked bands version step → DeclareEach (chosen_bands None bands version step) bands version step
declare_each bands version step asked = declare_after None bands version step asked

-- ---- how they are joined

pub chosen_front : (before : Option Previous) (bands : List Pixels) (version : Version) (step n : ℕ) → length (chosen_bands before (take n bands) version step) ≤ length (chosen_bands before bands version step)
chosen_front before bands version step zero = omega arith
chosen_front before [] version step (suc n) = omega arith
chosen_front before (r ∷ more) version step (suc n) =
    let later = chosen_front (Some (previous_of r)) more version step n in
    let some = length-append (chosen_after before r version step) (chosen_bands (Some (previous_of r)) (take n more) version step) in
    let all = length-append (chosen_after before r version step) (chosen_bands (Some (previous_of r)) more version step) in
    omega (arith, later, some, all)

-- ---- the mask of one band

-- the first band has none before it, and each other one the one before it
pub first_untaken : (bands : List Pixels) (r : Pixels) → takes_mask (last_after None (take 0 bands)) r ≡ false
first_untaken bands r = refl

pub next_taken : (bands : List Pixels) (k : ℕ) (p r : Pixels) → 0 < k → slice_get bands (k - 1) ≡ Some p → takes_mask (Some (previous_of p)) r ≡ takes_mask (last_after None (take k bands)) r
next_taken bands k p r some e =
    ap (λ (u : Option Previous). takes_mask u r) (sym (last_taken None bands (k - 1) p e) ∙ ap (λ n. last_after None (take n bands)) (let back : suc (k - 1) ≡ k = omega (arith, some) in back))
