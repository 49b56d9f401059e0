-- The plans of bands, one more at a time.
use Rattle.std.proofs.Common.{◌≡◌, ℕ, ◌+◌, ◌-◌, ◌≤◌, zero, suc, List, [], ◌∷◌, ◌++◌, length, take, Option, None, Some, ◌⊎◌, inl, inr, refl, sym, ap, ◌∙◌, subst, arith, length-append}
use Rattle.std.specs.Prelude.{slice_get, unwrap_or}
use Rattle.std.proofs.lemmas.List.{take_all}
use borrow.Rule.Slice.PartMut.{put_mid}
use Rattle.bit_stuff.proofs.Buffers.{front_written}
use Rattle.raster_values.specs.Raster.{Pixels}
use Rattle.lerc_header.specs.declared.header.Version.{Version}
use Rattle.lerc_grammar.specs.Bands.{last_after}
use Rattle.lerc_encode.specs.declared.blobs.blob.Plan.{Plan}
use Rattle.lerc_encode.specs.Choice.{chosen_after, chosen_bands}
use Rattle.lerc_encode.specs.Masks.{runs_after}
use Rattle.lerc_encode.specs.inside.Joined.{ArePlans, IsPlanAt}
use Rattle.lerc_encode.specs.inside.Layout.{planned_blob}
use Rattle.lerc_encode.proofs.Joining.{chosen_front, chosen_more}
use Rattle.lerc_encode.proofs.Plans.{planned_is}

-- what was pushed last, and what stands before it
pushed : {X : Type 0} (xs : List X) (x y : X) (k : ℕ) → slice_get (xs ++ x ∷ []) k ≡ Some y → (slice_get xs k ≡ Some y) ⊎ ((k ≡ length xs) × (x ≡ y))
pushed {X} [] x y zero e = inr (refl, ap (λ (u : Option X). unwrap_or u x) e)
pushed [] x y (suc k) e = absurd (cc)
pushed (b ∷ xs) x y zero e = inl e
pushed (b ∷ xs) x y (suc k) e = by (pushed xs x y k e)
  where
    by : (slice_get xs k ≡ Some y) ⊎ ((k ≡ length xs) × (x ≡ y)) → (slice_get xs k ≡ Some y) ⊎ ((suc k ≡ suc (length xs)) × (x ≡ y))
    by (inl h) = inl h
    by (inr (n, h)) = inr (omega (arith, n), h)

pub no_plans : (bands : List Pixels) (version : Version) (step : ℕ) → ArePlans bands version step 0 [] 0
no_plans bands version step = record { count = refl; each = λ k r p e f. absurd (cc); size_is = refl; few = omega arith }

-- the blob of a plan is the band's
pub planned_after : (bands : List Pixels) (version : Version) (step k : ℕ) (r : Pixels) (p : Plan) → IsPlanAt bands version step k r p → planned_blob p r ≡ chosen_after (last_after None (take k bands)) r version step
unfolding chosen_after
planned_after bands version step k r p at = planned_is r version step p at.plan (runs_after (last_after None (take k bands)) r) at.runs

pub plans_more : (bands : List Pixels) (version : Version) (step k size more : ℕ) (plans : List Plan) (r : Pixels) (p : Plan) → ArePlans bands version step k plans size → slice_get bands k ≡ Some r
    → IsPlanAt bands version step k r p → more ≡ length (planned_blob p r) → more ≤ 73924681 → ArePlans bands version step (k + 1) (plans ++ p ∷ []) (size + more)
plans_more bands version step k size more plans r p are here at long few =
    let next = ap length (chosen_more bands version step k r here) ∙ length-append (chosen_bands None (take k bands) version step) (chosen_after (last_after None (take k bands)) r version step) in
    let part = long ∙ ap length (planned_after bands version step k r p at) in
    let so_far = are.size_is in
    let low = are.few in
    let grown = length-append plans (p ∷ []) in
    let count = are.count in
    record {
      count = omega (arith, grown, count);
      each = λ j s q e f. by j s q e (pushed plans p q j f);
      size_is = omega (arith, next, part, so_far);
      few = omega (arith, low, few);
    }
  where
    by : (j : ℕ) (s : Pixels) (q : Plan) → slice_get bands j ≡ Some s → (slice_get plans j ≡ Some q) ⊎ ((j ≡ length plans) × (p ≡ q)) → IsPlanAt bands version step j s q
    by j s q e (inl f) = are.each j s q e f
    by j s q e (inr (n, same)) =
        let place : k ≡ j = (let count = are.count in omega (arith, count, n)) in
        let same_r : r ≡ s = ap (λ (u : Option Pixels). unwrap_or u r) (sym here ∙ ap (slice_get bands) place ∙ e) in
        subst (λ (i : ℕ). IsPlanAt bands version step i s q) place (subst (λ (x : Plan). IsPlanAt bands version step k s x) same (subst (λ (x : Pixels). IsPlanAt bands version step k x p) same_r at))

-- ---- blobs, one more at a time

next_long : (bands : List Pixels) (version : Version) (step k : ℕ) (r : Pixels) (p : Plan) → IsPlanAt bands version step k r p → slice_get bands k ≡ Some r
    → length (chosen_bands None (take (k + 1) bands) version step) ≡ length (chosen_bands None (take k bands) version step) + length (planned_blob p r)
next_long bands version step k r p at here =
    ap length (chosen_more bands version step k r here) ∙ length-append (chosen_bands None (take k bands) version step) (chosen_after (last_after None (take k bands)) r version step)
    ∙ ap (λ (xs : List ℕ). length (chosen_bands None (take k bands) version step) + length xs) (sym (planned_after bands version step k r p at))

pub part_fits : (bands : List Pixels) (version : Version) (step k size place : ℕ) (plans : List Plan) (r : Pixels) (p : Plan) → ArePlans bands version step (length bands) plans size → slice_get bands k ≡ Some r → slice_get plans k ≡ Some p
    → place ≡ length (chosen_bands None (take k bands) version step) → place + length (planned_blob p r) ≤ size
part_fits bands version step k size place plans r p are here there e =
    let next = next_long bands version step k r p (are.each k r p here there) here in
    let front = chosen_front None bands version step (k + 1) in
    let all : size ≡ length (chosen_bands None bands version step) = are.size_is ∙ ap (λ (xs : List Pixels). length (chosen_bands None xs version step)) (take_all (length bands) bands (omega arith)) in
    omega (arith, next, front, all, e)

pub laid_next : (bands : List Pixels) (version : Version) (step k place n : ℕ) (r : Pixels) (p : Plan) (out new rest : List ℕ) → IsPlanAt bands version step k r p → slice_get bands k ≡ Some r
    → place ≡ length (chosen_bands None (take k bands) version step) → take place out ≡ chosen_bands None (take k bands) version step → place ≤ length out
    → n ≡ length (planned_blob p r) → new ≡ planned_blob p r ++ rest
    → (place + n ≡ length (chosen_bands None (take (k + 1) bands) version step)) × (take (place + n) (put_mid place (length out - place) out new) ≡ chosen_bands None (take (k + 1) bands) version step)
laid_next bands version step k place n r p out new rest at here e done low long wrote =
    let next = next_long bands version step k r p at here in (
      omega (arith, next, e, long),
      ap (λ (xs : List ℕ). take (place + n) (put_mid place (length out - place) out xs)) wrote
          ∙ front_written out (planned_blob p r) rest place (length out - place) n low (sym long)
          ∙ (λ t. done t ++ planned_after bands version step k r p at t)
          ∙ sym (chosen_more bands version step k r here),
    )
