-- The least and the greatest of values gathered piece by piece.
use Rattle.std.proofs.Common.{[], ◌≡◌, List, ◌++◌, subst, arith, sym, ℕ, ◌+◌, ◌-◌, ◌*◌, Bool, get_or, map, ap, ◌∙◌, ◌≤◌, suc, false, ◌∷◌, drop, ◌<◌, true, Some, None, length, take, refl, Option, ◌↔◌, cond}
use Rattle.std.specs.Prelude.{ℤ, ◌≤ℤ◌, pos, IsNone, fold, is_some}
use Rattle.std.specs.Int.{int_min, int_max}
use Rattle.std.proofs.lemmas.Int.{ints, by_lt_z}
use Rattle.std.proofs.lemmas.List.Elements.{All-append, All-weaker, Contains-append_left, Contains-append_right}
use Rattle.std.specs.List.{range_with_len, filter, flat_map}
use Rattle.std.proofs.lemmas.List.{append-nil, map-id, get_or-drop, get_or-take}
use Rattle.std.proofs.lemmas.List.Concat.{flat_map-cons}
use Rattle.lane_kernels.specs.Kernels.{IsLeast, IsGreatest}
use Rattle.raster_cells.specs.MarkRuns.{AreRuns}
use Rattle.lane_kernels.proofs.Bounds.{range-unique}
use Rattle.raster_values.specs.inside.Runs.{run_values, IsRange}
use Rattle.raster_values.proofs.PixelSteps.{values_run}
use Rattle.raster_values.proofs.BlockViews.{picks_same}
use Rattle.raster_values.specs.Flat.{at_depth, depth_values}
use Rattle.raster_values.specs.View.{pixels_of, seen}
use Rattle.raster_values.specs.declared.rasters.raster.Raster.TheInside.{Inside}
use Rattle.raster_values.specs.Raster.{Pixels, valid_count}

-- ---- two lists, one behind the other

least_joined : (xs ys : List ℤ) (a m : ℤ) → IsLeast xs a → IsLeast ys m → IsLeast (xs ++ ys) (int_min a m)
least_joined xs ys a m h k =
    by_lt_z m a
    (λ lt. subst (IsLeast (xs ++ ys)) (let e : m ≡ int_min a m = grind (arith, ints) in e) (
      Contains-append_right xs ys m k.0,
      All-append (λ x. m ≤ℤ x) xs ys (All-weaker (λ x. a ≤ℤ x) (λ x. m ≤ℤ x) (λ x le. omega (arith, ints)) xs h.1) k.1,
    ))
    (λ le. subst (IsLeast (xs ++ ys)) (let e : a ≡ int_min a m = grind (arith, ints) in e) (
      Contains-append_left xs ys a h.0,
      All-append (λ x. a ≤ℤ x) xs ys h.1 (All-weaker (λ x. m ≤ℤ x) (λ x. a ≤ℤ x) (λ x up. omega (arith, ints)) ys k.1),
    ))

greatest_joined : (xs ys : List ℤ) (b n : ℤ) → IsGreatest xs b → IsGreatest ys n → IsGreatest (xs ++ ys) (int_max b n)
greatest_joined xs ys b n h k =
    by_lt_z n b
    (λ lt. subst (IsGreatest (xs ++ ys)) (let e : b ≡ int_max b n = grind (arith, ints) in e) (
      Contains-append_left xs ys b h.0,
      All-append (λ x. x ≤ℤ b) xs ys h.1 (All-weaker (λ x. x ≤ℤ n) (λ x. x ≤ℤ b) (λ x up. omega (arith, ints)) ys k.1),
    ))
    (λ le. subst (IsGreatest (xs ++ ys)) (let e : n ≡ int_max b n = grind (arith, ints) in e) (
      Contains-append_right xs ys n k.0,
      All-append (λ x. x ≤ℤ n) xs ys (All-weaker (λ x. x ≤ℤ b) (λ x. x ≤ℤ n) (λ x up. omega (arith, ints)) xs h.1) k.1,
    ))

pub range_joined : (xs ys : List ℤ) (a b m n low high : ℤ) → low ≡ int_min a m → high ≡ int_max b n → IsLeast xs a → IsGreatest xs b → IsLeast ys m → IsGreatest ys n
    → IsLeast (xs ++ ys) low × IsGreatest (xs ++ ys) high
range_joined xs ys a b m n low high is_low is_high la gb lm gn =
    (subst (IsLeast (xs ++ ys)) (sym is_low) (least_joined xs ys a m la lm), subst (IsGreatest (xs ++ ys)) (sym is_high) (greatest_joined xs ys b n gb gn))

-- ---- a run more

pub run_more : (depth d : ℕ) (marks : List Bool) (vs : List ℤ) (k start stop : ℕ) → AreRuns marks k start stop
    → run_values depth d marks vs 0 stop ≡ run_values depth d marks vs 0 k ++ map (λ j. get_or vs (j * depth + d) (pos 0)) (range_with_len start (stop - start))
run_more depth d marks vs k start stop runs =
    let one : stop ≡ stop - 0 = omega arith in
    let two : k - 0 ≡ k = omega arith in
    ap (run_values depth d marks vs 0) one ∙ values_run depth d marks vs 0 k start stop (omega arith) runs
    ∙ ap (λ n. run_values depth d marks vs 0 n ++ map (λ j. get_or vs (j * depth + d) (pos 0)) (range_with_len start (stop - start))) two

-- an empty run adds nothing
pub run_none : (depth d : ℕ) (marks : List Bool) (vs : List ℤ) (k start stop : ℕ) → AreRuns marks k start stop → stop ≤ start → run_values depth d marks vs 0 stop ≡ run_values depth d marks vs 0 k
run_none depth d marks vs k start stop runs none =
    let e : stop - start ≡ 0 = omega arith in
    run_more depth d marks vs k start stop runs
    ∙ ap (λ n. run_values depth d marks vs 0 k ++ map (λ j. get_or vs (j * depth + d) (pos 0)) (range_with_len start n)) e
    ∙ append-nil (run_values depth d marks vs 0 k)

-- ---- the values of a raster at a depth

moved : (depth d : ℕ) (m : Bool) (marks : List Bool) (vs : List ℤ) (n : ℕ)
    → map (λ k. get_or (drop depth vs) (k * depth + d) (pos 0)) (filter (λ k. get_or marks k false) (range_with_len 0 n))
    ≡ map (λ k. get_or vs (k * depth + d) (pos 0)) (filter (λ k. get_or (m ∷ marks) k false) (range_with_len 1 n))
moved depth d m marks vs n =
    let f : ℕ → ℤ = λ k. get_or (drop depth vs) (k * depth + d) (pos 0) in
    let p : ℕ → Bool = λ k. get_or marks k false in
    ap (λ ks. map f (filter p ks)) (sym (map-id (range_with_len 0 n)))
    ∙ picks_same f p (λ k. k) (λ k. get_or vs (k * depth + d) (pos 0)) (λ k. get_or (m ∷ marks) k false) 0 1 n
    (λ k below. ap p (let e : 0 + k ≡ k = omega arith in e) ∙ ap (λ j. get_or (m ∷ marks) j false) (let e : suc k ≡ 1 + k = omega arith in e))
    (λ k below on. get_or-drop depth vs ((0 + k) * depth + d) (pos 0) ∙ ap (λ j. get_or vs j (pos 0)) (let e : depth + ((0 + k) * depth + d) ≡ (1 + k) * depth + d = omega arith in e))

pub depth_runs : (depth d : ℕ) (marks : List Bool) (vs : List ℤ) → d < depth → flat_map (at_depth d) (pixels_of depth marks vs) ≡ run_values depth d marks vs 0 (length marks)
unfolding pixels_of
depth_runs depth d [] vs below = refl
depth_runs depth d (true ∷ marks) vs below =
    flat_map-cons (at_depth d) (Some (take depth vs)) (pixels_of depth marks (drop depth vs))
    ∙ ap (λ v. v ∷ flat_map (at_depth d) (pixels_of depth marks (drop depth vs))) (get_or-take depth vs d (pos 0) below ∙ ap (λ j. get_or vs j (pos 0)) (let e : d ≡ 0 * depth + d = omega arith in e))
    ∙ ap (λ ws. get_or vs (0 * depth + d) (pos 0) ∷ ws) (depth_runs depth d marks (drop depth vs) below ∙ moved depth d true marks vs (length marks))
depth_runs depth d (false ∷ marks) vs below =
    flat_map-cons (at_depth d) None (pixels_of depth marks (drop depth vs))
    ∙ depth_runs depth d marks (drop depth vs) below ∙ moved depth d false marks vs (length marks)

pub depth_is : (a : Inside) (d : ℕ) → d < a.depth → depth_values (seen a) d ≡ run_values a.depth d a.marks a.values.values 0 (length a.marks)
unfolding depth_values
depth_is a d below = depth_runs a.depth d a.marks a.values.values below

-- ---- what is answered

abbrev pub Found : Option (ℤ × ℤ) → List ℤ → Type 0
Found result xs = (least greatest : ℤ) → (result ≡ Some (least, greatest)) ↔ (IsLeast xs least × IsGreatest xs greatest)

not_of_none : (m : ℤ) → IsLeast [] m → ⊥
not_of_none m h = let no : ⊥ = omega (arith, h.0.1) in no

pub found_is : (result : Option (ℤ × ℤ)) (xs : List ℤ) → IsRange result xs → Found result xs
found_is None xs e = λ least greatest. ((λ is. cc), (λ h. absurd (not_of_none least (subst (λ ys. IsLeast ys least) e h.0))))
found_is (Some pair) xs h = λ least greatest. range-unique xs pair.0 pair.1 least greatest h

pub empty_is : (result : Option (ℤ × ℤ)) (xs : List ℤ) → IsRange result xs → IsNone result ↔ (xs ≡ [])
empty_is None xs e = ((λ _. e), (λ _. refl))
empty_is (Some pair) xs h = ((λ no. cc), (λ e. absurd (not_of_none pair.0 (subst (λ ys. IsLeast ys pair.0) e h.0))))

-- there is a value for each valid pixel
one_each : (d a : ℕ) (ps : List (Option (List ℤ))) → length (flat_map (at_depth d) ps) + a ≡ fold (λ b p. b + cond (is_some p) 1 0) a ps
one_each d a [] = omega arith
one_each d a (None ∷ ps) = one_each d a ps ∙ ap (λ b. fold (λ b p. b + cond (is_some p) 1 0) b ps) (let e : a ≡ a + 0 = omega arith in e)
one_each d a (Some vs ∷ ps) = (let e : length (flat_map (at_depth d) (Some vs ∷ ps)) + a ≡ length (flat_map (at_depth d) ps) + (a + 1) = omega arith in e) ∙ one_each d (a + 1) ps

pub depth_count : (r : Pixels) (d : ℕ) → length (depth_values r d) ≡ valid_count r
unfolding depth_values
depth_count r d = (let e : length (flat_map (at_depth d) r.pixels) ≡ length (flat_map (at_depth d) r.pixels) + 0 = omega arith in e) ∙ one_each d 0 r.pixels

no_list : (vs : List ℤ) → length vs ≡ 0 → vs ≡ []
no_list [] e = refl
no_list (v ∷ vs) e = absurd (omega (arith, e))

pub none_is : (result : Option (ℤ × ℤ)) (r : Pixels) (d : ℕ) → IsRange result (depth_values r d) → IsNone result ↔ (valid_count r ≡ 0)
none_is result r d h = (
  λ none. sym (depth_count r d) ∙ ap length ((empty_is result (depth_values r d) h).0 none),
  λ zero. (empty_is result (depth_values r d) h).1 (no_list (depth_values r d) (depth_count r d ∙ zero)),
)
