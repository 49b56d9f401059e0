-- Values by their distances from the least value of their type.
use Rattle.std.proofs.Common.{◌≡◌, ℕ, ℤ, pos, ◌+◌, ◌-◌, ◌*◌, ◌/◌, ◌^◌, ◌<◌, ◌≤◌, ◌+ℤ◌, ◌-ℤ◌, ◌≤ℤ◌, min, max, List, [], ◌∷◌, ◌++◌, map, length, take, drop, get_or, refl, sym, ap, subst, ◌∙◌, arith, inl, inr}
use Rattle.std.specs.Prelude.{All, Contains, unsigned_abs}
use Rattle.std.proofs.lemmas.Bool.{cases_lt}
use Rattle.std.proofs.lemmas.Int.{ints}
use Rattle.std.proofs.lemmas.List.{get_or-map, length-append, length-map, length-take, take_more}
use Rattle.std.proofs.lemmas.List.Elements.{All-contains, All-drop, All-from_get_or, All-get_or, All-head, All-map, All-nil, All-push, All-same, All-tail, All-take, All-weaker, Contains-append_left, Contains-push}
use Rattle.lane_kernels.specs.Kernels.{IsLeast, IsGreatest}
use Rattle.bit_stuff.specs.Simple.{greatest_number}
use Rattle.bit_stuff.proofs.Digits.{greatest_above}
use Rattle.raster_cells.specs.declared.kind.PixelType.{PixelType}
use Rattle.raster_cells.specs.declared.kind.PixelType.TheVariants.{I8, U8, I16, U16, I32, U32}
use Rattle.raster_cells.specs.Distance.{IsDistance, distance_of, value_above}
use Rattle.raster_cells.specs.PixelType.{InRange, type_least}
use Rattle.micro_block.specs.declared.spreading.Spread.{Spread}
use Rattle.micro_block.specs.declared.stepping.Rule.{Rule}
use Rattle.micro_block.specs.declared.stepping.Rule.TheVariants.{Subtract, Shift, Multiply, Divide}
use Rattle.micro_block.specs.ChosenBlock.{quantised_values}
use Rattle.micro_block.specs.Near.{quantised}
use Rattle.micro_block.specs.inside.Stepping.{AreEndsOf, AreListable, AreStepped, IsRule, IsSpread, steps_above}
use Rattle.micro_block.proofs.Range.{least_is, most_is as most_is_greatest}

pub above_in_range : (kind : PixelType) (d : ℕ) → IsDistance kind d → InRange kind (value_above kind d)
above_in_range I8 d h = omega (arith, ints, h)
above_in_range U8 d h = omega (arith, ints, h)
above_in_range I16 d h = omega (arith, ints, h)
above_in_range U16 d h = omega (arith, ints, h)
above_in_range I32 d h = omega (arith, ints, h)
above_in_range U32 d h = omega (arith, ints, h)

pub all_in_range : (kind : PixelType) (ds : List ℕ) → All (IsDistance kind) ds → All (InRange kind) (map (value_above kind) ds)
all_in_range kind ds h = All-map (InRange kind) (value_above kind) ds (All-weaker (IsDistance kind) (λ d. InRange kind (value_above kind d)) (λ d g. above_in_range kind d g) ds h)

pub given_in_range : (kind : PixelType) (ds : List ℕ) (values : List ℤ) → values ≡ map (value_above kind) ds → All (IsDistance kind) ds → All (InRange kind) values
given_in_range kind ds values e h = All-same (InRange kind) values (map (value_above kind) ds) e (all_in_range kind ds h)

-- ---- the least and the greatest

-- one distance more
pub ends_push : (front : List ℕ) (x l g : ℕ) → x ≤ 4294967295 → AreEndsOf front l g → AreEndsOf (front ++ x ∷ []) (min l x) (max g x)
ends_push front x l g fits s =
    let long = length-append front (x ∷ []) in
    record {
      from = All-push (λ d. min l x ≤ d) front x (All-weaker (λ d. l ≤ d) (λ d. min l x ≤ d) (λ d h. omega (arith, h)) front s.from) (omega arith);
      upto = All-push (λ d. d ≤ max g x) front x (All-weaker (λ d. d ≤ g) (λ d. d ≤ max g x) (λ d h. omega (arith, h)) front s.upto) (omega arith);
      least_in = λ some. least_among;
      greatest_in = λ some. greatest_among;
      least_of_none = λ none. absurd (omega (arith, long, none));
      greatest_of_none = λ none. absurd (omega (arith, long, none));
    }
  where
    none_least : length front ≡ 0 → l ≡ 4294967295
    none_least e = s.least_of_none e

    least_among : Contains (front ++ x ∷ []) (min l x)
    least_among = elim (cases_lt l x) [
      | inl less ↦ elim (cases_lt 0 (length front)) [
        | inl some ↦ subst (λ (m : ℕ). Contains (front ++ x ∷ []) m) (let e : l ≡ min l x = omega arith in e) (Contains-append_left front (x ∷ []) l (s.least_in some))
        | inr none ↦ absurd (let e = none_least (omega (arith, none)) in omega (arith, e, less, fits))
      ]
      | inr more ↦ subst (λ (m : ℕ). Contains (front ++ x ∷ []) m) (let e : x ≡ min l x = omega arith in e) (Contains-push front x)
    ]

    greatest_among : Contains (front ++ x ∷ []) (max g x)
    greatest_among = elim (cases_lt x g) [
      | inl less ↦ elim (cases_lt 0 (length front)) [
        | inl some ↦ subst (λ (m : ℕ). Contains (front ++ x ∷ []) m) (let e : g ≡ max g x = omega arith in e) (Contains-append_left front (x ∷ []) g (s.greatest_in some))
        | inr none ↦ absurd (let e = s.greatest_of_none (omega (arith, none)) in omega (arith, e, less))
      ]
      | inr more ↦ subst (λ (m : ℕ). Contains (front ++ x ∷ []) m) (let e : x ≡ max g x = omega arith in e) (Contains-push front x)
    ]

pub ends_more : (ds : List ℕ) (i l g : ℕ) → i < length ds → get_or ds i 0 ≤ 4294967295 → AreEndsOf (take i ds) l g → AreEndsOf (take (i + 1) ds) (min l (get_or ds i 0)) (max g (get_or ds i 0))
ends_more ds i l g low fits s = subst (λ (front : List ℕ). AreEndsOf front (min l (get_or ds i 0)) (max g (get_or ds i 0))) (sym (take_more ds i 0 low)) (ends_push (take i ds) (get_or ds i 0) l g fits s)

pub ends_none : AreEndsOf [] 4294967295 0
ends_none = record { from = All-nil (λ d. 4294967295 ≤ d); upto = All-nil (λ d. d ≤ 0); least_in = λ some. absurd (omega (arith, some)); greatest_in = λ some. absurd (omega (arith, some)); least_of_none = λ e. refl; greatest_of_none = λ e. refl }

-- ---- as values

contains_above : (kind : PixelType) (ds : List ℕ) (m : ℕ) → Contains ds m → Contains (map (value_above kind) ds) (value_above kind m)
contains_above kind ds m (k, low, e) =
    let long = length-map ds (value_above kind) in
    (k, omega (arith, long, low), get_or-map (value_above kind) ds k m (value_above kind m) low ∙ ap (value_above kind) e)

pub least_above : (kind : PixelType) (ds : List ℕ) (l : ℕ) → All (λ d. l ≤ d) ds → Contains ds l → IsLeast (map (value_above kind) ds) (value_above kind l)
least_above kind ds l all has =
    (contains_above kind ds l has, All-map (λ v. value_above kind l ≤ℤ v) (value_above kind) ds (All-weaker (λ d. l ≤ d) (λ d. value_above kind l ≤ℤ value_above kind d) (λ d h. rises (type_least kind) l d h) ds all))
  where
    rises : (t : ℤ) (l d : ℕ) → l ≤ d → (t +ℤ pos l) ≤ℤ (t +ℤ pos d)
    rises t l d h = omega (arith, ints, h)

greatest_above_all : (kind : PixelType) (ds : List ℕ) (g : ℕ) → All (λ d. d ≤ g) ds → Contains ds g → IsGreatest (map (value_above kind) ds) (value_above kind g)
greatest_above_all kind ds g all has =
    (contains_above kind ds g has, All-map (λ v. v ≤ℤ value_above kind g) (value_above kind) ds (All-weaker (λ d. d ≤ g) (λ d. value_above kind d ≤ℤ value_above kind g) (λ d h. rises (type_least kind) d g h) ds all))
  where
    rises : (t : ℤ) (l d : ℕ) → l ≤ d → (t +ℤ pos l) ≤ℤ (t +ℤ pos d)
    rises t l d h = omega (arith, ints, h)

-- steps between values are steps between distances
one_same : (kind : PixelType) (step l d : ℕ) → l ≤ d → steps_above step l d ≡ quantised step (value_above kind l) (value_above kind d)
one_same kind step l d h = ap (λ n. (2 * n + step) / (2 * step)) (apart (type_least kind) l d h)
  where
    apart : (t : ℤ) (l d : ℕ) → l ≤ d → d - l ≡ unsigned_abs ((t +ℤ pos d) -ℤ (t +ℤ pos l))
    apart t l d h = omega (arith, ints, h)

all_same : (kind : PixelType) (step l : ℕ) (ds : List ℕ) → All (λ d. l ≤ d) ds → map (steps_above step l) ds ≡ map (quantised step (value_above kind l)) (map (value_above kind) ds)
all_same kind step l [] h = refl
all_same kind step l (d ∷ ds) h = λ i. one_same kind step l d (All-head (λ d. l ≤ d) d ds h) i ∷ all_same kind step l ds (All-tail (λ d. l ≤ d) d ds h) i

-- what is known from the least and the greatest distance
pub spread_some : (kind : PixelType) (step : ℕ) (ds : List ℕ) (l g most : ℕ) (rule : Rule) → 0 < length ds → All (IsDistance kind) ds → 0 < step → step ≤ 8589934592 → AreEndsOf ds l g → IsRule step (g - l) rule → most ≡ steps_above step l g
    → IsSpread kind step ds (record { least = l; most = most; rule = rule })
spread_some kind step ds l g most rule some fits pos_step step_fits ends is_rule most_is =
    let has = ends.least_in some in
    let has_greatest = ends.greatest_in some in
    let low = least_above kind ds l ends.from has in
    let high = greatest_above_all kind ds g ends.upto has_greatest in
    let vs = map (value_above kind) ds in
    let least_value_is = sym (least_is vs (value_above kind l) low) in
    let order : l ≤ g = All-contains (λ d. l ≤ d) ds g ends.from has_greatest in
    let same : map (steps_above step l) ds ≡ quantised_values step vs = all_same kind step l ds ends.from ∙ ap (λ (m : ℤ). map (quantised step m) vs) least_value_is in
    record {
      least_is = least_value_is;
      least_fits = All-contains (IsDistance kind) ds l fits has;
      stepped = record { reach = g - l; is_rule = is_rule; from = ends.from; near = All-weaker (λ d. d ≤ g) (λ d. d - l ≤ g - l) (λ d h. omega (arith, h)) ds ends.upto; some = pos_step; step_fits = step_fits };
      same = same;
      most = most_is ∙ one_same kind step l g order ∙ most_is_greatest step vs (value_above kind l) (value_above kind g) pos_step low high ∙ ap greatest_number (sym same);
    }

-- and from none
pub spread_none : (kind : PixelType) (step n : ℕ) → 0 < step → step ≤ 8589934592 → value_above kind n ≡ pos 0 → IsDistance kind n → IsSpread kind step [] (record { least = n; most = 0; rule = Divide })
spread_none kind step n some fits e is =
    record {
      least_is = e;
      least_fits = is;
      stepped = record { reach = 0; is_rule = tt; from = All-nil (λ d. n ≤ d); near = All-nil (λ d. d - n ≤ 0); some = some; step_fits = fits };
      same = refl;
      most = refl;
    }

-- no number of steps is above the greatest's
pub steps_below : (kind : PixelType) (step n : ℕ) (ds : List ℕ) (s : Spread) → IsSpread kind step ds s → s.most < n → All (λ d. steps_above step s.least d < n) ds
steps_below kind step n ds s is low = All-from_get_or (λ d. steps_above step s.least d < n) ds 0 (λ i lt. below i lt)
  where
    below : (i : ℕ) → i < length ds → steps_above step s.least (get_or ds i 0) < n
    below i lt =
        let at : get_or (map (steps_above step s.least) ds) i 0 ≡ steps_above step s.least (get_or ds i 0) = get_or-map (steps_above step s.least) ds i 0 0 lt in
        let most = is.most in
        let le = greatest_above (map (steps_above step s.least) ds) i in
        omega (arith, at, most, le, low)

-- what goes into a list
pub listable : (kind : PixelType) (step : ℕ) (ds : List ℕ) (s : Spread) → length ds ≤ 256 → IsSpread kind step ds s → s.most < 2 ^ 30 → AreListable step s.least s.rule ds
listable kind step ds s few is low = record { count = few; stepped = is.stepped; few = steps_below kind step (2 ^ 30) ds s is low }

pub all_below : (step l : ℕ) (ds qs : List ℕ) → qs ≡ map (steps_above step l) ds → All (λ d. steps_above step l d < 2 ^ 30) ds → All (λ q. q < 2 ^ 31) qs
all_below step l ds qs e few =
    All-same (λ q. q < 2 ^ 31) qs (map (steps_above step l) ds) e
    (All-map (λ q. q < 2 ^ 31) (steps_above step l) ds (All-weaker (λ d. steps_above step l d < 2 ^ 30) (λ d. steps_above step l d < 2 ^ 31) (λ d below. omega (arith, below)) ds few))

-- the front of a list
stepped_front : (step l n : ℕ) (rule : Rule) (ds : List ℕ) → AreStepped step l rule ds → AreStepped step l rule (take n ds)
stepped_front step l n rule ds s = record { reach = s.reach; is_rule = s.is_rule; from = All-take (λ d. l ≤ d) n ds s.from; near = All-take (λ d. d - l ≤ s.reach) n ds s.near; some = s.some; step_fits = s.step_fits }

pub listable_front : (step l n : ℕ) (rule : Rule) (ds : List ℕ) → AreListable step l rule ds → AreListable step l rule (take n ds)
listable_front step l n rule ds s =
    let count = s.count in
    let long = length-take n ds in
    record {
      count = omega (arith, count, long);
      stepped = stepped_front step l n rule ds s.stepped;
      few = All-take (λ d. steps_above step l d < 2 ^ 30) n ds s.few;
    }

-- a piece of it
pub stepped_piece : (step l at n : ℕ) (rule : Rule) (ds : List ℕ) → AreStepped step l rule ds → AreStepped step l rule (take n (drop at ds))
stepped_piece step l at n rule ds s =
    stepped_front step l n rule (drop at ds)
    (record { reach = s.reach; is_rule = s.is_rule; from = All-drop (λ d. l ≤ d) at ds s.from; near = All-drop (λ d. d - l ≤ s.reach) at ds s.near; some = s.some; step_fits = s.step_fits })

-- a rule serves what is nearer, too
rule_nearer : (step reach near : ℕ) (rule : Rule) → near ≤ reach → IsRule step reach rule → IsRule step near rule
rule_nearer step reach near Subtract le h = h
rule_nearer step reach near (Shift half shift) le h = (h.0, (h.1.0, (h.1.1.0, (let far = h.1.1.1 in omega (arith, far, le)))))
rule_nearer step reach near (Multiply half product) le h = (h.0, ((let far = h.1.0 in omega (arith, far, le)), h.1.1))
rule_nearer step reach near Divide le h = h

pub rule_at : (step l i : ℕ) (rule : Rule) (ds : List ℕ) → AreStepped step l rule ds → i < length ds → IsRule step (get_or ds i 0 - l) rule
rule_at step l i rule ds s lt = rule_nearer step s.reach (get_or ds i 0 - l) rule (All-get_or (λ d. d - l ≤ s.reach) ds i 0 lt s.near) s.is_rule

pub least_at : (step l i : ℕ) (rule : Rule) (ds : List ℕ) → AreStepped step l rule ds → i < length ds → l ≤ get_or ds i 0
least_at step l i rule ds s lt = All-get_or (λ d. l ≤ d) ds i 0 lt s.from

-- values as distances
pub distance_fits : (kind : PixelType) (v : ℤ) → InRange kind v → IsDistance kind (distance_of kind v)
distance_fits I8 v h = omega (arith, ints, h)
distance_fits U8 v h = omega (arith, ints, h)
distance_fits I16 v h = omega (arith, ints, h)
distance_fits U16 v h = omega (arith, ints, h)
distance_fits I32 v h = omega (arith, ints, h)
distance_fits U32 v h = omega (arith, ints, h)

pub distances_fit : (kind : PixelType) (vs : List ℤ) (ds : List ℕ) → ds ≡ map (distance_of kind) vs → All (InRange kind) vs → All (IsDistance kind) ds
distances_fit kind vs ds e h = All-same (IsDistance kind) ds (map (distance_of kind) vs) e (All-map (IsDistance kind) (distance_of kind) vs (All-weaker (InRange kind) (λ v. IsDistance kind (distance_of kind v)) (λ v g. distance_fits kind v g) vs h))

back : (t v : ℤ) → t ≤ℤ v → t +ℤ pos (unsigned_abs (v -ℤ t)) ≡ v
back t v h = omega (arith, ints, h)

pub distances_back : (kind : PixelType) (vs : List ℤ) → All (InRange kind) vs → map (value_above kind) (map (distance_of kind) vs) ≡ vs
distances_back kind [] h = refl
distances_back kind (v ∷ vs) h = λ i. back (type_least kind) v (All-head (InRange kind) v vs h).0 i ∷ distances_back kind vs (All-tail (InRange kind) v vs h) i

pub given_back : (kind : PixelType) (vs : List ℤ) (ds : List ℕ) → ds ≡ map (distance_of kind) vs → All (InRange kind) vs → map (value_above kind) ds ≡ vs
given_back kind vs ds e h = ap (map (value_above kind)) e ∙ distances_back kind vs h
