-- The ranges of the first depths of a raster.
use Rattle.std.proofs.Common.{◌≡◌, ℕ, ◌+◌, ◌<◌, true, false, Bool, List, [], ◌∷◌, ◌++◌, length, get_or, map, refl, sym, ap, ◌∙◌, subst, arith, ◌⊎◌, inl, inr}
use Rattle.std.specs.Prelude.{ℤ, pos, ◌&&◌}
use Rattle.std.specs.Int.{int_min, int_max}
use Rattle.std.specs.List.{range_with_len}
use Rattle.std.specs.Ordering.{int_eq}
use Rattle.std.specs.Cmp.Lexicographic.{pointwise}
use Rattle.std.proofs.lemmas.Bool.{cases_order}
use Rattle.std.proofs.lemmas.List.Sums.{fold-append}
use Rattle.std.proofs.lemmas.List.FromFn.{map-range_with_len_more, length-map-range_with_len}
use Rattle.raster_values.specs.Raster.{Pixels, IsRaster}
use Rattle.micro_block.specs.ChosenBlock.{least_value}
use Rattle.lerc_encode.specs.Ranges.{depth_values, greatest_value}
use Rattle.lerc_encode.specs.declared.image.ranging.Range.{Range}
use Rattle.lerc_encode.specs.declared.image.ranging.Ranges.{Ranges}
use Rattle.lerc_encode.specs.inside.Choosing.{AreRanges}
use Rattle.lerc_encode.proofs.Extremes.{whole_least, whole_greatest}

-- the ends of a depth
abbrev pub least_at : Pixels → ℕ → ℤ
least_at r d = least_value (depth_values r d)

abbrev pub greatest_at : Pixels → ℕ → ℤ
greatest_at r d = greatest_value (depth_values r d)

-- what is known of the first n depths, of which f and g are the least and the greatest values
pub record AreFirst (f g : ℕ → ℤ) (n : ℕ) (ranges : Ranges) : Type 0 where
  pub least : ranges.whole.least ≡ least_value (map f (range_with_len 0 n))
  pub greatest : ranges.whole.greatest ≡ greatest_value (map g (range_with_len 0 n))
  pub equal : ranges.equal ≡ pointwise int_eq (map f (range_with_len 0 n)) (map g (range_with_len 0 n))
  pub kept_least : (d : ℕ) → d < 16 → d < n → get_or ranges.leasts d (pos 0) ≡ f d
  pub kept_greatest : (d : ℕ) → d < 16 → d < n → get_or ranges.greatests d (pos 0) ≡ g d

-- ---- of one depth more

least_more : (vs : List ℤ) (v : ℤ) → 0 < length vs → least_value (vs ++ v ∷ []) ≡ int_min (least_value vs) v
least_more [] v some = absurd (omega (arith, some))
least_more (w ∷ vs) v some = fold-append int_min w vs (v ∷ [])

greatest_more : (vs : List ℤ) (v : ℤ) → 0 < length vs → greatest_value (vs ++ v ∷ []) ≡ int_max (greatest_value vs) v
greatest_more [] v some = absurd (omega (arith, some))
greatest_more (w ∷ vs) v some = fold-append int_max w vs (v ∷ [])

and_yes : (b : Bool) → (b && true) ≡ b
and_yes true = refl
and_yes false = refl

and_joined : (a b c : Bool) → (a && (b && c)) ≡ ((a && b) && c)
and_joined true b c = refl
and_joined false b c = refl

equal_more : (vs ws : List ℤ) (v w : ℤ) → length vs ≡ length ws → pointwise int_eq (vs ++ v ∷ []) (ws ++ w ∷ []) ≡ (pointwise int_eq vs ws && int_eq v w)
equal_more [] [] v w e = and_yes (int_eq v w)
equal_more [] (y ∷ ws) v w e = absurd (omega (arith, e))
equal_more (x ∷ vs) [] v w e = absurd (omega (arith, e))
equal_more (x ∷ vs) (y ∷ ws) v w e = ap (λ (b : Bool). int_eq x y && b) (equal_more vs ws v w (omega (arith, e))) ∙ and_joined (int_eq x y) (pointwise int_eq vs ws) (int_eq v w)

-- a value that is put behind those that are kept
kept_more : (f : ℕ → ℤ) (n : ℕ) (old new : List ℤ) (v : ℤ) → v ≡ f n → ((d : ℕ) → d < 16 → d < n → get_or old d (pos 0) ≡ f d) → (n < 16 → get_or new n (pos 0) ≡ v) → ((k : ℕ) → (k ≡ n → ⊥) → get_or new k (pos 0) ≡ get_or old k (pos 0))
    → (d : ℕ) → d < 16 → d < n + 1 → get_or new d (pos 0) ≡ f d
kept_more f n old new v is before this others d low below = by (cases_order d n)
  where
    by : (d ≡ n) ⊎ ((d < n) ⊎ (n < d)) → get_or new d (pos 0) ≡ f d
    by (inl e) = subst (λ m. get_or new m (pos 0) ≡ f m) (sym e) (this (omega (arith, e, low)) ∙ is)
    by (inr (inl l)) = others d (λ e. omega (arith, e, l)) ∙ before d low l
    by (inr (inr l)) = absurd (omega (arith, l, below))

pub first_one : (f g : ℕ → ℤ) (ranges : Ranges) (found : Range) → found.least ≡ f 0 → found.greatest ≡ g 0 → ranges.whole.least ≡ found.least → ranges.whole.greatest ≡ found.greatest → ranges.equal ≡ int_eq found.least found.greatest
    → get_or ranges.leasts 0 (pos 0) ≡ found.least → get_or ranges.greatests 0 (pos 0) ≡ found.greatest → AreFirst f g 1 ranges
first_one f g ranges found low high least greatest equal kept_least kept_greatest = record {
  least = least ∙ low;
  greatest = greatest ∙ high;
  equal = equal ∙ (λ t. int_eq (low t) (high t)) ∙ sym (and_yes (int_eq (f 0) (g 0)));
  kept_least = λ d few below. subst (λ k. get_or ranges.leasts k (pos 0) ≡ f k) (let e : 0 ≡ d = omega (arith, below) in e) (kept_least ∙ low);
  kept_greatest = λ d few below. subst (λ k. get_or ranges.greatests k (pos 0) ≡ g k) (let e : 0 ≡ d = omega (arith, below) in e) (kept_greatest ∙ high);
}

pub first_more : (f g : ℕ → ℤ) (n : ℕ) (old new : Ranges) (found : Range) → 0 < n → AreFirst f g n old → found.least ≡ f n → found.greatest ≡ g n
    → new.whole.least ≡ int_min old.whole.least found.least → new.whole.greatest ≡ int_max old.whole.greatest found.greatest → new.equal ≡ (old.equal && int_eq found.least found.greatest)
    → (n < 16 → get_or new.leasts n (pos 0) ≡ found.least) → (n < 16 → get_or new.greatests n (pos 0) ≡ found.greatest)
    → ((k : ℕ) → (k ≡ n → ⊥) → get_or new.leasts k (pos 0) ≡ get_or old.leasts k (pos 0)) → ((k : ℕ) → (k ≡ n → ⊥) → get_or new.greatests k (pos 0) ≡ get_or old.greatests k (pos 0))
    → AreFirst f g (n + 1) new
first_more f g n old new found some is low high least greatest equal kept_least kept_greatest other_leasts other_greatests =
    let lows = map f (range_with_len 0 n) in
    let highs = map g (range_with_len 0 n) in
    let long_lows : length lows ≡ n = length-map-range_with_len f 0 n in
    let long_highs : length highs ≡ n = length-map-range_with_len g 0 n in
    let more_lows = map-range_with_len_more f 0 n n (omega arith) in
    let more_highs = map-range_with_len_more g 0 n n (omega arith) in
    record {
      least = least ∙ (λ t. int_min (is.least t) (low t)) ∙ sym (least_more lows (f n) (omega (arith, long_lows, some))) ∙ ap least_value (sym more_lows);
      greatest = greatest ∙ (λ t. int_max (is.greatest t) (high t)) ∙ sym (greatest_more highs (g n) (omega (arith, long_highs, some))) ∙ ap greatest_value (sym more_highs);
      equal = equal ∙ (λ t. is.equal t && int_eq (low t) (high t)) ∙ sym (equal_more lows highs (f n) (g n) (long_lows ∙ sym long_highs)) ∙ (λ t. pointwise int_eq (sym more_lows t) (sym more_highs t));
      kept_least = kept_more f n old.leasts new.leasts found.least low is.kept_least kept_least other_leasts;
      kept_greatest = kept_more g n old.greatests new.greatests found.greatest high is.kept_greatest kept_greatest other_greatests;
    }

-- and of all
pub all_known : (r : Pixels) (n : ℕ) (ranges : Ranges) → IsRaster r → n ≡ r.depth → AreFirst (least_at r) (greatest_at r) n ranges → AreRanges r ranges
all_known r n ranges sound all is =
    let known : AreFirst (least_at r) (greatest_at r) r.depth ranges = subst (λ m. AreFirst (least_at r) (greatest_at r) m ranges) all is in
    record {
      sound = sound;
      least = known.least ∙ whole_least r sound;
      greatest = known.greatest ∙ whole_greatest r sound;
      equal = known.equal;
      kept_least = known.kept_least;
      kept_greatest = known.kept_greatest;
    }
