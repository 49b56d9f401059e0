-- Values far apart of which few are different: how many, and how far above the least they are.
use Rattle.std.proofs.Common.{◌≡◌, ℕ, zero, suc, ◌+◌, ◌<◌, ◌≤◌, ◌+ℤ◌, ℤ, pos, min, max, List, [], ◌∷◌, length, map, take, get_or, refl, sym, ap, ◌∙◌, subst, arith, Option, None, Some}
use Rattle.std.specs.Prelude.{All, IfSome}
use Rattle.std.proofs.lemmas.Int.{ints}
use Rattle.std.proofs.lemmas.List.{take_all}
use Rattle.std.proofs.lemmas.List.Elements.{All-weaker}
use Rattle.bit_stuff.specs.Head.{head_size}
use Rattle.bit_stuff.specs.Simple.{binary_digits, greatest_number}
use Rattle.bit_stuff.specs.Stuffed.{stuffed_size}
use Rattle.bit_stuff.proofs.Digits.{digits-le}
use Rattle.raster_cells.specs.declared.kind.PixelType.{PixelType}
use Rattle.raster_cells.specs.declared.kind.PixelType.TheVariants.{I8, U8, I16, U16, I32, U32}
use Rattle.raster_cells.specs.PixelType.{type_least}
use Rattle.raster_cells.specs.Distance.{IsDistance, value_above}
use Rattle.lut_stuff.specs.Ranked.{above_value}
use Rattle.lut_stuff.specs.Tables.{distinct_above_0}
use Rattle.lut_stuff.proofs.NameSets.{all_has}
use Rattle.lut_stuff.proofs.Ranked.{distinct_shift}
use Rattle.lut_stuff.proofs.Rising.{Has, has_from_contains}
use Rattle.micro_block.specs.declared.spreading.Spread.{Spread}
use Rattle.micro_block.specs.inside.Stepping.{AreEndsOf, IsSpread, steps_above, values_above}
use Rattle.micro_block.proofs.Above.{ends_more, ends_none, least_above}
use Rattle.micro_block.proofs.Range.{least_is}
use Rattle.micro_block.proofs.SizeSteps.{head_few, stuffed_few}
use Rattle.micro_block.proofs.Stepped.{step_whole}

-- at step 1 the numbers of steps are the distances from the least
pub steps_are : (step least : ℕ) (ds : List ℕ) → step ≡ 1 → map (steps_above step least) ds ≡ above_value least ds
steps_are step least [] e = refl
steps_are step least (d ∷ ds) e = (λ t. step_whole step least d e t ∷ steps_are step least ds e t)

-- ---- the least is one of them

small : (kind : PixelType) (d : ℕ) → IsDistance kind d → d ≤ 4294967295
small I8 d h = omega (arith, h)
small U8 d h = omega (arith, h)
small I16 d h = omega (arith, h)
small U16 d h = omega (arith, h)
small I32 d h = omega (arith, h)
small U32 d h = omega (arith, h)

ends_exist : (ds : List ℕ) → All (λ d. d ≤ 4294967295) ds → (n : ℕ) → n ≤ length ds → (l : ℕ) × ((g : ℕ) × AreEndsOf (take n ds) l g)
ends_exist ds fits zero le = (4294967295, (0, ends_none))
ends_exist ds fits (suc n) le =
    let e = ends_exist ds fits n (omega (arith, le)) in
    let lt : n < length ds = omega (arith, le) in
    let next : n + 1 ≡ suc n = omega arith in
    (min e.0 (get_or ds n 0), (max e.1.0 (get_or ds n 0), subst (λ (k : ℕ). AreEndsOf (take k ds) (min e.0 (get_or ds n 0)) (max e.1.0 (get_or ds n 0))) next (ends_more ds n e.0 e.1.0 lt (fits n 0 lt) e.1.1)))

some_there : (step least : ℕ) (ds : List ℕ) → 0 < greatest_number (map (steps_above step least) ds) → 0 < length ds
some_there step least [] some = absurd (let no : ⊥ = omega (arith, some) in no)
some_there step least (d ∷ ds) some = omega arith

same_distance : (t : ℤ) (a b : ℕ) → (t +ℤ pos a) ≡ (t +ℤ pos b) → a ≡ b
same_distance t a b e = omega (arith, ints, e)

pub least_there : (kind : PixelType) (step : ℕ) (ds : List ℕ) (s : Spread) → All (IsDistance kind) ds → IsSpread kind step ds s → 0 < s.most → Has s.least ds
least_there kind step ds s fits is far =
    let most = is.most in
    let some = some_there step s.least ds (omega (arith, most, far)) in
    let e = ends_exist ds (All-weaker (IsDistance kind) (λ d. d ≤ 4294967295) (λ d h. small kind d h) ds fits) (length ds) (omega arith) in
    let l = e.0 in
    let g = e.1.0 in
    let ends : AreEndsOf ds l g = subst (λ (xs : List ℕ). AreEndsOf xs l g) (take_all (length ds) ds (omega arith)) e.1.1 in
    let c = ends.least_in some in
    let low = least_above kind ds l ends.from c in
    let same : s.least ≡ l = same_distance (type_least kind) s.least l (is.least_is ∙ least_is (values_above kind ds) (value_above kind l) low) in
    subst (λ (u : ℕ). Has u ds) (sym same) (has_from_contains ds l c.0 c.1 c.2)

-- ---- how many are different

pub steps_distinct : (kind : PixelType) (step : ℕ) (ds : List ℕ) (s : Spread) → step ≡ 1 → All (IsDistance kind) ds → IsSpread kind step ds s → 0 < s.most
    → distinct_above_0 (map (steps_above step s.least) ds) + 1 ≡ distinct_above_0 (map suc ds)
steps_distinct kind step ds s one fits is far =
    ap (λ (qs : List ℕ). distinct_above_0 qs + 1) (steps_are step s.least ds one)
    ∙ distinct_shift s.least ds (least_there kind step ds s fits is far) (λ x h. all_has (λ d. s.least ≤ d) ds x is.stepped.from h)

-- a list in the table form of a block is short
pub table_short_by : (count width different : ℕ) (found : Option ℕ) → count ≤ 256 → width ≤ 31
    → IfSome found (λ n. (different ≤ 254) × (n ≡ head_size count + (1 + stuffed_size different width + stuffed_size count (binary_digits different)))) → IfSome found (λ n. n ≤ 2000)
table_short_by count width different None few narrow h = tt
table_short_by count width different (Some n) few narrow (low, size) =
    let entries = stuffed_few different width (omega (arith, low)) narrow in
    let digits : binary_digits different ≤ 8 = digits-le 8 different (omega (arith, low)) in
    let indexes = stuffed_few count (binary_digits different) few (omega (arith, digits)) in
    omega (arith, size, head_few count, entries, indexes)
