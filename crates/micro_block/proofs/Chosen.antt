-- What is chosen for a block, from its place and size.
use Rattle.std.proofs.Common.{◌≡◌, ℕ, zero, suc, ◌^◌, ◌<◌, ◌≤◌, ℤ, Bool, true, false, List, get_or, length, map, sym, ap, subst, ◌∙◌, arith}
use Rattle.std.specs.Prelude.{All, Option, Some, None, not, ◌&&◌, nat_le}
use Rattle.std.proofs.lemmas.Bool.{leb-true, ltb-true}
use Rattle.std.proofs.lemmas.List.{length-map}
use Rattle.raster_cells.specs.declared.kind.PixelType.{PixelType}
use Rattle.raster_cells.specs.Distance.{IsDistance, value_above}
use Rattle.raster_cells.specs.PixelType.{InRange}
use Rattle.bit_stuff.specs.Simple.{greatest_number}
use Rattle.lut_stuff.specs.Tables.{distinct_above_0, table_bytes, table_size}
use Rattle.lut_stuff.proofs.Tabled.{distinct_some, table_size_some}
use Rattle.micro_block.specs.declared.choosing.Chosen.{Chosen}
use Rattle.micro_block.specs.declared.spreading.Spread.{Spread}
use Rattle.micro_block.specs.ChosenBlock as chosen_block
use Rattle.micro_block.specs.ChosenBlock.{WrittenForm, May, least_value, quantised_values, is_flat, is_stuffable, forms, chosen_form, written_form_bytes, block_bytes}
use Rattle.micro_block.specs.Fewest.{IsFirstLeast}
use Rattle.micro_block.specs.inside.Forms.{form_at, named, IsChosen}
use Rattle.micro_block.specs.inside.Sizes.{closed_sizes, IsFirst, IsTabledLength}
use Rattle.micro_block.specs.inside.Stepping.{AreListable, IsSpread, steps_above, values_above}
use Rattle.micro_block.proofs.Above.{above_in_range, listable}
use Rattle.micro_block.proofs.Closed.{IsMade, taken_found, taken_plain}
use Rattle.micro_block.proofs.Written.{allowed_some, some_same, chosen_may, left, right, some_above_0}

-- what stands at a place of the candidates is the form of that place
pub placed : (step : ℕ) (values : List ℤ) (form : WrittenForm) (k : ℕ) → get_or (forms step values) k None ≡ Some form → named (form_at k) ≡ form
placed step values form zero e = (allowed_some _ chosen_block.zero form e).1
placed step values form (suc zero) e = (allowed_some _ chosen_block.constant form e).1
placed step values form (suc (suc zero)) e = some_same chosen_block.raw form e
placed step values form (suc (suc (suc zero))) e = (allowed_some _ chosen_block.simple form e).1
placed step values form (suc (suc (suc (suc zero)))) e = (allowed_some _ chosen_block.table form e).1
placed step values form (suc (suc (suc (suc (suc k))))) e = absurd (cc)

pub chosen_is : (kind : PixelType) (col step : ℕ) (values : List ℤ) (c : Chosen) (place : ℕ) → IsMade kind col step values place c.size → c.form ≡ form_at place → c.least ≡ least_value values → InRange kind c.least
    → IsChosen kind col step values c
chosen_is kind col step values c place made at is fits =
    let e : named c.form ≡ chosen_form kind col step values = ap named at ∙ placed step values (chosen_form kind col step values) place made.0 in
    record { form = e; size = made.1; may = subst (May step values) (sym e) (chosen_may kind col step values); least = is; fits = fits }

-- what is chosen of distances, by what was found of the table form
pub chosen_found : (kind : PixelType) (col step : ℕ) (ds : List ℕ) (s : Spread) (tabled : Option ℕ) (c : Chosen) → All (IsDistance kind) ds → IsSpread kind step ds s → IsTabledLength step (values_above kind ds) tabled
    → IsFirst kind (length ds) (value_above kind s.least) s.most tabled c → c.least ≡ value_above kind s.least → IsChosen kind col step (values_above kind ds) c
chosen_found kind col step ds s tabled c fits is found (place, (at, first)) least =
    let vs = values_above kind ds in
    let count : length ds ≡ length vs = sym (length-map ds (value_above kind)) in
    let made = taken_found kind col step vs (value_above kind s.least) s.most tabled place c.size is.least_is (is.most ∙ ap greatest_number is.same) found (subst (λ (n : ℕ). IsFirstLeast (λ m. m) (closed_sizes kind n (value_above kind s.least) s.most tabled) place c.size) count first) in
    chosen_is kind col step vs c place made at (least ∙ is.least_is) (subst (λ (z : ℤ). InRange kind z) (sym least) (above_in_range kind s.least is.least_fits))

-- and where it has no table
pub chosen_plain : (kind : PixelType) (col step : ℕ) (ds : List ℕ) (s : Spread) (c : Chosen) → IsSpread kind step ds s → (chosen_form kind col step (values_above kind ds) ≡ chosen_block.table → ⊥)
    → IsFirst kind (length ds) (value_above kind s.least) s.most None c → c.least ≡ value_above kind s.least → IsChosen kind col step (values_above kind ds) c
chosen_plain kind col step ds s c is plain (place, (at, first)) least =
    let vs = values_above kind ds in
    let count : length ds ≡ length vs = sym (length-map ds (value_above kind)) in
    let made = taken_plain kind col step vs (value_above kind s.least) s.most place c.size is.least_is (is.most ∙ ap greatest_number is.same) plain (subst (λ (n : ℕ). IsFirstLeast (λ m. m) (closed_sizes kind n (value_above kind s.least) s.most None) place c.size) count first) in
    chosen_is kind col step vs c place made at (least ∙ is.least_is) (subst (λ (z : ℤ). InRange kind z) (sym least) (above_in_range kind s.least is.least_fits))

-- the chosen form is what is written
pub form_is : (kind : PixelType) (col step : ℕ) (values : List ℤ) (c : Chosen) (form : WrittenForm) → IsChosen kind col step values c → named c.form ≡ form → written_form_bytes kind col step values form ≡ block_bytes kind col step values
unfolding block_bytes
form_is kind col step values c form is e = ap (written_form_bytes kind col step values) (sym e ∙ is.form)

pub form_len : (kind : PixelType) (col step : ℕ) (values : List ℤ) (c : Chosen) (form : WrittenForm) (n : ℕ) → IsChosen kind col step values c → named c.form ≡ form → n ≡ c.size → n ≡ length (written_form_bytes kind col step values form)
form_len kind col step values c form n is e room = room ∙ sym is.size ∙ ap length (sym (form_is kind col step values c form is e))

pub form_may : (kind : PixelType) (col step : ℕ) (values : List ℤ) (c : Chosen) (form : WrittenForm) → IsChosen kind col step values c → named c.form ≡ form → May step values form
form_may kind col step values c form is e = subst (May step values) e is.may

simple_few : (step : ℕ) (values : List ℤ) → May step values chosen_block.simple → greatest_number (quantised_values step values) < 2 ^ 30
simple_few step values h = ltb-true (greatest_number (quantised_values step values)) (2 ^ 30) (right (not (is_flat step values)) (is_stuffable step values) h)

table_may : (step : ℕ) (values : List ℤ) → May step values chosen_block.table → May step values chosen_block.simple
table_may step values h =
    let d = nat_le (distinct_above_0 (quantised_values step values)) 254 in
    both (not (is_flat step values)) (is_stuffable step values) (left (not (is_flat step values)) (is_stuffable step values && d) h) (left (is_stuffable step values) d (right (not (is_flat step values)) (is_stuffable step values && d) h))
  where
    both : (a b : Bool) → a ≡ true → b ≡ true → (a && b) ≡ true
    both true b e f = f
    both false b e f = absurd (cc)

-- the numbers of steps go into a list, where the form has one
pub simple_listable : (kind : PixelType) (step : ℕ) (ds : List ℕ) (s : Spread) → length ds ≤ 256 → IsSpread kind step ds s → May step (values_above kind ds) chosen_block.simple → AreListable step s.least s.rule ds
simple_listable kind step ds s few is may =
    let most = is.most ∙ ap greatest_number is.same in
    let low = simple_few step (values_above kind ds) may in
    listable kind step ds s few is (omega (arith, most, low))

pub tabled_listable : (kind : PixelType) (step : ℕ) (ds : List ℕ) (s : Spread) → length ds ≤ 256 → IsSpread kind step ds s → May step (values_above kind ds) chosen_block.table → AreListable step s.least s.rule ds
tabled_listable kind step ds s few is may = simple_listable kind step ds s few is (table_may step (values_above kind ds) may)

-- the table form has a size
pub has_table : (kind : PixelType) (step : ℕ) (ds : List ℕ) (s : Spread) → IsSpread kind step ds s → May step (values_above kind ds) chosen_block.table
    → table_size (map (steps_above step s.least) ds) ≡ Some (length (table_bytes (map (steps_above step s.least) ds)))
has_table kind step ds s is may =
    let values = values_above kind ds in
    let qs = quantised_values step values in
    let d = nat_le (distinct_above_0 qs) 254 in
    let some : 0 < distinct_above_0 qs = distinct_some qs (some_above_0 (greatest_number qs) (left (not (is_flat step values)) (is_stuffable step values && d) may)) in
    let few : distinct_above_0 qs ≤ 254 = leb-true (distinct_above_0 qs) 254 (right (is_stuffable step values) d (right (not (is_flat step values)) (is_stuffable step values && d) may)) in
    subst (λ (us : List ℕ). table_size us ≡ Some (length (table_bytes us))) (sym is.same) (table_size_some qs some few)

-- a table is chosen where it may be
pub may_table : (kind : PixelType) (col step : ℕ) (values : List ℤ) → chosen_form kind col step values ≡ chosen_block.table → May step values chosen_block.table
may_table kind col step values e = subst (May step values) e (chosen_may kind col step values)

pub table_block : (kind : PixelType) (col step : ℕ) (values : List ℤ) → chosen_form kind col step values ≡ chosen_block.table → written_form_bytes kind col step values chosen_block.table ≡ block_bytes kind col step values
unfolding block_bytes
table_block kind col step values e = ap (written_form_bytes kind col step values) (sym e)
