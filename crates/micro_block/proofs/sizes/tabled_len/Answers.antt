use Rattle.std.proofs.Common.{◌≡◌, ◌<◌, ◌≤◌, ℕ, List, map, length, sym, ap, subst, ◌∙◌, arith, inl, inr}
use Rattle.std.specs.Prelude.{None}
use Rattle.std.proofs.lemmas.List.{length-map}
use Rattle.raster_cells.specs.declared.kind.PixelType.{PixelType}
use Rattle.raster_cells.specs.Distance.{value_above}
use Rattle.bit_stuff.specs.Simple.{binary_digits, greatest_number}
use Rattle.bit_stuff.proofs.Digits.{digits_step}
use Rattle.lut_stuff.specs.Tables.{distinct_above_0, table_size}
use Rattle.lut_stuff.proofs.Tabled.{distinct_some}
use Rattle.micro_block.specs.declared.spreading.Spread.{Spread}
use Rattle.micro_block.specs.ChosenBlock.{quantised_values}
use Rattle.micro_block.specs.inside.Shorter.{IsLong}
use Rattle.micro_block.specs.inside.Sizes.{IsTabledLength}
use Rattle.micro_block.specs.inside.Stepping.{IsSpread, steps_above, values_above}
use Rattle.micro_block.proofs.Above.{listable, steps_below}
use Rattle.micro_block.proofs.SizeSteps.{exact_found, longer_found}
use Rattle.micro_block.proofs.sizes.tabled_len.Goals as goal

-- the greatest number of steps of the values
greatest : (kind : PixelType) (step : ℕ) (ds : List ℕ) (s : Spread) → IsSpread kind step ds s → s.most ≡ greatest_number (quantised_values step (values_above kind ds))
greatest kind step ds s is = is.most ∙ ap greatest_number is.same

-- more than the bound, by the digits of the greatest number
longer : (kind : PixelType) (step bound width : ℕ) (ds : List ℕ) (s : Spread) → IsSpread kind step ds s → 0 < s.most → width ≡ binary_digits s.most → bound < distinct_above_0 (map (steps_above step s.least) ds)
    → ((d : ℕ) → bound < d → d ≤ 254 → IsLong (length ds) width d) → IsTabledLength step (values_above kind ds) None
longer kind step bound width ds s is some digits more long =
    let vs = values_above kind ds in
    let most = greatest kind step ds s is in
    let count : length ds ≡ length vs = sym (length-map ds (value_above kind)) in
    longer_found vs step bound (omega (arith, most, some)) (subst (λ (qs : List ℕ). bound < distinct_above_0 qs) is.same more)
    (subst (λ (n : ℕ). (d : ℕ) → bound < d → d ≤ 254 → IsLong n (binary_digits (greatest_number (quantised_values step vs))) d) count
    (subst (λ (w : ℕ). (d : ℕ) → bound < d → d ≤ 254 → IsLong (length ds) w d) (digits ∙ ap binary_digits most) long))

pub small_table-requires-clause-listable : goal.small_table-requires-clause-listable
small_table-requires-clause-listable c = listable c.args.kind c.args.step c.args.distances.now c.args.spread c.requires.count c.requires.spread (omega (arith, c.if-most.false))

pub small_table-requires-clause-small : goal.small_table-requires-clause-small
small_table-requires-clause-small c = steps_below c.args.kind c.args.step 64 c.args.distances.now c.args.spread c.requires.spread c.if-most-lt64.true

pub returns-then-most-lt64-clause-value : goal.returns-then-most-lt64-clause-value
returns-then-most-lt64-clause-value c =
    let s = c.args.spread in
    let is = c.requires.spread in
    let kind = c.args.kind in
    let step = c.args.step in
    let ds = c.args.distances.now in
    let most = greatest kind step ds s is in
    elim c.small_table.ensures.value [
      | inl e ↦ exact_found (values_above kind ds) step c.small_table.result (omega (arith, most)) (omega (arith, most)) (e ∙ ap table_size is.same)
      | inr none ↦ subst (IsTabledLength step (values_above kind ds)) (sym none.0) (longer kind step c.most_entries-bound.result c.digit_count-width.result ds s is (omega arith) c.digit_count-width.ensures.value none.1 c.most_entries-bound.ensures.long)
    ]

pub has_more_steps-requires-clause-listable : goal.has_more_steps-requires-clause-listable
has_more_steps-requires-clause-listable c = listable c.args.kind c.args.step c.args.distances.now c.args.spread c.requires.count c.requires.spread (omega (arith, c.if-most.false))

pub table_of-requires : goal.table_of-requires
table_of-requires c = record { listable = listable c.args.kind c.args.step c.args.distances.now c.args.spread c.requires.count c.requires.spread (omega (arith, c.if-most.false)) }

pub most_entries-bound-requires-clause-width : goal.most_entries-bound-requires-clause-width
most_entries-bound-requires-clause-width c =
    let most = c.args.spread.most in
    let some : 0 < most = omega arith in
    let few = c.digit_count-width.ensures.least 30 (omega arith) in
    (let step = digits_step most some in omega (arith, step, c.digit_count-width.ensures.value), omega (arith, few))

pub returns-then-bound-eq0-clause-value : goal.returns-then-bound-eq0-clause-value
returns-then-bound-eq0-clause-value c =
    let s = c.args.spread in
    let is = c.requires.spread in
    let ds = c.args.distances.now in
    let most = is.most in
    let some : 0 < s.most = omega arith in
    let there = distinct_some (map (steps_above c.args.step s.least) ds) (omega (arith, most, some)) in
    longer c.args.kind c.args.step c.most_entries-bound.result c.digit_count-width.result ds s is some c.digit_count-width.ensures.value (omega (arith, there, c.if-bound-eq0.true)) c.most_entries-bound.ensures.long

pub returns-clause-value : goal.returns-clause-value
returns-clause-value c =
    let s = c.args.spread in
    let is = c.requires.spread in
    let ds = c.args.distances.now in
    let most = greatest c.args.kind c.args.step ds s is in
    exact_found (values_above c.args.kind ds) c.args.step c.table_of.result (omega (arith, most)) (omega (arith, most)) (c.table_of.ensures.value ∙ ap table_size is.same)

pub returns-then-has_more_steps-clause-value : goal.returns-then-has_more_steps-clause-value
returns-then-has_more_steps-clause-value c =
    let s = c.args.spread in
    longer c.args.kind c.args.step c.most_entries-bound.result c.digit_count-width.result c.args.distances.now s c.requires.spread (omega arith) c.digit_count-width.ensures.value (c.has_more_steps.ensures c.if-has_more_steps.true) c.most_entries-bound.ensures.long
