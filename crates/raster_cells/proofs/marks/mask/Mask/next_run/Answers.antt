use Rattle.std.proofs.Common.{◌≡◌, ◌∙◌, ℕ, Bool, List, ap, sym, length, get_or, false, arith}
use Rattle.std.specs.Prelude.{count_by}
use Rattle.raster_cells.specs.inside.MaskView.{seen_mask}
use Rattle.raster_cells.specs.Masks.{mask_bit}
use Rattle.raster_cells.proofs.MaskBits.{count_is, size_is, bit_is}
use Rattle.raster_cells.proofs.MaskCounts.{all_set}
use Rattle.raster_cells.proofs.marks.mask.Mask.next_run.Goals as goal

pub returns-then-self-clause-runs : goal.returns-then-self-clause-runs
returns-then-self-clause-runs c =
    let ms = seen_mask c.self.inside in
    let full : count_by (λ m. m) ms ≡ length ms = sym c.self.invariant.counted ∙ c.if-self.true ∙ sym (size_is c.self.inside) in
    record {
      first = omega arith;
      second = c.requires.order;
      within = c.requires.within;
      off = λ k low high. absurd (let no : ⊥ = omega arith in no);
      on = λ k low high. ap (λ (xs : List Bool). get_or xs k false) (sym c.self.view_is) ∙ all_set ms k full (omega (arith, c.requires.within, count_is c.self.inside _ c.self.view_is, size_is c.self.inside));
    }

pub returns-then-self-clause-begins : goal.returns-then-self-clause-begins
returns-then-self-clause-begins c less =
    let ms = seen_mask c.self.inside in
    let full : count_by (λ m. m) ms ≡ length ms = sym c.self.invariant.counted ∙ c.if-self.true ∙ sym (size_is c.self.inside) in
    ap (λ (xs : List Bool). get_or xs c.args.at false) (sym c.self.view_is) ∙ all_set ms c.args.at full (omega (arith, less, c.requires.within, count_is c.self.inside _ c.self.view_is, size_is c.self.inside))

pub run_after-requires-clause-few : goal.run_after-requires-clause-few
run_after-requires-clause-few c = omega (arith, count_is c.self.inside _ c.self.view_is, c.self.invariant.few, c.requires.within)

pub run_after-requires-clause-within : goal.run_after-requires-clause-within
run_after-requires-clause-within c = omega (arith, count_is c.self.inside _ c.self.view_is, c.self.invariant.size, c.requires.within, ap length c.deref.ensures.value)

marked : (c : goal.After-run_after) (k : ℕ) → get_or c.args.self.now k false ≡ mask_bit c.deref.result.now k
marked c k = ap (λ (xs : List Bool). get_or xs k false) (sym c.self.view_is) ∙ sym (bit_is c.self.inside c.self.invariant k) ∙ ap (λ xs. mask_bit xs k) (sym c.deref.ensures.value)

pub returns-clause-runs : goal.returns-clause-runs
returns-clause-runs c = record {
  first = c.run_after.ensures.first;
  second = c.run_after.ensures.second;
  within = omega (arith, c.run_after.ensures.within, c.requires.within);
  off = λ k low high. marked c k ∙ c.run_after.ensures.off k low high;
  on = λ k low high. marked c k ∙ c.run_after.ensures.on k low high;
}

pub returns-clause-begins : goal.returns-clause-begins
returns-clause-begins c less = marked c c.run_after.result.start ∙ c.run_after.ensures.begins less

pub returns-clause-ends : goal.returns-clause-ends
returns-clause-ends c less = marked c c.run_after.result.end ∙ c.run_after.ensures.ends less
