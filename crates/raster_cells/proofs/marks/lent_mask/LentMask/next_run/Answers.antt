use Rattle.std.proofs.Common.{◌≡◌, ◌<◌, ◌∙◌, ℕ, Bool, List, ap, sym, length, get_or, true, false, arith}
use Rattle.std.proofs.lemmas.List.{get_or-replicate}
use Rattle.raster_cells.specs.Masks.{mask_bit}
use Rattle.raster_cells.proofs.LentMasks.{all_with, length-marks_with, some_with}
use Rattle.raster_cells.proofs.MaskBits.{get_or-marks_in}
use Rattle.raster_cells.proofs.marks.lent_mask.LentMask.next_run.Goals as goal

pub run_after-requires-clause-few : goal.run_after-requires-clause-few
run_after-requires-clause-few c =
    let a = c.self.inside in
    omega (arith, c.requires.within, ap length c.self.view_is, length-marks_with a.count a.valid a.bytes.now, c.self.invariant.few)

pub run_after-requires-clause-within : goal.run_after-requires-clause-within
run_after-requires-clause-within c =
    let a = c.self.inside in
    omega (arith, c.requires.within, ap length c.self.view_is, length-marks_with a.count a.valid a.bytes.now, (c.self.invariant.bits c.if-self.false).size)

pub returns-then-self-clause-runs : goal.returns-then-self-clause-runs
returns-then-self-clause-runs c =
    let a = c.self.inside in
    record {
      first = omega arith;
      second = c.requires.order;
      within = c.requires.within;
      off = λ k low high. absurd (let no : ⊥ = omega arith in no);
      on = λ k low high.
          ap (λ (xs : List Bool). get_or xs k false) (sym c.self.view_is ∙ all_with a.count a.valid a.bytes.now c.if-self.true)
          ∙ get_or-replicate a.count k true false (omega (arith, high, c.requires.within, ap length c.self.view_is, length-marks_with a.count a.valid a.bytes.now));
    }

pub returns-then-self-clause-begins : goal.returns-then-self-clause-begins
returns-then-self-clause-begins c less =
    let a = c.self.inside in
    ap (λ (xs : List Bool). get_or xs c.args.at false) (sym c.self.view_is ∙ all_with a.count a.valid a.bytes.now c.if-self.true)
    ∙ get_or-replicate a.count c.args.at true false (omega (arith, less, c.requires.within, ap length c.self.view_is, length-marks_with a.count a.valid a.bytes.now))

marked : (c : goal.After-run_after) (k : ℕ) → k < length c.args.self.now → get_or c.args.self.now k false ≡ mask_bit c.self.inside.bytes.now k
marked c k less =
    let a = c.self.inside in
    ap (λ (xs : List Bool). get_or xs k false) (sym c.self.view_is ∙ some_with a.count a.valid a.bytes.now c.if-self.false)
    ∙ get_or-marks_in a.count a.bytes.now k (omega (arith, less, ap length c.self.view_is, length-marks_with a.count a.valid a.bytes.now))

pub returns-clause-runs : goal.returns-clause-runs
returns-clause-runs c = record {
  first = c.run_after.ensures.first;
  second = c.run_after.ensures.second;
  within = omega (arith, c.run_after.ensures.within, c.requires.within);
  off = λ k low high. marked c k (omega (arith, high, c.run_after.ensures.second, c.run_after.ensures.within, c.requires.within)) ∙ c.run_after.ensures.off k low high;
  on = λ k low high. marked c k (omega (arith, high, c.run_after.ensures.within, c.requires.within)) ∙ c.run_after.ensures.on k low high;
}

pub returns-clause-begins : goal.returns-clause-begins
returns-clause-begins c less =
    marked c c.run_after.result.start (omega (arith, less, c.requires.within)) ∙ c.run_after.ensures.begins less

pub returns-clause-ends : goal.returns-clause-ends
returns-clause-ends c less =
    marked c c.run_after.result.end (omega (arith, less, c.requires.within)) ∙ c.run_after.ensures.ends less
