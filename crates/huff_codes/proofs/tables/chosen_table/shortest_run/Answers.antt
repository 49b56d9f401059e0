use Rattle.std.proofs.Common.{◌+◌, ◌-◌, ◌<◌, sym, arith, subst}
use Rattle.huff_codes.specs.declared.tables.table.SymbolRange.{SymbolRange}
use Rattle.huff_codes.proofs.ChosenRuns.{IsBestBelow, gap_holds, gap_least, best_begun, best_new, best_kept, best_run}
use Rattle.huff_codes.proofs.tables.chosen_table.shortest_run.Goals.{then-count-best, else-count-best}
use Rattle.huff_codes.proofs.tables.chosen_table.shortest_run.Goals as goal

pub loop-symbol-init : goal.loop-symbol-init
loop-symbol-init c =
    let gap = c.first_gap-gap in
    record {
      low = gap.ensures.low;
      gap = gap.ensures.gap;
      best = best_begun c.args.lengths.now gap.result gap.ensures.low gap.ensures.gap;
    }

pub loop-symbol-preserved : goal.loop-symbol-preserved
loop-symbol-preserved c =
    let lengths = c.args.lengths.now in
    let n = c.loop-symbol.symbol + 1 in
    let gap = c.next_gap-gap in
    let lt : n < 256 = omega arith in
    let holds = gap_holds lengths n gap.result lt gap.ensures.low gap.ensures.gap in
    let least = gap_least lengths n gap.result gap.ensures.low gap.ensures.gap in
    record {
      low = gap.ensures.low;
      gap = gap.ensures.gap;
      best = elim c.if-count-best.branch [
        | then-count-best w ↦
            let some : 0 < 256 - gap.result = (let low = gap.ensures.low in omega (arith, low)) in
            subst (λ (b : SymbolRange). IsBestBelow lengths b (n + 1)) (sym w.best-is) (best_new lengths c.loop-symbol.best n (256 - gap.result) c.loop-symbol.invariant.best w.if-count-best.true some holds least)
        | else-count-best w ↦
            subst (λ (b : SymbolRange). IsBestBelow lengths b (n + 1)) (sym w.best-is) (best_kept lengths c.loop-symbol.best n (256 - gap.result) c.loop-symbol.invariant.best w.if-count-best.false least)
      ];
    }

pub returns : goal.returns
returns c =
    let h = c.loop-symbol.invariant.best in
    record {
      run = best_run c.args.lengths.now c.loop-symbol.best (c.loop-symbol.symbol + 1) (omega arith) h;
      some = h.some;
      within = h.within;
    }
