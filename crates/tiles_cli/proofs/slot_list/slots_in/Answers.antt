use Rattle.std.proofs.Common.{List, ℕ, take, sym, subst}
use Rattle.tiles_cli.specs.SlotList.{IsSlotList}
use Rattle.tiles_cli.proofs.Listing.{line_listed, wrong_listed}
use Rattle.tiles_cli.proofs.slot_list.slots_in.Goals as goal

pub returns-in-Err : goal.returns-in-Err
returns-in-Err c = wrong_listed c.args.text.now c.loop-at.at c.loop-at.slots.items c.in-Err.stop c.loop-at.invariant.within c.loop-at.invariant.listed c.in-Err.ensures.err

pub loop-at-preserved : goal.loop-at-preserved
loop-at-preserved c =
    let found = c.in-Ok.found in
    record {
      within = c.in-Ok.ensures.ok.within;
      listed = subst (λ (slots : List ℕ). IsSlotList (take found.behind c.args.text.now) slots) (sym c.in-Ok-push.ensures.items) (line_listed c.args.text.now c.loop-at.at c.loop-at.slots.items found c.loop-at.invariant.listed c.in-Ok.ensures.ok);
    }
