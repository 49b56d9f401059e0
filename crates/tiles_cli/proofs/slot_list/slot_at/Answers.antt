use Rattle.std.proofs.Common.{◌+◌, ◌<◌, List, ℕ, length, take, drop, refl, Some, ap, subst, arith, length-drop}
use Rattle.tiles_cli.specs.SlotList.{IsLine}
use Rattle.tiles_cli.specs.inside.Fields.{IsLineLength}
use Rattle.tiles_cli.proofs.Fields.{named_in, rest_is}
use Rattle.tiles_cli.proofs.Listing.{later_drop}
use Rattle.tiles_cli.proofs.slot_list.slot_at.Goals as goal

pub returns-in-Ok-Some-clause-ok : goal.returns-in-Ok-Some-clause-ok
returns-in-Ok-Some-clause-ok c =
    let text = c.args.text.now in
    let at = c.args.at in
    let n = c.in-Some.len in
    let is = subst (λ (l : List ℕ). IsLineLength l (Some n)) (rest_is at text) c.in-Some.ensures in
    let less : at + n < length text = omega (arith, is.0, length-drop at text) in
    record {
      line = take n (drop at text);
      within = omega (arith, less);
      later = omega arith;
      is = subst (λ (rest : List ℕ). IsLine (drop at text) (take n (drop at text)) rest) (later_drop text at n (at + n + 1) less refl) is.1;
      names = named_in _ _ _ c.in-Ok-Some.slot (ap (take n) (rest_is at text)) c.in-Ok-Some.field-0-is c.in-Ok-Some.ensures;
    }
