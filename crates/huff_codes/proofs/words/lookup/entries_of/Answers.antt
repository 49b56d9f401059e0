use Rattle.std.proofs.Common.{ℕ, ◌*◌, ◌%◌, ◌^◌, ◌∙◌, get_or, subst, arith}
use Rattle.std.proofs.Math.Pow.{mod-mod-pow}
use Rattle.std.proofs.lemmas.List.{length-set}
use Rattle.std.proofs.lemmas.List.Elements.{All-set}
use Rattle.huff_codes.specs.inside.Lookup.{IsEntry, IsShort, no_entry}
use Rattle.huff_codes.proofs.Lookups.{entries_set}
use Rattle.huff_codes.proofs.words.lookup.entries_of.Goals as goal

pub loop-k-preserved : goal.loop-k-preserved
loop-k-preserved c =
    let inv = c.loop-k.invariant in
    let k = c.loop-k.k in
    let singles = c.single_symbols-singles.ensures in
    let codes = c.args.codes.now in
    let one = get_or c.single_symbols-singles.result k no_entry in
    let up = k * 2 ^ one.length in
    let place = up % 2 ^ 64 % 2 ^ 11 in
    let two = get_or c.single_symbols-singles.result place no_entry in
    let second : IsEntry codes (up % 2 ^ 11) two = subst (λ (n : ℕ). IsEntry codes n two) (mod-mod-pow up 53 11) (singles.are place (omega (arith, singles.room))) in
    let is = c.join_entries.ensures.is codes k (singles.are k (omega (arith, singles.room))) second in record {
      room = length-set c.loop-k.entries k c.join_entries.result ∙ inv.room;
      short = All-set IsShort c.loop-k.entries k c.join_entries.result c.join_entries.ensures.short inv.short;
      are = entries_set codes c.loop-k.entries k c.join_entries.result inv.are is;
    }
