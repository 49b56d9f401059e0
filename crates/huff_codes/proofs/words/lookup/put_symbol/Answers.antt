use Rattle.std.proofs.Common.{◌<◌, refl, ◌∙◌, arith}
use Rattle.std.proofs.lemmas.List.{length-set}
use Rattle.std.proofs.lemmas.List.Elements.{All-set}
use Rattle.huff_codes.specs.declared.words.lookup.Entry.{Entry}
use Rattle.huff_codes.specs.inside.Lookup.{IsShort}
use Rattle.huff_codes.proofs.Lookups.{entries_set, entry_single, from_within}
use Rattle.huff_codes.proofs.words.lookup.put_symbol.Goals as goal

pub bounds-entries-k : goal.bounds-entries-k
bounds-entries-k c = omega (arith, from_within c.args.code c.requires.laid (omega arith) (omega arith))

pub loop-k-preserved : goal.loop-k-preserved
loop-k-preserved c =
    let inv = c.loop-k.invariant in
    let k = c.loop-k.k in
    let some : 0 < c.args.code.length = omega arith in
    let e : Entry = record { first = c.args.symbol; second = 0; count = 1; length = c.args.code.length } in record {
      room = length-set c.loop-k.entries k e ∙ inv.room;
      short = All-set IsShort c.loop-k.entries k e (record { few = omega arith; low = omega arith; each = omega (arith, some) }) inv.short;
      are = λ codes is old. entries_set codes c.loop-k.entries k e (inv.are codes is old)
          (entry_single codes c.args.code c.args.symbol k e c.requires.laid some (omega arith) is refl refl refl (omega arith) (omega arith));
    }
