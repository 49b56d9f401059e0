use Rattle.std.proofs.Common.{sym, subst, arith}
use Rattle.std.proofs.lemmas.List.{get_or-replicate}
use Rattle.huff_codes.specs.inside.Lookup.{IsEntry, IsShort, no_entry}
use Rattle.huff_codes.proofs.Lookups.{entry_none}
use Rattle.huff_codes.proofs.words.lookup.no_entries.Goals as goal

pub returns-clause-short : goal.returns-clause-short
returns-clause-short c k d lt =
    subst IsShort (sym (get_or-replicate 2048 k no_entry d lt)) (record { few = omega arith; low = omega arith; each = omega arith })

pub returns-clause-are : goal.returns-clause-are
returns-clause-are c codes k lt =
    subst (IsEntry codes k) (sym (get_or-replicate 2048 k no_entry no_entry lt)) (entry_none codes k)
