use Rattle.std.proofs.Common.{rules}
use Rattle.bundle_index.specs.Entry.{entry_bytes}
use Rattle.bundle_store.proofs.spelling.spell_entry.Goals as goal

pub returns : goal.returns
unfolding entry_bytes
returns c = search rules
