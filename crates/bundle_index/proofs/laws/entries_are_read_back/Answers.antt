use Rattle.std.proofs.Common.{refl, length}
use Rattle.bundle_index.proofs.Numbers.{entry_back, entry_read}
use Rattle.bundle_index.proofs.laws.entries_are_read_back.Goals as goal

pub returns-clause-word : goal.returns-clause-word
returns-clause-word c = λ e fits. entry_back e fits

pub returns-clause-bytes : goal.returns-clause-bytes
returns-clause-bytes c = λ front rest e fits. entry_read front rest e (length front) refl fits
