use Rattle.std.proofs.Common.{◌≡◌, ◌-◌, ◌*◌, List, ℕ, length, take, drop, ap, ◌∙◌, arith}
use Rattle.bundle_index.specs.Entry.{entry_of}
use Rattle.bundle_index.specs.Numbers.{u64_at}
use Rattle.bundle_store.specs.Kept.{FrontBytes}
use Rattle.bundle_store.proofs.Counting.{part_word}
use Rattle.bundle_store.proofs.Kept.{kept_entry}
use Rattle.bundle_store.proofs.front.Front.entry_of_number.Goals as goal

pub returns-clause-value : goal.returns-clause-value
unfolding u64_at
returns-clause-value c = λ bundle keeps.
    let at = 8 * c.args.number in
    let words = c.self.inside.index.items in
    let is : words ≡ c.args.self.now.index = ap (λ (f : FrontBytes). f.index) c.self.view_is in
    let front : c.read_u64.result ≡ u64_at (take (length words - at) (drop at words)) 0 = c.read_u64.ensures ∙ ap (λ (l : List ℕ). u64_at (take (length l - at) (drop at l)) 0) c.deref.ensures.value in
    let word : c.read_u64.result ≡ u64_at c.args.self.now.index at = front ∙ part_word words at (length words - at) (omega (arith, c.self.invariant.1, c.requires)) ∙ ap (λ (l : List ℕ). u64_at l at) is in
    c.unpack.ensures.value ∙ ap entry_of word ∙ kept_entry bundle c.args.self.now c.args.number keeps c.requires
