use Rattle.std.proofs.Common.{◌≡◌, ℕ, ◌+◌, ◌-◌, ◌*◌, ◌/◌, ◌<◌, Bool, List, ◌++◌, length, get_or, take, ap, ◌∙◌, subst, arith}
use Rattle.std.proofs.lemmas.List.{append_assoc, take_all}
use Rattle.huff_codes.specs.Words.{joined_codes}
use Rattle.huff_codes.specs.inside.Begun.{numbered_codes}
use Rattle.huff_codes.specs.inside.Filling.{IsLoose, no_number}
use Rattle.huff_codes.proofs.Pushing.{joined_one, numbered_at}
use Rattle.huff_codes.proofs.words.word_pairs.push_last.Goals as goal

pub returns : goal.returns
returns c = record {
  pending = λ bits h.
      let codes = numbered_codes c.args.numbers.now in
      let symbols = c.args.symbols.now in
      let k = 2 * (length symbols / 2) in
      let s = c.from.result in
      let n = get_or c.args.numbers.now s no_number in
      let byte = c.type_inv.symbols k in
      let odd = c.if-symbols-eq0.false in
      let at : length symbols - 1 ≡ k = omega (arith, odd) in
      let lt : k < length symbols = omega (arith, odd) in
      let is : s ≡ get_or symbols k 0 = c.from.ensures ∙ ap (λ m. get_or symbols m 0) at in
      let numbered = numbered_at codes c.args.numbers.now symbols k s no_number c.requires.numbers.each c.requires.numbers.size is (omega (arith, is, byte)) in
      let all : take (k + 1) symbols ≡ symbols = take_all (k + 1) symbols (omega (arith, odd)) in
      subst (λ (bs : List Bool). IsLoose bs c.push.new.out c.push.result.held c.push.result.count c.push.result.at)
      (append_assoc bits (joined_codes codes (take k symbols)) _ ∙ ap (λ (bs : List Bool). bits ++ bs) (joined_one codes symbols k n lt numbered ∙ ap (joined_codes codes) all))
      (c.push.ensures.pending (bits ++ joined_codes codes (take k symbols)) h);
}

pub returns-then-symbols-eq0 : goal.returns-then-symbols-eq0
returns-then-symbols-eq0 c = record {
  pending = λ bits h.
      let codes = numbered_codes c.args.numbers.now in
      let symbols = c.args.symbols.now in
      let even = c.if-symbols-eq0.true in
      let all = take_all (2 * (length symbols / 2)) symbols (omega (arith, even)) in
      subst (λ (xs : List ℕ). IsLoose (bits ++ joined_codes codes xs) c.args.out.now c.args.pending.held c.args.pending.count c.args.pending.at) all h;
}
