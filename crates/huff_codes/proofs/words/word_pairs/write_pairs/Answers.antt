use Rattle.std.proofs.Common.{◌≡◌, ◌+◌, ◌*◌, ◌/◌, ◌<◌, Bool, List, ◌++◌, length, get_or, take, refl, ap, ◌∙◌, sym, subst, arith}
use Rattle.std.proofs.lemmas.List.{append_assoc, append-nil}
use Rattle.huff_codes.specs.Words.{joined_codes}
use Rattle.huff_codes.specs.inside.Begun.{numbered_codes}
use Rattle.huff_codes.specs.inside.Filling.{IsLoose, no_number}
use Rattle.huff_codes.proofs.Filling.{joined_within}
use Rattle.huff_codes.proofs.Pushing.{joined_two, numbered_at, one_within, two_long}
use Rattle.huff_codes.proofs.Reading.{joined_codes-nil}
use Rattle.huff_codes.proofs.words.word_pairs.write_pairs.Goals as goal

pub loop-k-init : goal.loop-k-init
loop-k-init c =
    let codes = numbered_codes c.args.numbers.now in
    record {
      room = refl;
      bits = (let none = ap length (joined_codes-nil codes) in omega (arith, none));
      pending = λ bits h.
          subst (λ (bs : List Bool). IsLoose bs c.args.out.now c.args.pending.held c.args.pending.count c.args.pending.at)
          (sym (ap (λ (bs : List Bool). bits ++ bs) (joined_codes-nil codes) ∙ append-nil bits)) h;
    }

pub push_pair-current-requires-clause-room : goal.push_pair-current-requires-clause-room
push_pair-current-requires-clause-room c =
    let codes = numbered_codes c.args.numbers.now in
    let symbols = c.args.symbols.now in
    let k = 2 * c.loop-k.k in
    let byte = c.type_inv.symbols k in
    let test = c.loop-k-test.true in
    let lt : k < length symbols = omega (arith, test) in
    let numbered = numbered_at codes c.args.numbers.now symbols k c.from.result no_number c.requires.numbers.each c.requires.numbers.size c.from.ensures (omega (arith, c.from.ensures, byte)) in
    let within = one_within codes symbols k (get_or c.args.numbers.now c.from.result no_number) lt numbered in
    omega (arith, within, c.loop-k.invariant.bits, c.requires.room, c.loop-k.invariant.room)

pub loop-k-preserved : goal.loop-k-preserved
loop-k-preserved c =
    let numbers = c.args.numbers.now in
    let codes = numbered_codes numbers in
    let symbols = c.args.symbols.now in
    let k = 2 * c.loop-k.k in
    let byte = c.type_inv.symbols k in
    let next = c.type_inv.symbols (k + 1) in
    let test = c.loop-k-test.true in
    let lt : k + 1 < length symbols = omega (arith, test) in
    let one = numbered_at codes numbers symbols k c.from.result no_number c.requires.numbers.each c.requires.numbers.size c.from.ensures (omega (arith, c.from.ensures, byte)) in
    let two = numbered_at codes numbers symbols (k + 1) c.from-in-loop-k.result no_number c.requires.numbers.each c.requires.numbers.size c.from-in-loop-k.ensures
    (omega (arith, c.from-in-loop-k.ensures, next)) in
    let a = get_or numbers c.from.result no_number in
    let b = get_or numbers c.from-in-loop-k.result no_number in
    let on : k + 2 ≡ 2 * (c.loop-k.k + 1) = omega arith in
    let p = c.push_pair-current in
    record {
      room = p.auto.out ∙ c.loop-k.invariant.room;
      bits =
          let long = two_long codes symbols k a b lt one two ∙ ap (λ n. length (joined_codes codes (take n symbols))) on in
          omega (arith, p.ensures.bits, c.loop-k.invariant.bits, long);
      pending = λ bits h.
          subst (λ (bs : List Bool). IsLoose bs p.new.out p.result.held p.result.count p.result.at)
          (append_assoc bits (joined_codes codes (take k symbols)) _ ∙ ap (λ (bs : List Bool). bits ++ bs) (joined_two codes symbols k a b lt one two ∙ ap (λ n. joined_codes codes (take n symbols)) on))
          (p.ensures.pending (bits ++ joined_codes codes (take k symbols)) (c.loop-k.invariant.pending bits h));
    }

pub push_last-requires-clause-room : goal.push_last-requires-clause-room
push_last-requires-clause-room c =
    let within = joined_within (numbered_codes c.args.numbers.now) c.args.symbols.now (2 * c.loop-k.k) in
    omega (arith, within, c.loop-k.invariant.bits, c.requires.room, c.loop-k.invariant.room)

pub returns : goal.returns
returns c = record {
  pending = λ bits h.
      let codes = numbered_codes c.args.numbers.now in
      let k : c.loop-k.k ≡ length c.args.symbols.now / 2 = omega arith in
      c.push_last.ensures.pending bits
      (subst (λ n. IsLoose (bits ++ joined_codes codes (take (2 * n) c.args.symbols.now)) c.loop-k.out c.loop-k.current.held c.loop-k.current.count c.loop-k.current.at) k (c.loop-k.invariant.pending bits h));
}
