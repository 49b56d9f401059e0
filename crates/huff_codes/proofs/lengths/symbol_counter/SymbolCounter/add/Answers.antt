use Rattle.std.proofs.Common.{◌≡◌, ℕ, ◌+◌, ◌-◌, ◌*◌, ◌/◌, ◌≤◌, List, length, take, drop, sum, ap, ◌∙◌, subst, arith}
use Rattle.std.proofs.lemmas.List.{length-drop, length-take-le, take_all}
use Rattle.huff_codes.specs.inside.Tallied.{AreAdded, sums_of}
use Rattle.huff_codes.proofs.Tallies.{counted_piece, sum_piece, tables_few}
use Rattle.huff_codes.proofs.lengths.symbol_counter.SymbolCounter.add.Goals as goal

quarter : (symbols : List ℕ) → length (take (length symbols / 4) symbols) ≤ length symbols
quarter symbols = let size = length-take-le (length symbols / 4) symbols (omega arith) in omega (arith, size)

pub add_four-requires-clause-first_room : goal.add_four-requires-clause-first_room
add_four-requires-clause-first_room c =
    let few = tables_few c.self.inside.four.first c.self.inside.four.second c.self.inside.four.third c.self.inside.four.fourth c.args.self.now (length c.args.symbols.now) c.self.invariant c.self.view_is c.requires.few in
    record { room = c.self.invariant.one; few = omega (arith, few, quarter c.args.symbols.now) }

pub add_four-requires-clause-second_room : goal.add_four-requires-clause-second_room
add_four-requires-clause-second_room c =
    let few = tables_few c.self.inside.four.first c.self.inside.four.second c.self.inside.four.third c.self.inside.four.fourth c.args.self.now (length c.args.symbols.now) c.self.invariant c.self.view_is c.requires.few in
    record { room = c.self.invariant.two; few = omega (arith, few, quarter c.args.symbols.now) }

pub add_four-requires-clause-third_room : goal.add_four-requires-clause-third_room
add_four-requires-clause-third_room c =
    let few = tables_few c.self.inside.four.first c.self.inside.four.second c.self.inside.four.third c.self.inside.four.fourth c.args.self.now (length c.args.symbols.now) c.self.invariant c.self.view_is c.requires.few in
    record { room = c.self.invariant.three; few = omega (arith, few, quarter c.args.symbols.now) }

pub add_four-requires-clause-fourth_room : goal.add_four-requires-clause-fourth_room
add_four-requires-clause-fourth_room c =
    let few = tables_few c.self.inside.four.first c.self.inside.four.second c.self.inside.four.third c.self.inside.four.fourth c.args.self.now (length c.args.symbols.now) c.self.invariant c.self.view_is c.requires.few in
    record { room = c.self.invariant.four; few = omega (arith, few, quarter c.args.symbols.now) }

pub add_rest-requires : goal.add_rest-requires
add_rest-requires c =
    let symbols = c.args.symbols.now in
    let n = length symbols / 4 in
    let few = tables_few c.self.inside.four.first c.self.inside.four.second c.self.inside.four.third c.self.inside.four.fourth c.args.self.now (length c.args.symbols.now) c.self.invariant c.self.view_is c.requires.few in
    let size = length-take-le n symbols (omega arith) in
    let rest = length-drop (4 * n) symbols in
    let part = length-take-le (length symbols - 4 * n) (drop (4 * n) symbols) (omega (arith, rest)) in
    record { room = c.add_four.ensures.first.room; few = omega (arith, few, size, rest, part, c.add_four.ensures.first.total) }

-- the rest is counted behind the quarters
rest_added : (c : goal.After-add_rest) → AreAdded (drop (4 * (length c.args.symbols.now / 4)) c.args.symbols.now) c.add_four.new.counts.first c.add_rest.new.counts
rest_added c =
    let symbols = c.args.symbols.now in
    let n = length symbols / 4 in
    let rest = length-drop (4 * n) symbols in
    subst (λ (xs : List ℕ). AreAdded xs c.add_four.new.counts.first c.add_rest.new.counts) (take_all (length symbols - 4 * n) (drop (4 * n) symbols) (omega (arith, rest))) c.add_rest.ensures

total : (c : goal.After-add_rest) → sum (sums_of c.add_rest.new.counts c.add_four.new.counts.second c.add_four.new.counts.third c.add_four.new.counts.fourth) ≡ sum c.args.self.now + length c.args.symbols.now
total c =
    sum_piece c.args.symbols.now (length c.args.symbols.now / 4) c.self.inside.four.first c.self.inside.four.second c.self.inside.four.third c.self.inside.four.fourth c.add_four.new.counts.first c.add_four.new.counts.second c.add_four.new.counts.third c.add_four.new.counts.fourth c.add_rest.new.counts
    c.self.invariant c.add_four.ensures.first c.add_four.ensures.second c.add_four.ensures.third c.add_four.ensures.fourth (rest_added c)
    ∙ ap (λ (xs : List ℕ). sum xs + length c.args.symbols.now) c.self.view_is

pub invariant_of-self : goal.invariant_of-self
invariant_of-self c = record {
  one = c.add_rest.ensures.room;
  two = c.add_four.ensures.second.room;
  three = c.add_four.ensures.third.room;
  four = c.add_four.ensures.fourth.room;
  few = omega (arith, total c, c.requires.few);
}

pub returns-clause-counts : goal.returns-clause-counts
returns-clause-counts c = λ before is.
    counted_piece before c.args.symbols.now (length c.args.symbols.now / 4) c.self.inside.four.first c.self.inside.four.second c.self.inside.four.third c.self.inside.four.fourth c.add_four.new.counts.first c.add_four.new.counts.second c.add_four.new.counts.third c.add_four.new.counts.fourth c.add_rest.new.counts
    (c.self.view_is ∙ is) c.add_four.ensures.first c.add_four.ensures.second c.add_four.ensures.third c.add_four.ensures.fourth (rest_added c)

pub returns-clause-sum : goal.returns-clause-sum
returns-clause-sum c = total c
