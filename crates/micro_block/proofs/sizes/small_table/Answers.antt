use Rattle.std.proofs.Common.{◌-◌, ◌<◌, ◌^◌, ℕ, map, length, sym, arith, rules, inl}
use Rattle.std.proofs.lemmas.List.{length-map}
use Rattle.std.proofs.lemmas.List.Elements.{All-map, All-weaker}
use lib.Count.{ones}
use Rattle.bit_stuff.proofs.Digits.{width_of-le}
use Rattle.micro_block.specs.inside.Stepping.{steps_above}
use Rattle.micro_block.proofs.FarApart.{table_short_by}
use Rattle.micro_block.proofs.RemainderSets.{remainders_exact}
use Rattle.micro_block.proofs.sizes.small_table.Goals as goal

pub overflow_sub-bits : goal.overflow_sub-bits
overflow_sub-bits c =
    let f : ℕ → ℕ = steps_above c.args.step c.args.least in
    let qs = map f c.args.distances.now in
    let bits = c.in_ok-bits.bits in
    let fits : bits < 2 ^ 64 = search rules in
    let same = remainders_exact bits qs fits (All-map (λ q. q < 64) f c.args.distances.now c.requires.small) c.in_ok-bits.ensures.set in
    omega (arith, same)

pub known_len-requires-clause-width : goal.known_len-requires-clause-width
known_len-requires-clause-width c =
    let f : ℕ → ℕ = steps_above c.args.step c.args.least in
    let qs = map f c.args.distances.now in
    let le = width_of-le 31 qs (All-weaker (λ q. q < 64) (λ q. q < 2 ^ 31) (λ q lt. omega (arith, lt)) qs (All-map (λ q. q < 64) f c.args.distances.now c.requires.small)) in
    omega (arith, le, c.requires.width)

pub returns-clause-value : goal.returns-clause-value
returns-clause-value c =
    let f : ℕ → ℕ = steps_above c.args.step c.args.least in
    let qs = map f c.args.distances.now in
    let bits = c.in_ok-bits.bits in
    let fits : bits < 2 ^ 64 = search rules in
    let same = remainders_exact bits qs fits (All-map (λ q. q < 64) f c.args.distances.now c.requires.small) c.in_ok-bits.ensures.set in
    inl (c.known_len.ensures.value qs (length-map c.args.distances.now f) (sym c.requires.width) (omega (arith, same)))

pub returns-clause-short : goal.returns-clause-short
returns-clause-short c =
    let f : ℕ → ℕ = steps_above c.args.step c.args.least in
    let qs = map f c.args.distances.now in
    let le = width_of-le 31 qs (All-weaker (λ q. q < 64) (λ q. q < 2 ^ 31) (λ q lt. omega (arith, lt)) qs (All-map (λ q. q < 64) f c.args.distances.now c.requires.small)) in
    table_short_by (length c.args.distances.now) c.args.width (ones c.in_ok-bits.bits - 1) c.known_len.result c.requires.listable.count (omega (arith, le, c.requires.width)) c.known_len.ensures.size
