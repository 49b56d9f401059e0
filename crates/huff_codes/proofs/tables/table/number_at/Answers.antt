use Rattle.std.proofs.Common.{rules, ◌≡◌, ◌∙◌, arith, FitsSigned, to_z, of_z, w32, w64}
use Rattle.std.proofs.lemmas.Int.{ints}
use Rattle.huff_codes.proofs.tables.table.number_at.Goals as goal

pub returns : goal.returns
returns c =
    let x = c.int_of.result in
    let fits : FitsSigned w32 x = search rules in
    let cast : to_z w64 (of_z w64 c.from.result) ≡ x = omega (arith, ints, c.from.ensures, fits) in
    (omega arith, (cast ∙ c.int_of.ensures, (omega (arith, ints, cast, fits), omega (arith, ints, cast, fits))))
