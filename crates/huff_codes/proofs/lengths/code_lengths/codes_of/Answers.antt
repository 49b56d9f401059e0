use Rattle.std.proofs.Common.{ap, ◌∙◌, arith}
use Rattle.huff_codes.specs.Codes.{canonical_codes}
use Rattle.huff_codes.proofs.Made.{made_codes, made_held}
use Rattle.huff_codes.proofs.lengths.code_lengths.codes_of.Goals as goal

pub returns-clause-laid : goal.returns-clause-laid
returns-clause-laid c =
    (made_held c.lengths.inside.lengths c.assign_codes.result c.lengths.invariant c.assign_codes.ensures.room
    (λ t lt. c.assign_codes.ensures.codes t (omega (arith, c.lengths.invariant.size)))).laid

pub returns-clause-codes : goal.returns-clause-codes
returns-clause-codes c =
    made_codes c.lengths.inside.lengths c.assign_codes.result c.assign_codes.ensures.room (λ t lt. c.assign_codes.ensures.codes t (omega (arith, c.lengths.invariant.size)))
    ∙ ap canonical_codes c.lengths.view_is
