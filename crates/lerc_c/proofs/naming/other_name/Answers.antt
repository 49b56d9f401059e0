use Rattle.std.proofs.Common.{◌≡◌, [], ap, sym, arith, inl, inr, ⊎_elim}
use Rattle.std.proofs.lemmas.List.{get_or_past}
use Rattle.std.proofs.lemmas.Bool.{cases_eq}
use Rattle.lerc_c.specs.Names.{name_at, names}
use Rattle.lerc_c.proofs.naming.other_name.Goals as goal

pub returns-in-33-clause-name : goal.returns-in-33-clause-name
returns-in-33-clause-name c = ap name_at (sym c.in-33.is)

pub returns-in_default-clause-name : goal.returns-in_default-clause-name
returns-in_default-clause-name c = elim c.requires [
  | inl none ↦ ap name_at (sym none)
  | inr past ↦ ⊎_elim (λ (is : c.args.number ≡ 32). ap name_at (sym is))
      (λ (other : c.args.number ≡ 32 → ⊥). sym (get_or_past names c.args.number [] (omega arith)))
      (cases_eq c.args.number 32)
]
