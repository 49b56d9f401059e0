use Rattle.std.proofs.Common.{◌⊎◌, ◌<◌, ◌≤◌, inl, inr, ap, arith, ⊎_elim}
use Rattle.std.proofs.lemmas.Bool.{cases_lt}
use Rattle.lerc_c.specs.Names.{name_at}
use Rattle.lerc_c.proofs.naming.reason_at.Goals as goal

pub returns-in-1 : goal.returns-in-1
returns-in-1 c = ap name_at c.in-1.is

pub returns-in-2 : goal.returns-in-2
returns-in-2 c = ap name_at c.in-2.is

pub returns-in-3 : goal.returns-in-3
returns-in-3 c = ap name_at c.in-3.is

pub returns-in-4 : goal.returns-in-4
returns-in-4 c = ap name_at c.in-4.is

pub returns-in-5 : goal.returns-in-5
returns-in-5 c = ap name_at c.in-5.is

pub returns-in-6 : goal.returns-in-6
returns-in-6 c = ap name_at c.in-6.is

pub returns-in-7 : goal.returns-in-7
returns-in-7 c = ap name_at c.in-7.is

pub returns-in-8 : goal.returns-in-8
returns-in-8 c = ap name_at c.in-8.is

pub returns-in-9 : goal.returns-in-9
returns-in-9 c = ap name_at c.in-9.is

pub returns-in-10 : goal.returns-in-10
returns-in-10 c = ap name_at c.in-10.is

pub returns-in-11 : goal.returns-in-11
returns-in-11 c = ap name_at c.in-11.is

pub returns-in-12 : goal.returns-in-12
returns-in-12 c = ap name_at c.in-12.is

pub returns-in-13 : goal.returns-in-13
returns-in-13 c = ap name_at c.in-13.is

pub returns-in-14 : goal.returns-in-14
returns-in-14 c = ap name_at c.in-14.is

pub returns-in-15 : goal.returns-in-15
returns-in-15 c = ap name_at c.in-15.is

pub returns-in-16 : goal.returns-in-16
returns-in-16 c = ap name_at c.in-16.is

pub returns-in-17 : goal.returns-in-17
returns-in-17 c = ap name_at c.in-17.is

pub returns-in-18 : goal.returns-in-18
returns-in-18 c = ap name_at c.in-18.is

pub returns-in-19 : goal.returns-in-19
returns-in-19 c = ap name_at c.in-19.is

pub returns-in-20 : goal.returns-in-20
returns-in-20 c = ap name_at c.in-20.is

pub returns-in-21 : goal.returns-in-21
returns-in-21 c = ap name_at c.in-21.is

pub returns-in-22 : goal.returns-in-22
returns-in-22 c = ap name_at c.in-22.is

pub returns-in-23 : goal.returns-in-23
returns-in-23 c = ap name_at c.in-23.is

pub returns-in-24 : goal.returns-in-24
returns-in-24 c = ap name_at c.in-24.is

pub returns-in-25 : goal.returns-in-25
returns-in-25 c = ap name_at c.in-25.is

pub returns-in-26 : goal.returns-in-26
returns-in-26 c = ap name_at c.in-26.is

pub returns-in-27 : goal.returns-in-27
returns-in-27 c = ap name_at c.in-27.is

pub returns-in-28 : goal.returns-in-28
returns-in-28 c = ap name_at c.in-28.is

pub returns-in-29 : goal.returns-in-29
returns-in-29 c = ap name_at c.in-29.is

pub returns-in-30 : goal.returns-in-30
returns-in-30 c = ap name_at c.in-30.is

pub returns-in-31 : goal.returns-in-31
returns-in-31 c = ap name_at c.in-31.is

pub returns-in_default : goal.returns-in_default
returns-in_default c =
    ⊎_elim
    (λ (past : 31 < c.args.number). inr past)
    (λ (few : c.args.number ≤ 31). inl (omega arith))
    (cases_lt 31 c.args.number)
