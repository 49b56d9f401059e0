use Rattle.std.proofs.Common.{◌+◌, ◌^◌, ◌<◌, ℕ, subst, sym}
use Rattle.lerc_decode.specs.inside.BandsStages.{IsRaised}
use Rattle.lerc_decode.proofs.Settled.{ends_at, ends_few, ends_no_room, refused_at, refused_few}
use Rattle.lerc_decode.proofs.streams.bands.settle.Goals as goal

pub add-requires-clause-few : goal.add-requires-clause-few
add-requires-clause-few c = ends_few c.requires.0 c.requires.1.0 c.args.front.now c.args.next _ c.in-Ends.is c.requires.1.1.0 c.requires.1.1.1

pub returns-in-Ok-clause-at : goal.returns-in-Ok-clause-at
returns-in-Ok-clause-at c = λ taken bytes. ends_at taken bytes c.args.front.now c.add.new.self c.args.next _ c.in-Ends.is c.in-Ok.ensures.ok

pub returns-in-Err-clause-at : goal.returns-in-Err-clause-at
returns-in-Err-clause-at c = λ taken bytes front. ends_no_room taken bytes c.args.front.now c.args.next _ c.in-Ends.is

pub raise_fault-requires : goal.raise_fault-requires
raise_fault-requires c =
    subst (λ (n : ℕ). n + c.in-Refused.fault.place < 2 ^ 64) (sym c.place.ensures)
    (refused_few c.requires.0 c.requires.1.0 c.args.front.now c.args.next _ c.in-Refused.is c.requires.1.1.0 c.requires.1.1.1)

pub returns-in-Refused-clause-at : goal.returns-in-Refused-clause-at
returns-in-Refused-clause-at c = λ taken bytes. refused_at taken bytes c.args.front.now c.args.next _ c.raise_fault.result c.in-Refused.is
    (subst (λ (n : ℕ). IsRaised c.in-Refused.fault n c.raise_fault.result) c.place.ensures c.raise_fault.ensures)
