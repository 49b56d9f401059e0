use Rattle.std.proofs.Common.{refl, inl, inr, arith}
use Rattle.lerc_c.proofs.header_counting.headed_size.Goals as goal

pub returns-in-Err-clause-fault : goal.returns-in-Err-clause-fault
returns-in-Err-clause-fault c = inl ((c.in-Err.ensures.fault c.in-Err.fault).0 refl)

pub returns-then-rest-size-clause-fault : goal.returns-then-rest-size-clause-fault
returns-then-rest-size-clause-fault c = inr (c.in-Ok.header, ((c.in-Ok.ensures.ok c.in-Ok.header).0 refl, (omega (arith, c.if-rest-size.true), (refl, refl))))

pub returns-clause-ok : goal.returns-clause-ok
returns-clause-ok c = record {
  header = c.in-Ok.header;
  stands = (c.in-Ok.ensures.ok c.in-Ok.header).0 refl;
  size_is = refl;
  within = omega (arith, c.if-rest-size.false);
}
