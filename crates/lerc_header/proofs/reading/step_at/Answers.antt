use Rattle.std.proofs.Common.{◌≡◌, ℕ, pos, ◌+◌, refl, sym, ap, ◌∙◌, subst, inr, Result}
use Rattle.std.specs.Prelude.{IfErr}
use Rattle.double_bits.specs.Halves.{HalfDouble}
use Rattle.lerc_header.specs.declared.fault.BlobFault.{BlobFault}
use Rattle.raster_cells.specs.Step.{IsTwiceError}
use Rattle.lerc_header.specs.Head.{double_at, shift}
use Rattle.lerc_header.specs.inside.Tails.{step_faults}
use Rattle.lerc_header.proofs.Exits.{none_of}
use Rattle.lerc_header.proofs.reading.step_at.Goals as goal

pub returns-in-Some-clause-ok : goal.returns-in-Some-clause-ok
returns-in-Some-clause-ok c =
    let there : c.bits_at.result ≡ double_at c.args.bytes.now (38 + shift c.args.version) = c.bits_at.ensures ∙ ap (λ k. double_at c.args.bytes.now (38 + k)) c.shift-place.ensures in
    let has = (c.in-Some.ensures c.in-Some.step).0 refl in
    record { there = subst (λ bits. HalfDouble bits (pos c.in-Some.step)) there has.0; allowed = has.1 }

pub returns-in-None-clause-fault : goal.returns-in-None-clause-fault
returns-in-None-clause-fault c =
    let there : c.bits_at.result ≡ double_at c.args.bytes.now (38 + shift c.args.version) = c.bits_at.ensures ∙ ap (λ k. double_at c.args.bytes.now (38 + k)) c.shift-place.ensures in
    subst (λ (r : Result ℕ BlobFault). IfErr r (λ f. step_faults c.args.version c.args.bytes.now f.place f.reason)) (sym c.refuse.ensures)
    (inr (
      λ has. none_of (λ n. HalfDouble c.bits_at.result (pos n) × IsTwiceError n) c.in-None.ensures has.0 (subst (λ bits. HalfDouble bits (pos has.0)) (sym there) has.1.0, has.1.1),
      (ap (λ k. 38 + k) c.shift-place.ensures, refl),
    ))
