use Rattle.std.proofs.Common.{◌≡◌, ℤ, ◌+◌, ◌≤ℤ◌, sym, subst, arith, Result}
use Rattle.std.specs.Prelude.{IfErr}
use Rattle.std.proofs.lemmas.Int.{ints}
use mir.Syntax.{w64}
use mir.Val.{to_z, of_z}
use Rattle.lerc_header.specs.declared.fault.BlobFault.{BlobFault}
use Rattle.lerc_header.specs.Head.{RangeAt, shift}
use Rattle.lerc_header.specs.inside.Tails.{range_faults}
use Rattle.lerc_header.proofs.Exits.{none_of, some_of, some_has}
use Rattle.lerc_header.proofs.Ranges.{cast_whole}
use Rattle.lerc_header.proofs.ReadParts.{IsValueAt, no_greatest, range_found}
use Rattle.lerc_header.proofs.reading.range_at.Goals as goal

pub returns-in_default-value_at-clause-fault : goal.returns-in_default-value_at-clause-fault
returns-in_default-value_at-clause-fault c =
    let bytes = c.args.bytes.now in
    let s = c.shift-place.result in
    let low = some_has (IsValueAt bytes (46 + s) c.args.kind) c.in-Some.least c.in-Some.ensures in
    subst (λ (r : Result (ℤ × ℤ) BlobFault). IfErr r (λ f. range_faults c.args.version bytes f.place f.reason)) (sym c.refuse-in_default-value_at.ensures)
    (no_greatest c.args.version bytes c.args.kind c.args.valid s c.in-Some.least c.shift-place.ensures c.requires.kind c.requires.valid c.if-valid-eq0.false low
    (λ z h ordered. none_of (IsValueAt bytes (46 + s + 8) c.args.kind) c.in_default-value_at.ensures z h))

pub returns-then-greatest-least-clause-fault : goal.returns-then-greatest-least-clause-fault
returns-then-greatest-least-clause-fault c =
    let bytes = c.args.bytes.now in
    let s = c.shift-place.result in
    let Low = IsValueAt bytes (46 + s) c.args.kind in
    let High = IsValueAt bytes (46 + s + 8) c.args.kind in
    let low = some_has Low c.in-Some.least c.in-Some.ensures in
    let high = some_has High c.in-Some-value_at.greatest c.in-Some-value_at.ensures in
    let cast_low = cast_whole _ c.in-Some.least low.0 in
    let cast_high = cast_whole _ c.in-Some-value_at.greatest high.0 in
    subst (λ (r : Result (ℤ × ℤ) BlobFault). IfErr r (λ f. range_faults c.args.version bytes f.place f.reason)) (sym c.refuse-then-greatest-least.ensures)
    (no_greatest c.args.version bytes c.args.kind c.args.valid s c.in-Some.least c.shift-place.ensures c.requires.kind c.requires.valid c.if-valid-eq0.false low
    (λ z h ordered. (let same : c.in-Some-value_at.greatest ≡ z = some_of High c.in-Some-value_at.greatest c.in-Some-value_at.ensures z h in
    omega (arith, ints, cast_low, cast_high, same, ordered, c.if-greatest-least.true))))

pub returns-clause-ok : goal.returns-clause-ok
returns-clause-ok c =
    let bytes = c.args.bytes.now in
    let s = c.shift-place.result in
    let Low = IsValueAt bytes (46 + s) c.args.kind in
    let High = IsValueAt bytes (46 + s + 8) c.args.kind in
    let low = some_has Low c.in-Some.least c.in-Some.ensures in
    let high = some_has High c.in-Some-value_at.greatest c.in-Some-value_at.ensures in
    let cast_low : to_z w64 (of_z w64 c.in-Some.least) ≡ c.in-Some.least = cast_whole _ c.in-Some.least low.0 in
    let cast_high : to_z w64 (of_z w64 c.in-Some-value_at.greatest) ≡ c.in-Some-value_at.greatest = cast_whole _ c.in-Some-value_at.greatest high.0 in
    let ordered : c.in-Some.least ≤ℤ c.in-Some-value_at.greatest = omega (arith, ints, cast_low, cast_high, c.if-greatest-least.false) in
    subst (λ (p : ℤ × ℤ). RangeAt bytes (46 + shift c.args.version) c.args.kind c.args.valid p.0 p.1) (λ i. (sym cast_low i, sym cast_high i))
    (range_found c.args.version bytes c.args.kind c.args.valid s c.in-Some.least c.in-Some-value_at.greatest c.shift-place.ensures (omega (arith, c.if-valid-eq0.false)) low high ordered)
