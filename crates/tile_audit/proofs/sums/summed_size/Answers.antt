use Rattle.std.proofs.Common.{◌≡◌, ◌+◌, ◌-◌, inl, inr, pos, take, drop, refl, sym, ap, subst, ◌∙◌, arith}
use Rattle.std.specs.Prelude.{unsigned_abs}
use Rattle.std.proofs.lemmas.Int.{ints}
use Rattle.std.proofs.lemmas.List.{length-take-le}
use mir.Syntax.{w32}
use mir.Val.{to_z, of_z}
use Rattle.lerc_header.specs.declared.fault.BlobReason.TheVariants.{BadChecksum}
use Rattle.lerc_header.specs.Checksum.{sum_of}
use Rattle.lerc_header.specs.Head.{i32_at, shift}
use Rattle.lerc_grammar.specs.declared.bands.BandReason.TheVariants.{Blob as OfBlob}
use Rattle.lerc_grammar.specs.declared.bands.BandsFault.{BandsFault}
use Rattle.tile_audit.specs.Sums.{FloatFault, in_bytes}
use Rattle.tile_audit.proofs.Floats.{same_size, sized}
use Rattle.tile_audit.proofs.SomeVerdict.{stands_so}
use Rattle.tile_audit.proofs.sums.summed_size.Goals as goal

pub returns-then-rest-size-clause-fault : goal.returns-then-rest-size-clause-fault
returns-then-rest-size-clause-fault c =
    let rest = c.args.rest.now in
    let s = sized c.args.version rest c.requires.floats in
    let at : c.head_length.result - 32 ≡ 30 + shift c.args.version = omega (arith, c.head_length.ensures) in
    let z = c.signed_at-size.ensures ∙ ap (λ p. i32_at rest p) at ∙ s.is in
    let cast : c.signed_at-size.result ≡ pos (unsigned_abs (to_z w32 (of_z w32 c.signed_at-size.result))) = omega (arith, ints, c.signed_at-size.type_inv, z) in
    let same = same_size c.args.version rest (c.head_length.result - 32) c.signed_at-size.result _ s at c.signed_at-size.ensures cast in
    let short = c.if-rest-size.true in
    subst (λ (f : BandsFault). FloatFault rest f.place f.reason) (sym c.fault_of.ensures) (in_bytes c.args.version s.size c.requires.floats s.is (inr (λ within. omega (arith, short, same, within), (refl, refl))))

pub sum_behind-computed-requires : goal.sum_behind-computed-requires
sum_behind-computed-requires c =
    let rest = c.args.rest.now in
    let s = sized c.args.version rest c.requires.floats in
    let at : c.head_length.result - 32 ≡ 30 + shift c.args.version = omega (arith, c.head_length.ensures) in
    let z = c.signed_at-size.ensures ∙ ap (λ p. i32_at rest p) at ∙ s.is in
    let cast : c.signed_at-size.result ≡ pos (unsigned_abs (to_z w32 (of_z w32 c.signed_at-size.result))) = omega (arith, ints, c.signed_at-size.type_inv, z) in
    let same = same_size c.args.version rest (c.head_length.result - 32) c.signed_at-size.result _ s at c.signed_at-size.ensures cast in
    omega (arith, length-take-le (unsigned_abs (to_z w32 (of_z w32 c.signed_at-size.result))) rest c.if-rest-size.false, same, s.above)

pub returns-then-stored-computed-clause-fault : goal.returns-then-stored-computed-clause-fault
returns-then-stored-computed-clause-fault c =
    let rest = c.args.rest.now in
    let s = sized c.args.version rest c.requires.floats in
    let at : c.head_length.result - 32 ≡ 30 + shift c.args.version = omega (arith, c.head_length.ensures) in
    let z = c.signed_at-size.ensures ∙ ap (λ p. i32_at rest p) at ∙ s.is in
    let cast : c.signed_at-size.result ≡ pos (unsigned_abs (to_z w32 (of_z w32 c.signed_at-size.result))) = omega (arith, ints, c.signed_at-size.type_inv, z) in
    let same = same_size c.args.version rest (c.head_length.result - 32) c.signed_at-size.result _ s at c.signed_at-size.ensures cast in
    let sum : c.sum_behind-computed.result ≡ sum_of (drop 14 (take s.size rest)) = c.sum_behind-computed.ensures ∙ ap (λ n. sum_of (drop 14 (take n rest))) same in
    let stored = c.stored_sum-stored.ensures in
    let within = c.if-rest-size.false in
    subst (λ (f : BandsFault). FloatFault rest f.place f.reason) (sym c.fault_of-then-stored-computed.ensures)
    (in_bytes c.args.version s.size c.requires.floats s.is (inl (omega (arith, within, same), inr (λ e. c.if-stored-computed.true (stored ∙ e ∙ sym sum), (refl, λ i. OfBlob (BadChecksum (stored i) (sum i)))))))

pub returns-clause-ok : goal.returns-clause-ok
returns-clause-ok c =
    let rest = c.args.rest.now in
    let s = sized c.args.version rest c.requires.floats in
    let at : c.head_length.result - 32 ≡ 30 + shift c.args.version = omega (arith, c.head_length.ensures) in
    let z = c.signed_at-size.ensures ∙ ap (λ p. i32_at rest p) at ∙ s.is in
    let cast : c.signed_at-size.result ≡ pos (unsigned_abs (to_z w32 (of_z w32 c.signed_at-size.result))) = omega (arith, ints, c.signed_at-size.type_inv, z) in
    let same = same_size c.args.version rest (c.head_length.result - 32) c.signed_at-size.result _ s at c.signed_at-size.ensures cast in (
      omega (arith, same, s.above),
      (
        c.if-rest-size.false,
        stands_so c.args.version _ rest c.requires.floats (s.is ∙ ap pos (sym same)) (omega (arith, same, s.above)) c.if-rest-size.false (sym c.stored_sum-stored.ensures ∙ c.if-stored-computed.false ∙ c.sum_behind-computed.ensures),
      ),
    )
