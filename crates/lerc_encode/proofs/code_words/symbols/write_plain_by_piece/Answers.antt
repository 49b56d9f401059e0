use Rattle.std.proofs.Common.{◌≡◌, ℕ, ◌*◌, ◌-◌, Bool, List, length, take, refl, sym, ◌∙◌, subst, arith}
use Rattle.delta_mode.specs.Deltas.{plain}
use Rattle.delta_mode.proofs.PlainPieces.{plain_given}
use Rattle.huff_codes.specs.Codes.{canonical_codes}
use Rattle.huff_codes.specs.Pieces.{AreBegun}
use Rattle.huff_codes.specs.Written.{AreWritten}
use Rattle.lerc_encode.proofs.Given.{front_fits, whole_size}
use Rattle.lerc_encode.proofs.code_words.symbols.write_plain_by_piece.Goals as goal

pub loop-state-init : goal.loop-state-init
loop-state-init g c =
    let r = g.V.View.pixels c.args.bytes.now.raster.now in
    record {
      state = c.first_plain-state.ensures.state r;
      room_is = refl;
      codes_are = c.new-writer.ensures.codes;
      begun = subst (λ n. AreBegun c.new-writer.result c.args.out.now (take n (plain r))) (sym c.first_plain-state.ensures.none) (c.new-writer.ensures.begun c.args.out.now);
    }

pub write-requires : goal.write-requires
write-requires g c =
    let r = g.V.View.pixels c.args.bytes.now.raster.now in
    let all = plain r in
    let next = c.next_plain-next in
    let inv = c.loop-state.invariant in
    let size = c.requires.room in
    record { room = (take c.loop-state.state.given all, (inv.begun, front_fits c.loop-state.writer.codes (canonical_codes c.args.lengths.now) all _ c.loop-state.state.given next.result.given (length c.loop-state.out) inv.codes_are next.ensures.symbols (inv.room_is ∙ size))) }

pub loop-state-preserved : goal.loop-state-preserved
loop-state-preserved g c =
    let r = g.V.View.pixels c.args.bytes.now.raster.now in
    let next = c.next_plain-next in
    let inv = c.loop-state.invariant in
    record {
      state = next.ensures.state;
      room_is = c.write.auto.out ∙ inv.room_is;
      codes_are = c.write.ensures.codes ∙ inv.codes_are;
      begun = subst (λ (xs : List ℕ). AreBegun c.write.new.self c.write.new.out xs) (sym next.ensures.symbols) (c.write.ensures.begun (take c.loop-state.state.given (plain r)) inv.begun);
    }

pub end-requires : goal.end-requires
end-requires g c =
    let r = g.V.View.pixels c.args.bytes.now.raster.now in
    let inv = c.loop-state.invariant in
    let size : c.rows.result * c.cols.result ≡ r.rows * r.cols = λ i. c.rows.ensures.value i * c.cols.ensures.value i in
    let all = plain_given r c.rows.ensures.sound c.loop-state.state inv.state (let past = c.loop-state-test.false in omega (arith, past, size)) in
    record { room = (plain r, (subst (λ (xs : List ℕ). AreBegun c.loop-state.writer c.loop-state.out xs) all inv.begun, whole_size c.loop-state.writer.codes (canonical_codes c.args.lengths.now) (plain r) (length c.loop-state.out) (length c.args.out.now) inv.codes_are inv.room_is c.requires.room)) }

pub returns : goal.returns
returns g c =
    let r = g.V.View.pixels c.args.bytes.now.raster.now in
    let inv = c.loop-state.invariant in
    let size : c.rows.result * c.cols.result ≡ r.rows * r.cols = λ i. c.rows.ensures.value i * c.cols.ensures.value i in
    let all = plain_given r c.rows.ensures.sound c.loop-state.state inv.state (let past = c.loop-state-test.false in omega (arith, past, size)) in
    subst (λ (codes : List (List Bool)). AreWritten codes (plain r) c.end.new.out) inv.codes_are
    (c.end.ensures (plain r) (subst (λ (xs : List ℕ). AreBegun c.loop-state.writer c.loop-state.out xs) all inv.begun))
