use Rattle.std.proofs.Common.{ℕ, ◌-◌, Bool, List, length, take, refl, sym, ap, ◌∙◌, subst, arith}
use Rattle.delta_mode.specs.EncodeStates.{deltas_of_all}
use Rattle.delta_mode.proofs.EncodeStates.{all_given}
use Rattle.huff_codes.specs.Codes.{canonical_codes}
use Rattle.huff_codes.specs.Pieces.{AreBegun}
use Rattle.huff_codes.specs.Written.{AreWritten, written_size}
use Rattle.lerc_encode.specs.Images.{all_deltas}
use Rattle.lerc_encode.proofs.Given.{all_is, front_fits, whole_size}
use Rattle.lerc_encode.proofs.code_words.symbols.write_deltas.Goals as goal

pub loop-state-init : goal.loop-state-init
loop-state-init g c =
    let r = g.V.View.pixels c.args.bytes.now.raster.now in
    record {
      state = c.first_state-state.ensures.state r c.depth-depth.ensures.sound;
      room_is = refl;
      codes_are = c.new-writer.ensures.codes;
      begun = subst (λ n. AreBegun c.new-writer.result c.args.out.now (take n (deltas_of_all r))) (sym c.first_state-state.ensures.none) (c.new-writer.ensures.begun c.args.out.now);
    }

pub write-requires : goal.write-requires
write-requires g c =
    let r = g.V.View.pixels c.args.bytes.now.raster.now in
    let all = deltas_of_all r in
    let next = c.next_deltas-next in
    let inv = c.loop-state.invariant in
    let size = c.requires.room ∙ ap (written_size (canonical_codes c.args.lengths.now)) (sym (all_is r)) in
    record { room = (take c.loop-state.state.given all, (inv.begun, front_fits c.loop-state.writer.codes (canonical_codes c.args.lengths.now) all _ c.loop-state.state.given next.result.given (length c.loop-state.out) inv.codes_are next.ensures.symbols (inv.room_is ∙ size))) }

pub loop-state-preserved : goal.loop-state-preserved
loop-state-preserved g c =
    let r = g.V.View.pixels c.args.bytes.now.raster.now in
    let next = c.next_deltas-next in
    let inv = c.loop-state.invariant in
    record {
      state = next.ensures.state;
      room_is = c.write.auto.out ∙ inv.room_is;
      codes_are = c.write.ensures.codes ∙ inv.codes_are;
      begun = subst (λ (xs : List ℕ). AreBegun c.write.new.self c.write.new.out xs) (sym next.ensures.symbols) (c.write.ensures.begun (take c.loop-state.state.given (deltas_of_all r)) inv.begun);
    }

pub end-requires : goal.end-requires
end-requires g c =
    let r = g.V.View.pixels c.args.bytes.now.raster.now in
    let inv = c.loop-state.invariant in
    let value = c.depth-depth.ensures.value in
    let all = all_given r c.depth-depth.ensures.sound c.loop-state.state inv.state (let past = c.loop-state-test.false in omega (arith, past, value)) ∙ all_is r in
    record { room = (all_deltas r, (subst (λ (xs : List ℕ). AreBegun c.loop-state.writer c.loop-state.out xs) all inv.begun, whole_size c.loop-state.writer.codes (canonical_codes c.args.lengths.now) (all_deltas r) (length c.loop-state.out) (length c.args.out.now) inv.codes_are inv.room_is c.requires.room)) }

pub returns : goal.returns
returns g c =
    let r = g.V.View.pixels c.args.bytes.now.raster.now in
    let inv = c.loop-state.invariant in
    let value = c.depth-depth.ensures.value in
    let all = all_given r c.depth-depth.ensures.sound c.loop-state.state inv.state (let past = c.loop-state-test.false in omega (arith, past, value)) ∙ all_is r in
    subst (λ (codes : List (List Bool)). AreWritten codes (all_deltas r) c.end.new.out) inv.codes_are
    (c.end.ensures (all_deltas r) (subst (λ (xs : List ℕ). AreBegun c.loop-state.writer c.loop-state.out xs) all inv.begun))
