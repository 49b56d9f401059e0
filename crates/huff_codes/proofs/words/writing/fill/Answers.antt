use Rattle.std.proofs.Common.{◌≡◌, ℕ, ◌-◌, ◌*◌, ◌/◌, ◌≤◌, List, Bool, ◌++◌, length, take, drop, ap, ◌∙◌, subst, arith, refl}
use Rattle.std.proofs.lemmas.List.{take_all}
use Rattle.huff_codes.specs.Words.{joined_codes}
use Rattle.huff_codes.specs.inside.Spans.{no_code}
use Rattle.huff_codes.specs.inside.Stored.{codes_held}
use Rattle.huff_codes.specs.inside.Filling.{IsPending}
use Rattle.huff_codes.proofs.Filling.{pending_first, pending_bits, code_fits, joined_held, joined_within, cleared, filled}
use Rattle.huff_codes.proofs.words.writing.fill.Goals as goal

pub loop-symbol-init : goal.loop-symbol-init
loop-symbol-init c = record { room = refl; pending = pending_first (codes_held c.args.codes.now) c.args.out.now _ _ _ (c.none-pending.ensures c.args.out.now) }

pub push-pending-requires-clause-room : goal.push-pending-requires-clause-room
push-pending-requires-clause-room c =
    let cs = c.args.codes.now in
    let symbols = c.args.symbols.now in
    let k = c.loop-symbol.symbol-index in
    let byte = c.type_inv.symbols k in
    let bits = pending_bits (joined_codes (codes_held cs) (take k symbols)) c.loop-symbol.out c.loop-symbol.pending.held c.loop-symbol.pending.count c.loop-symbol.pending.at c.loop-symbol.invariant.pending in
    let fits = code_fits cs symbols k c.from.result no_code c.from.ensures (omega (arith, c.from.ensures, byte)) c.requires.size c.requires.laid c.loop-symbol-test.true in
    omega (arith, bits, fits, c.requires.room, c.loop-symbol.invariant.room)

pub loop-symbol-preserved : goal.loop-symbol-preserved
loop-symbol-preserved c =
    let cs = c.args.codes.now in
    let symbols = c.args.symbols.now in
    let k = c.loop-symbol.symbol-index in
    let byte = c.type_inv.symbols k in
    let joined = joined_held cs symbols k c.from.result no_code c.from.ensures (omega (arith, c.from.ensures, byte)) c.requires.size c.loop-symbol-test.true in
    record {
      room = c.push-pending.auto.out ∙ c.loop-symbol.invariant.room;
      pending = subst (λ (bits : List Bool). IsPending bits c.push-pending.new.out c.push-pending.result.held c.push-pending.result.count c.push-pending.result.at) joined
          (c.push-pending.ensures.pending (joined_codes (codes_held cs) (take k symbols)) c.loop-symbol.invariant.pending);
    }

pub flush-end-requires-clause-room : goal.flush-end-requires-clause-room
flush-end-requires-clause-room c =
    let cs = c.args.codes.now in
    let symbols = c.args.symbols.now in
    let k = c.loop-symbol.symbol-index in
    let bits = pending_bits (joined_codes (codes_held cs) (take k symbols)) c.loop-symbol.out c.loop-symbol.pending.held c.loop-symbol.pending.count c.loop-symbol.pending.at c.loop-symbol.invariant.pending in
    let within = joined_within (codes_held cs) symbols k in
    omega (arith, bits, within, c.requires.room, c.loop-symbol.invariant.room)

pub returns : goal.returns
returns c =
    let cs = c.args.codes.now in
    let symbols = c.args.symbols.now in
    let k = c.loop-symbol.symbol-index in
    let out = c.flush-end.new.out in
    let end = c.flush-end.result in
    let all : take k symbols ≡ symbols = take_all k symbols c.loop-symbol-test.false in
    let pending = subst (λ (xs : List ℕ). IsPending (joined_codes (codes_held cs) xs) c.loop-symbol.out c.loop-symbol.pending.held c.loop-symbol.pending.count c.loop-symbol.pending.at) all c.loop-symbol.invariant.pending in
    let flushed = c.flush-end.ensures.flushed (joined_codes (codes_held cs) symbols) pending in
    let size : length out ≡ length c.args.out.now = c.flush-end.auto.out ∙ c.loop-symbol.invariant.room in
    let whole : length out ≡ 4 * (length c.args.out.now / 4) = omega (arith, size, c.requires.words) in
    let within : end ≤ length out = omega (arith, c.flush-end.ensures.within, c.flush-end.auto.out) in
    filled (joined_codes (codes_held cs) symbols) out _ end (length c.args.out.now / 4) flushed whole
    (ap (λ (xs : List ℕ). take end out ++ (xs ++ drop (length out - end) (drop end out))) c.clear.ensures ∙ cleared out end within)
