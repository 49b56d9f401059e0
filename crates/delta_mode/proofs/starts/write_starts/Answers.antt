use Rattle.std.proofs.Common.{◌≡◌, ℕ, ◌-◌, ◌^◌, ◌<◌, ◌≤◌, true, ap, ◌∙◌, arith}
use Rattle.std.specs.Int.{bit_at, trailing_zeros}
use Rattle.std.proofs.lemmas.Nat.Bits.{bit_at-trailing_zeros}
use Rattle.std.proofs.Math.Nat.{pow-le-pow_right}
use mir.Syntax.{w32}
use Rattle.raster_cells.specs.Words.{word_bit}
use Rattle.delta_mode.proofs.StartBits.{bit_within, fewer_bits, set_bit}
use Rattle.delta_mode.proofs.StartPieces.{starts_less, symbols_set}
use Rattle.delta_mode.proofs.starts.write_starts.Goals as goal

-- the lowest bit that is set is one of a pixel
lowest : (rest n : ℕ) → 0 < rest → rest < 2 ^ n → n ≤ 32 → (trailing_zeros w32 rest < n) × ((bit_at rest (trailing_zeros w32 rest) ≡ 1) × (word_bit n rest (n - 1 - trailing_zeros w32 rest) ≡ true))
lowest rest n some small few =
    let fits : rest < 2 ^ 32 = (let longer : 2 ^ n ≤ 2 ^ 32 = pow-le-pow_right (omega arith) few in omega (arith, small, longer)) in
    let h = bit_at-trailing_zeros w32 rest some fits in
    let low = bit_within rest n (trailing_zeros w32 rest) small h.1 in
    (low, (h.1, set_bit (bit_at rest (n - 1 - (n - 1 - trailing_zeros w32 rest))) (ap (bit_at rest) (let e : n - 1 - (n - 1 - trailing_zeros w32 rest) ≡ trailing_zeros w32 rest = omega (arith, low) in e) ∙ h.1)))

pub write_start-requires-clause-bit : goal.write_start-requires-clause-bit
write_start-requires-clause-bit g c = (lowest c.loop-rest.rest c.args.count c.loop-rest-test.true c.loop-rest.invariant.starts.below c.requires.few).0

pub write_start-requires-clause-valid : goal.write_start-requires-clause-valid
write_start-requires-clause-valid g c =
    let h = lowest c.loop-rest.rest c.args.count c.loop-rest-test.true c.loop-rest.invariant.starts.below c.requires.few in
    let some = h.0 in
    (c.loop-rest.invariant.starts.each (c.args.count - 1 - trailing_zeros w32 c.loop-rest.rest) (omega (arith, some)) h.1.1).0

pub write_start-requires-clause-left : goal.write_start-requires-clause-left
write_start-requires-clause-left g c =
    let h = lowest c.loop-rest.rest c.args.count c.loop-rest-test.true c.loop-rest.invariant.starts.below c.requires.few in
    let some = h.0 in
    (c.loop-rest.invariant.starts.each (c.args.count - 1 - trailing_zeros w32 c.loop-rest.rest) (omega (arith, some)) h.1.1).1

pub loop-rest-smaller : goal.loop-rest-smaller
loop-rest-smaller g c =
    let h = lowest c.loop-rest.rest c.args.count c.loop-rest-test.true c.loop-rest.invariant.starts.below c.requires.few in
    let low = h.0 in
    fewer_bits c.loop-rest.rest (trailing_zeros w32 c.loop-rest.rest) (omega (arith, low, c.requires.few)) h.1.0

pub loop-rest-preserved : goal.loop-rest-preserved
loop-rest-preserved g c =
    let r = g.V.View.pixels c.args.plane.now.raster.now in
    let inv = c.loop-rest.invariant in
    let rest = c.loop-rest.rest in
    let b = trailing_zeros w32 rest in
    let n = c.args.count in
    let h = lowest rest n c.loop-rest-test.true inv.starts.below c.requires.few in
    let low = h.0 in
    let w = c.write_start.ensures in
    record {
      room = c.write_start.auto.out ∙ inv.room;
      starts = starts_less r c.args.place n rest b c.requires.few low h.1.0 inv.starts;
      symbols = symbols_set r c.args.plane.now.d c.args.place n rest b c.loop-rest.out c.write_start.new.out c.requires.few low (inv.starts.each (n - 1 - b) (omega (arith, low)) h.1.1).0 inv.symbols w.here w.others;
    }
