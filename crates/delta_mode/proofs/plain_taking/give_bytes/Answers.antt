use Rattle.std.proofs.Common.{◌≡◌, ℕ, pos, ◌+◌, ◌-◌, ◌<◌, ◌-ℤ◌, length, get_or, sym, ap, ◌∙◌, arith, subst}
use Rattle.std.specs.Prelude.{All}
use Rattle.raster_cells.specs.PixelType.{InRange}
use Rattle.raster_cells.specs.Values.{values_above}
use Rattle.raster_cells.proofs.GivenBytes.{above_at, length-above}
use Rattle.raster_values.specs.Flat.{value_in}
use Rattle.delta_mode.specs.Symbols.{bias, symbol_of}
use Rattle.delta_mode.specs.Deltas.{is_valid}
use Rattle.delta_mode.specs.inside.Pieces.{value_of_place}
use Rattle.delta_mode.proofs.PlainTaking.{plain_symbol}
use Rattle.delta_mode.proofs.Runs.{bytes_fit}
use Rattle.delta_mode.proofs.StartBits.{marks_are}
use Rattle.delta_mode.proofs.plain_taking.give_bytes.Goals as goal

pub put_run-requires-clause-in_range : goal.put_run-requires-clause-in_range
put_run-requires-clause-in_range g c =
    let r = g.T.Target.pixels c.args.raster.now in
    let bytes = c.args.symbols.now in
    let is : c.bias_of-below.result ≡ bias r.kind = c.bias_of-below.ensures ∙ ap bias c.kind-kind.ensures.value in
    subst (λ (n : ℕ). All (InRange r.kind) (values_above n bytes)) (sym is) (bytes_fit r.kind bytes c.requires.kind (λ k lt. omega (arith, c.type_inv.symbols k)))

pub put_run-requires-clause-marked : goal.put_run-requires-clause-marked
put_run-requires-clause-marked g c = λ k ge lt.
    let r = g.T.Target.pixels c.args.raster.now in
    let i = k - c.args.place in
    let there : c.args.place + i ≡ k = omega (arith, ge) in
    let inside : i < length c.args.symbols.now = omega (arith, ge, lt) in
    marks_are r k ∙ ap (is_valid r) (sym there) ∙ c.requires.valid i inside

pub returns-clause-symbols : goal.returns-clause-symbols
returns-clause-symbols g c i lt =
    let r = g.T.Target.pixels c.args.raster.now in
    let bytes = c.args.symbols.now in
    let below = c.bias_of-below.result in
    let is : below ≡ bias r.kind = c.bias_of-below.ensures ∙ ap bias c.kind-kind.ensures.value in
    let small : get_or bytes i 0 < 256 = omega (arith, c.type_inv.symbols i) in
    let told : value_of_place (values_above below bytes) i ≡ pos (get_or bytes i 0) -ℤ pos below = above_at below bytes i lt in
    ap (symbol_of r.kind) (c.put_run.ensures.put.put i (omega (arith, lt, length-above below bytes)) (c.requires.valid i lt))
    ∙ plain_symbol r.kind below (get_or bytes i 0) (value_of_place (values_above below bytes) i) c.requires.kind is small told

pub returns-clause-rest : goal.returns-clause-rest
returns-clause-rest g c k e lt below other =
    c.put_run.ensures.put.rest k e lt below (λ from to_ is. other from (omega (arith, to_, length-above c.bias_of-below.result c.args.symbols.now)))

pub returns-clause-frame : goal.returns-clause-frame
returns-clause-frame g c = record { raster = c.put_run.ensures.sound; same = c.put_run.ensures.put.same; kept = c.put_run.ensures.kept }
