use Rattle.std.proofs.Common.{◌≡◌, ◌+◌, ◌*◌, ℕ, ℤ, List, length, sym, ap, ◌∙◌}
use Rattle.std.proofs.lemmas.List.{length-map}
use mir.Syntax.{w64}
use mir.Val.{of_z, to_z}
use Rattle.raster_cells.specs.declared.kind.PixelType.{PixelType}
use Rattle.raster_cells.specs.Distance.{value_above}
use Rattle.raster_cells.specs.PixelType.{bytes_of}
use Rattle.micro_block.specs.declared.choosing.Chosen.{Chosen}
use Rattle.micro_block.specs.ChosenBlock as chosen_block
use Rattle.micro_block.specs.ChosenBlock.{least_value, narrow_type, written_form_bytes}
use Rattle.micro_block.specs.inside.Forms.{IsChosen, named}
use Rattle.micro_block.specs.inside.Stepping.{values_above}
use Rattle.micro_block.proofs.Chosen.{form_is, form_len, form_may, simple_listable}
use Rattle.micro_block.proofs.Closed.{length_constant, length_raw, length_zero}
use Rattle.micro_block.proofs.Range.{reread}
use Rattle.micro_block.proofs.WriteSteps.{constant_is}
use Rattle.micro_block.proofs.writing.write_plain.Goals as goal

-- the least value as the code reads it again
again : (kind : PixelType) (col step : ℕ) (values : List ℤ) (c : Chosen) → IsChosen kind col step values c → to_z w64 (of_z w64 c.least) ≡ least_value values
again kind col step values c is = reread kind c.least is.fits ∙ is.least

pub write_zero-requires : goal.write_zero-requires
write_zero-requires c =
    let ctx = c.args.ctx.now in
    let vs = values_above ctx.kind c.args.distances.now in
    let e : named c.args.chosen.form ≡ chosen_block.zero = ap named c.in-Zero.is in
    record { room = form_len ctx.kind ctx.col ctx.step vs c.args.chosen chosen_block.zero (length c.args.out.now) c.requires.chosen e c.requires.room ∙ length_zero ctx.kind ctx.col ctx.step vs }

pub write_constant-requires-clause-room : goal.write_constant-requires-clause-room
write_constant-requires-clause-room c =
    let ctx = c.args.ctx.now in
    let vs = values_above ctx.kind c.args.distances.now in
    let e : named c.args.chosen.form ≡ chosen_block.constant = ap named c.in-Constant.is in
    form_len ctx.kind ctx.col ctx.step vs c.args.chosen chosen_block.constant (length c.args.out.now) c.requires.chosen e c.requires.room ∙ length_constant ctx.kind ctx.col ctx.step vs
    ∙ ap (λ (m : ℤ). 1 + bytes_of (narrow_type ctx.kind m)) (sym (again ctx.kind ctx.col ctx.step vs c.args.chosen c.requires.chosen))

pub write_raw-requires-clause-room : goal.write_raw-requires-clause-room
write_raw-requires-clause-room c =
    let ctx = c.args.ctx.now in
    let vs = values_above ctx.kind c.args.distances.now in
    let e : named c.args.chosen.form ≡ chosen_block.raw = ap named c.in-Raw.is in
    form_len ctx.kind ctx.col ctx.step vs c.args.chosen chosen_block.raw (length c.args.out.now) c.requires.chosen e c.requires.room ∙ length_raw ctx.kind ctx.col ctx.step vs
    ∙ ap (λ (n : ℕ). 1 + n * bytes_of ctx.kind) (length-map c.args.distances.now (value_above ctx.kind))

pub write_simple_form-requires-clause-listable : goal.write_simple_form-requires-clause-listable
write_simple_form-requires-clause-listable c =
    let ctx = c.args.ctx.now in
    let ds = c.args.distances.now in
    let e : named c.args.chosen.form ≡ chosen_block.simple = ap named c.in-Simple.is in
    simple_listable ctx.kind ctx.step ds c.args.spread c.requires.few c.requires.spread (form_may ctx.kind ctx.col ctx.step (values_above ctx.kind ds) c.args.chosen chosen_block.simple c.requires.chosen e)

pub write_simple_form-requires-clause-room : goal.write_simple_form-requires-clause-room
write_simple_form-requires-clause-room c =
    let ctx = c.args.ctx.now in
    let e : named c.args.chosen.form ≡ chosen_block.simple = ap named c.in-Simple.is in
    form_len ctx.kind ctx.col ctx.step (values_above ctx.kind c.args.distances.now) c.args.chosen chosen_block.simple (length c.args.out.now) c.requires.chosen e c.requires.room

pub returns-in-Zero : goal.returns-in-Zero
unfolding written_form_bytes
returns-in-Zero c =
    let ctx = c.args.ctx.now in
    let e : named c.args.chosen.form ≡ chosen_block.zero = ap named c.in-Zero.is in
    c.write_zero.ensures ∙ form_is ctx.kind ctx.col ctx.step (values_above ctx.kind c.args.distances.now) c.args.chosen chosen_block.zero c.requires.chosen e

pub returns-in-Constant : goal.returns-in-Constant
returns-in-Constant c =
    let ctx = c.args.ctx.now in
    let vs = values_above ctx.kind c.args.distances.now in
    let e : named c.args.chosen.form ≡ chosen_block.constant = ap named c.in-Constant.is in
    c.write_constant.ensures ∙ constant_is ctx.kind ctx.col ctx.step vs (to_z w64 (of_z w64 c.args.chosen.least)) (again ctx.kind ctx.col ctx.step vs c.args.chosen c.requires.chosen)
    ∙ form_is ctx.kind ctx.col ctx.step vs c.args.chosen chosen_block.constant c.requires.chosen e

pub returns-in-Raw : goal.returns-in-Raw
unfolding written_form_bytes
returns-in-Raw c =
    let ctx = c.args.ctx.now in
    let e : named c.args.chosen.form ≡ chosen_block.raw = ap named c.in-Raw.is in
    c.write_raw.ensures ∙ form_is ctx.kind ctx.col ctx.step (values_above ctx.kind c.args.distances.now) c.args.chosen chosen_block.raw c.requires.chosen e

pub returns-in-Simple : goal.returns-in-Simple
returns-in-Simple c =
    let ctx = c.args.ctx.now in
    let e : named c.args.chosen.form ≡ chosen_block.simple = ap named c.in-Simple.is in
    c.write_simple_form.ensures ∙ form_is ctx.kind ctx.col ctx.step (values_above ctx.kind c.args.distances.now) c.args.chosen chosen_block.simple c.requires.chosen e
